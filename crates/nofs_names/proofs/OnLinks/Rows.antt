-- The refusals of Link, part by part.
use Rattle.std.proofs.Common.{◌≡◌, ℕ, ◌+◌, ◌/◌, ◌^◌, ◌<◌, inl, inr, Bool, true, false, not, eqb, ◌&&◌, is_some, ltb}
use Rattle.std.proofs.Common.{List, [], ◌∷◌, ◌++◌}
use Rattle.std.proofs.Common.{Option, Some, None, IsTrue, Result, Ok, Err, IfErr, refl, sym, ap, ◌∙◌, subst, arith}
use Rattle.nofs_dirent.specs.Entries.{entry_limit, spelled_entry}
use Rattle.nofs_disk.specs.Disk.{DiskState, IsDisk, StaysButFaults, Rose, cell_at}
use Rattle.nofs_disk.specs.Chains.{StaysButFaults-refl, StaysButFaults-trans}
use Rattle.nofs_dirent.specs.Names.{is_name}
use Rattle.nofs_dirent.specs.EntryLaws.{Spells}
use Rattle.nofs_disk.specs.declared.tag.Cell.{Cell}
use Rattle.nofs_dirent.specs.declared.entry.Entry.{Entry}
use Rattle.nofs_inode.specs.declared.inode.Record.{Record}
use Rattle.nofs_model.specs.Geometry.{Image}
use Rattle.nofs_history.specs.Search.{first_of}
use Rattle.nofs_history.specs.Machine.{generation_of, is_folder_at, found, link_place, link_to, place_for}
use Rattle.nofs_history.specs.World.{World, blocks_needed, free_blocks, next_block, unverified_blocks}
use Rattle.nofs_history.specs.Claims.{no_claims}
use Rattle.nofs_history.specs.Refusals.{row, rows}
use Rattle.nofs_history.specs.History.{FilesMatch}
use Rattle.nofs_history.specs.declared.machine.history.Entry1.{Entry1}
use Rattle.nofs_history.specs.declared.machine.steps.Step.{Step}
use Rattle.nofs_history.specs.declared.machine.steps.Step.TheVariants as step
use Rattle.nofs_history.specs.declared.machine.replies.Reply.TheVariants as reply
use Rattle.nofs_history.specs.declared.machine.replies.Refusal.{Refusal}
use Rattle.nofs_history.specs.declared.machine.replies.Refusal.TheVariants as refusal
use Rattle.nofs_crashlaw.proofs.OnUntouched.Matches.{matched-agreed}
use Rattle.nofs_crashlaw.proofs.OnNames.Places.{law-entry-place}
use Rattle.nofs_state.proofs.OnCores.Unchanged.{open-keeps, reads-keep, safe-keeps}
use Rattle.nofs_state.proofs.OnBooks.Machine.{agreed-live, are-agreed}
use Rattle.nofs_state.proofs.OnCores.Replies.{goes-early, goes-row, goes-read, open-files}
use Rattle.nofs_state.proofs.OnCores.Refusals.{IsLate, first-late, late-row}
use Rattle.nofs_names.proofs.OnSteps.Reads.{rows-on}
use Rattle.nofs_names.proofs.OnSteps.Parts.{first-left, fails-after}
use Rattle.nofs_names.proofs.OnSteps.Refusals.{exists-none, place-is}
use Rattle.nofs_agree.specs.declared.reads.LastRead.{LastRead}
use Rattle.nofs_agree.proofs.OnChain.{told-on}
use Rattle.nofs_state.specs.Books.Maps.{IsSafe}
use Rattle.nofs_state.specs.Cores.Invariant.{IsOpen, Past}
use Rattle.nofs_state.specs.Cores.Steps.{Goes}
use Rattle.nofs_state.specs.declared.books.maps.Books.{Books}
use Rattle.nofs_names.specs.Searches.Slots.{Passed}
use Rattle.nofs_names.specs.Searches.Refusals.{Fails, ByRow, ByRead, FindsNone, IsThere, KnownTrue, exists_rows}
use Rattle.nofs_names.specs.Renames.Parts.{done_answer}
use Rattle.nofs_state.specs.Writes.Premises.{RowsPass}
use Rattle.nofs_names.specs.Entries.Tables.{table_block}
use Rattle.nofs_state.specs.declared.writes.ends.Ended.{Ended}
use Rattle.nofs_names.specs.Entries.Places.{FindsEntrySlot, FitsSlot, IsEntrySlot, IsSlotCell, IsPlaceOf}
use Rattle.nofs_names.specs.Entries.Places.{SlotFails, TakesBlocks, slot_blocks, place_or_full, room_rows}
use Rattle.nofs_names.specs.declared.entries.places.EntryBlocks.{EntryBlocks}
use Rattle.nofs_names.specs.declared.entries.places.EntrySlot.{EntrySlot}
use Rattle.nofs_names.specs.declared.searches.slots.Unfound.{Unfound}
use Rattle.nofs_names.specs.Entries.Writes.{Enters, MayEnter, ReadsTables}
use Rattle.nofs_names.specs.declared.entries.writes.EntryPlace.{EntryPlace}
use Rattle.nofs_names.specs.declared.entries.writes.Tables.{Tables}
use Rattle.nofs_names.specs.Links.{FindsLinkPlace, IsKnown, Leads, MayLink, OpensBoth, PlaceIs, SpotIs}
use Rattle.nofs_names.specs.Links.{StandsLink, block_rows, both_rows}
use Rattle.nofs_names.specs.Links.{with_link, many_rows, named_rows, new_rows, place_rows}
use Rattle.nofs_names.specs.declared.links.new_name.Both.{Both}
use Rattle.nofs_names.proofs.OnLinks.Claims.{slot-needs}
use Rattle.nofs_names.proofs.OnLinks.Ends.{enters-goes}
use Rattle.nofs_names.proofs.OnLinks.Reads.{passed-inside, both-on, there-both-on, place-on, spot-on, leads-on}
use Rattle.nofs_names.proofs.OnLinks.Reads.{leads-next}

module _ (old : DiskState) (k : Books) (d g : ℕ) (name : List ℕ) (i of : ℕ) (is : IsDisk old) (safe : IsSafe old k)
    (going : k.stopped ≡ false) where
  abbrev s : Step
  s = step.Link d g name i of

  pub link-bad : is_name name ≡ false
      → Goes old k old k (step.Link d g name i of) no_claims (reply.Refused refusal.BadName)
  link-bad bad = goes-early old old k (step.Link d g name i of) is safe
      (StaysButFaults-refl old) refl refusal.BadName refl tt going (rw bad refl) (λ tells H p o. rw bad refl)

  module _ (ok : is_name name ≡ true) where
    rows-are : (W V : World) → first_of (rows W V (step.Link d g name i of)) ≡ first_of
        (both_rows d g i of W ++ named_rows d name i (step.Link d g name i of) W V)
    rows-are W V = rw ok refl

    late : (W : World) → IsLate (first_of (rows W W (step.Link d g name i of)))
    late W why e = first-late (both_rows d g i of W ++ named_rows d name i (step.Link d g name i of) W W) (
      late-row (not (is_some (W.files d) && eqb (generation_of W.files d) g)) refusal.Stale refl,
      (
        late-row (not (is_some (W.files i) && eqb (generation_of W.files i) of)) refusal.Stale refl,
        (
          late-row (not (is_folder_at W.files d)) refusal.NotDirectory refl,
          (
            late-row (is_folder_at W.files i) refusal.IsDirectory refl,
            (
              late-row (is_some (found W.files d name)) refusal.Exists refl,
              (
                late-row (not (is_some (link_place W.files i))) refusal.TooManyLinks refl,
                (
                  late-row (not (is_some (place_for W.files d name))) refusal.DirectoryFull refl,
                  (
                    late-row (ltb (free_blocks W) (blocks_needed W.files (step.Link d g name i of)))
                        (refusal.Full (blocks_needed W.files (step.Link d g name i of)) (free_blocks W)
                        (unverified_blocks W) (next_block W)) refl,
                    (
                      late-row (ltb (2 ^ 40) (W.serial + 0 + blocks_needed W.files (step.Link d g name i of)))
                          refusal.SerialsSpent refl,
                      tt,
                    ),
                  ),
                ),
              ),
            ),
          ),
        ),
      ),
    ) why (sym (rows-are W W) ∙ e)

    pub lead-first : Leads old k (step.Link d g name i of)
        (λ W V. both_rows d g i of W ++ named_rows d name i (step.Link d g name i of) W V)
    lead-first t H p o V = rows-are p.world V

    -- a read failed
    pub link-unread : (mid : DiskState) → StaysButFaults old mid → Rose old.faults mid.faults
        → Goes old k mid k (step.Link d g name i of) no_claims (reply.Refused refusal.ReadFault)
    link-unread mid stays rose =
        goes-read old mid k (step.Link d g name i of) is safe stays going rose (λ t H p o. late p.world)

    -- a part refuses
    pub link-fails : (mid : DiskState) (given : Image → Type 0) (part : World → List (Option Refusal))
        (rest : World → World → List (Option Refusal))
        (why : Refusal) → StaysButFaults old mid → Leads old k (step.Link d g name i of) (λ W V. part W ++ rest W V)
        → Fails old mid given part why
        → (IsTrue old.tells → (H : List Entry1) (p : Past) → IsOpen old k H p → given old.now)
        → Goes old k mid k (step.Link d g name i of) no_claims (reply.Refused why)
    link-fails mid given part rest why stays lead (ByRow plain range same comes) of_open =
        goes-row old mid k (step.Link d g name i of) is safe stays same why plain
        range going
        (λ t H p o. lead t H p o p.world ∙ first-left (part p.world) (rest p.world p.world) why
        (comes t (of_open t H p o) p.world (open-files old k H p o)))
    link-fails mid given part rest why stays lead (ByRead e rose) of_open = subst
        (λ (w : Refusal). Goes old k mid k (step.Link d g name i of) no_claims (reply.Refused w)) (sym e)
        (link-unread mid stays rose)

    -- The directory and the file

    pub link-unopened : (mid : DiskState) (res : Result Both Refusal) (why : Refusal)
        → OpensBoth old mid k d g i of res → res ≡ Err why
        → Goes old k mid k (step.Link d g name i of) no_claims (reply.Refused why)
    link-unopened mid res why opens e = link-fails mid (KnownTrue k) (both_rows d g i of)
        (named_rows d name i (step.Link d g name i of)) why opens.stays
        lead-first
        (subst (λ (r : Result Both Refusal). IfErr r (Fails old mid (KnownTrue k) (both_rows d g i of)))
        e opens.refused)
        (λ t H p o. are-agreed old k H p safe o)

    pub link-stands : (mid : DiskState) (b : Both) → OpensBoth old mid k d g i of (Ok b)
        → StandsLink mid k d g name i of b
    link-stands mid b opens =
        record { known = opens.known; there = there-both-on old mid k d i opens.stays opens.there; name_is = ok }

    pub link-leads : (mid : DiskState) (b : Both) → OpensBoth old mid k d g i of (Ok b)
        → Leads mid k (step.Link d g name i of) (named_rows d name i (step.Link d g name i of))
    link-leads mid b opens =
        leads-on old mid k (step.Link d g name i of) (named_rows d name i (step.Link d g name i of)) opens.stays
        (leads-next old k (step.Link d g name i of) (both_rows d g i of)
        (named_rows d name i (step.Link d g name i of)) lead-first
        (λ t H p o. opens.passes t (are-agreed old k H p safe o) p.world (open-files old k H p o)))

    -- The name and the back link

    module _ (there : IsTrue old.tells → KnownTrue k old.now → IsThere d old.now × IsThere i old.now)
        (lead : Leads old k (step.Link d g name i of) (named_rows d name i (step.Link d g name i of))) where
      there-d : IsTrue old.tells → (H : List Entry1) (p : Past) → IsOpen old k H p → IsThere d old.now
      there-d t H p o = (there t (are-agreed old k H p safe o)).0

      known-i : IsTrue old.tells → (H : List Entry1) (p : Past) → IsOpen old k H p → IsKnown k.agreement i old.now
      known-i t H p o = (are-agreed old k H p safe o, (there t (are-agreed old k H p safe o)).1)

      pub link-exists : (mid : DiskState) (names records : LastRead) (res : Result Unfound Refusal) (why : Refusal)
          → FindsNone old mid d name names records res → res ≡ Err why
          → Goes old k mid k (step.Link d g name i of) no_claims (reply.Refused why)
      link-exists mid names records res why none e = link-fails mid (IsThere d) (exists_rows d name)
          (λ W V. many_rows i W ++ new_rows d name (step.Link d g name i of) W V) why none.stays lead
          (subst (λ (r : Result Unfound Refusal). IfErr r (Fails old mid (IsThere d) (exists_rows d name))) e
          none.refused) there-d

      module _ (mid : DiskState) (names records : LastRead) (u : Unfound)
          (none : FindsNone old mid d name names records (Ok u)) where
        passed : IsTrue old.tells → (H : List Entry1) (p : Past) → IsOpen old k H p
            → Passed p.world.files d name true entry_limit 72 u
        passed t H p o = none.seen t (there-d t H p o) p.world.files (open-files old k H p o)

        lead-many : Leads old k (step.Link d g name i of)
            (λ W V. many_rows i W ++ new_rows d name (step.Link d g name i of) W V)
        lead-many = leads-next old k (step.Link d g name i of) (exists_rows d name)
            (λ W V. many_rows i W ++ new_rows d name (step.Link d g name i of) W V)
            lead
            (λ t H p o. let n = exists-none p.world d name u (passed t H p o) in rw n refl)

        module _ (end : DiskState) (last : LastRead) where
          pub link-many : (res : Result ℕ Refusal) (why : Refusal)
              → FindsLinkPlace mid end k.agreement i last res → res ≡ Err why
              → Goes old k end k (step.Link d g name i of) no_claims (reply.Refused why)
          link-many res why finds e =
              link-fails end (IsKnown k.agreement i) (many_rows i) (new_rows d name (step.Link d g name i of)) why
              (StaysButFaults-trans old mid end none.stays finds.stays) lead-many
              (fails-after old mid end (IsKnown k.agreement i) (many_rows i) why none.stays none.no_fault
              (subst (λ (r : Result ℕ Refusal). IfErr r (Fails mid end (IsKnown k.agreement i) (many_rows i))) e
              finds.refused)) known-i

          module _ (b : ℕ) (finds : FindsLinkPlace mid end k.agreement i last (Ok b)) where
            stays : StaysButFaults old end
            stays = StaysButFaults-trans old mid end none.stays finds.stays

            spot-here : SpotIs old k i b
            spot-here t H p o = subst (λ (X : Image). IsKnown k.agreement i X → FilesMatch p.world.files X
                → link_place p.world.files i ≡ Some b)
                none.stays.cells.now
                (λ known match. finds.found (told-on old mid none.stays t) known p.world.files match) (known-i t H p o)
                (open-files old k H p o)

            pub link-spot : SpotIs end k i b
            link-spot = spot-on old end k i b stays spot-here

            lead-place : Leads old k (step.Link d g name i of) (new_rows d name (step.Link d g name i of))
            lead-place = leads-next old k (step.Link d g name i of) (many_rows i)
                (new_rows d name (step.Link d g name i of)) lead-many
                (λ t H p o. let n = spot-here t H p o in rw n refl)

            place-as : (res : Result ℕ Refusal) → IsPlaceOf u res → IsTrue old.tells
                → (H : List Entry1) (p : Past) → IsOpen old k H p
                → res ≡ place_or_full (place_for p.world.files d name)
            place-as res is_place t H p o = is_place (passed-inside p.world.files d name u (passed t H p o))
                ∙ ap place_or_full
                (sym (place-is p.world.files d name u (passed t H p o)))

            pub link-full : (res : Result ℕ Refusal) → IsPlaceOf u res → res ≡ Err refusal.DirectoryFull
                → Goes old k end k (step.Link d g name i of) no_claims (reply.Refused refusal.DirectoryFull)
            link-full res is_place e =
                goes-row old end k (step.Link d g name i of) is safe stays
                (finds.no_fault ∙ none.no_fault) refusal.DirectoryFull refl tt going
                (λ t H p o. lead-place t H p o p.world
                ∙ go p (place_for p.world.files d name) refl (sym e ∙ place-as res is_place t H p o))
              where
                go : (p : Past) (q : Option ℕ) → place_for p.world.files d name ≡ q
                    → Err refusal.DirectoryFull ≡ place_or_full (place_for p.world.files d name)
                    → first_of (new_rows d name (step.Link d g name i of) p.world p.world) ≡ Some refusal.DirectoryFull
                go p None eq h = rw eq refl
                go p (Some n) eq h = absurd (let z : Err refusal.DirectoryFull ≡ Ok n = h ∙ ap place_or_full eq in cc z)

            pub link-place : (res : Result ℕ Refusal) (e : ℕ) → IsPlaceOf u res → res ≡ Ok e → PlaceIs end k d name e
            link-place res e is_place er = place-on old end k d name e stays
                (λ t H p o. go (place_for p.world.files d name) (sym er ∙ place-as res is_place t H p o))
              where
                go : (q : Option ℕ) → Ok e ≡ place_or_full q → q ≡ Some e
                go None h = cc h
                go (Some n) h = let z : e ≡ n = cc h in ap Some (sym z)

            pub link-lead-blocks : (res : Result ℕ Refusal) (e : ℕ) → IsPlaceOf u res → res ≡ Ok e
                → Leads end k (step.Link d g name i of) (block_rows (step.Link d g name i of))
            link-lead-blocks res e is_place er =
                leads-on old end k (step.Link d g name i of) (block_rows (step.Link d g name i of)) stays
                (leads-next old k (step.Link d g name i of) (place_rows d name)
                (block_rows (step.Link d g name i of)) lead-place
                (λ t H p o. let n = link-place res e is_place er (told-on old end stays t) H p
                (open-keeps old end (reads-keep old end stays) k H p o) in rw n
                refl))

    -- The blocks

    module _ (there : IsTrue old.tells → KnownTrue k old.now → IsThere d old.now × IsThere i old.now) (e : ℕ)
        (place : PlaceIs old k d name e)
        (lead : Leads old k (step.Link d g name i of) (block_rows (step.Link d g name i of))) where
      -- a new entry never goes into a slot that is lost
      pub link-unslotted : (mid : DiskState) (last : LastRead) (res : Result EntrySlot Refusal) (why : Refusal)
          → FindsEntrySlot old mid k.at d (e / 16) last res → res ≡ Err why
          → Goes old k mid k (step.Link d g name i of) no_claims (reply.Refused why)
      link-unslotted mid last res why finds er =
          go (subst (λ (r : Result EntrySlot Refusal). IfErr r (SlotFails old mid d (e / 16))) er finds.refused)
        where
          go : SlotFails old mid d (e / 16) why
              → Goes old k mid k (step.Link d g name i of) no_claims (reply.Refused why)
          go (inl f) =
              goes-row old mid k (step.Link d g name i of) is safe finds.stays f.3 why f.0 f.1 going (λ t H p o.
              let a = (there t (are-agreed old k H p safe o)).0 in
              let m = matched-agreed p.world.files old.now d (open-files old k H p o) (agreed-live old.now d a) a in
              let law = law-entry-place p.world.files old.now d e name m.file (open-files old k H p o) m.is
              (place t H p o) in
              let no_slot = f.2 t in
              absurd (elim law.2 [ inl h ↦ no_slot.0 h.0 h.1 | inr h ↦ no_slot.1 h ]))
          go (inr f) =
              subst (λ (w : Refusal). Goes old k mid k (step.Link d g name i of) no_claims (reply.Refused w)) (sym f.0)
              (link-unread mid finds.stays f.1)

      module _ (mid : DiskState) (stays : StaysButFaults old mid) (same : mid.faults ≡ old.faults) (n : ℕ)
          (needs : IsTrue old.tells → (H : List Entry1) (p : Past) → IsOpen old k H p
          → blocks_needed p.world.files (step.Link d g name i of) ≡ n) where
        rows-by : (H : List Entry1) (p : Past) → IsTrue old.tells → IsOpen old k H p → (V : World)
            → first_of (rows p.world V (step.Link d g name i of)) ≡ first_of (room_rows n 0 p.world V)
        rows-by H p t o V = lead t H p o V ∙ (let q = needs t H p o in λ j. first_of
            (row (ltb (free_blocks p.world) (q j))
            (refusal.Full (q j) (free_blocks V) (unverified_blocks V) (next_block V)) ∷ row
            (ltb (2 ^ 40) (p.world.serial + 0 + q j)) refusal.SerialsSpent ∷ []))

        pub link-untaken : (res : Result EntryBlocks Refusal) (why : Refusal) → TakesBlocks k n 0 res → res ≡ Err why
            → Goes old k mid k (step.Link d g name i of) no_claims (reply.Refused why)
        link-untaken res why takes er =
            let f = subst (λ (r : Result EntryBlocks Refusal). TakesBlocks k n 0 r) er takes in
            goes-row old mid k (step.Link d g name i of) is safe stays same why f.refused.0 f.refused.1 going
            (λ t H p o. rows-by H p t o p.world ∙ f.refused.2 p.world o.says)

        pub link-passes : (b : EntryBlocks) → TakesBlocks k n 0 (Ok b) → RowsPass mid k (step.Link d g name i of)
        link-passes b takes = rows-on old mid stays k (step.Link d g name i of)
            (λ t H p o V. rows-by H p t o V ∙ takes.passes p.world V o.says)

-- how many blocks are asked for
pub link-needs : (old : DiskState) (k : Books) (d g : ℕ) (name : List ℕ) (i of : ℕ) → IsSafe old k
    → (IsTrue old.tells → KnownTrue k old.now → IsThere d old.now × IsThere i old.now)
    → (e : ℕ) → e < entry_limit → PlaceIs old k d name e
    → (s : EntrySlot) → FitsSlot k.at (e / 16) s → (IsTrue old.tells → IsEntrySlot old.now d (e / 16) s)
    → IsTrue old.tells → (H : List Entry1) (p : Past)
    → IsOpen old k H p → blocks_needed p.world.files (step.Link d g name i of) ≡ slot_blocks s
link-needs old k d g name i of safe there e range place s fits found t H p o =
    let q = place t H p o in
    rw q (slot-needs p.world.files old.now d (e / 16) (open-files old k H p o)
    (there t (are-agreed old k H p safe o)).0 (omega (arith, range)) s (found t) (
      (λ z. subst (λ (w : EntrySlot). FitsSlot k.at (e / 16) w) z fits),
      (λ y z. (subst (λ (w : EntrySlot). FitsSlot k.at (e / 16) w) z fits).0),
      (λ z. subst (λ (w : EntrySlot). FitsSlot k.at (e / 16) w) z fits),
    ))

-- what Link knows stands after more reads
pub may-link-on : (old new : DiskState) (k : Books) (d g : ℕ) (both : Both) (p : EntryPlace) (it : Entry) (spot : ℕ)
    → StaysButFaults old new
    → MayLink old k d g both p it spot → MayLink new k d g both p it spot
may-link-on old new k d g both p it spot stays m = record {
  known = both-on old new k d g it.inode it.generation both stays m.known;
  there = there-both-on old new k d it.inode stays m.there;
  place = place-on old new k d it.name p.entry stays m.place;
  link = spot-on old new k it.inode spot stays m.link;
  slot = λ t. subst (λ (X : Image). IsEntrySlot X d (p.entry / 16) p.slot) (sym stays.cells.now)
      (m.slot (subst (λ (b : Bool). IsTrue b) stays.disk.tells t));
  cell = λ t. subst (λ (X : Image). IsSlotCell X p.slot p.cell) (sym stays.cells.now)
      (m.cell (subst (λ (b : Bool). IsTrue b) stays.disk.tells t));
  spells = m.spells;
  rows = rows-on old new stays k (step.Link d g it.name it.inode it.generation) m.rows;
}

-- the table was not read
pub link-untold : (old mid : DiskState) (k : Books) (d g : ℕ) (both : Both) (p : EntryPlace) (it : Entry) (spot : ℕ)
    → IsDisk old → IsSafe old k
    → k.stopped ≡ false → MayLink old k d g both p it spot → StaysButFaults old mid → Rose old.faults mid.faults
    → Goes old k mid k (step.Link d g it.name it.inode it.generation) no_claims (reply.Refused refusal.ReadFault)
link-untold old mid k d g both p it spot is safe going may stays rose =
    goes-read old mid k (step.Link d g it.name it.inode it.generation) is safe stays going
    rose (λ t H q o w c. absurd (let n = may.rows t H q o q.world in cc (n, c)))

-- the writes, from the state after the tables were read
pub link-ends : (old mid new : DiskState) (k l : Books) (d g : ℕ) (both : Both) (p : EntryPlace) (it : Entry) (spot : ℕ)
    (t : Tables) (ended : Ended)
    (r : Record) (last_read : LastRead) → IsDisk mid → IsDisk new → IsSafe old k
    → k.stopped ≡ false → MayLink old k d g both p it spot
    → (before : Record) → MayEnter old k d both.directory p.entry p.slot p.blocks it before
    → ReadsTables old mid d it.inode last_read (Ok t)
    → r ≡ with_link both.file spot (link_to d p.entry both.directory.generation)
    → Enters mid k new l d both.directory p it r t p.slot ended
    → Goes mid k new l (step.Link d g it.name it.inode it.generation) ended.claims
    (done_answer reply.Linked ended.result)
link-ends old mid new k l d g both p it spot t ended r last_read is_mid is_new safe going may before enters reads e w =
    enters-goes old mid new k l d g both p it spot t ended before (record {
      disk = is_mid;
      safe = safe-keeps old mid (reads-keep old mid reads.stays) k safe;
      may = may-link-on old mid k d g both p it spot reads.stays may;
      enters = enters;
      at_d = λ z. reads.directory (back z)
          ∙ ap (λ (X : Image). cell_at X (table_block d)) (sym reads.stays.cells.now);
      at_i = λ z. reads.inode (back z)
          ∙ ap (λ (X : Image). cell_at X (table_block it.inode)) (sym reads.stays.cells.now);
    }) is_new going
    (subst (λ (q : Record). Enters mid k new l d both.directory p it q t p.slot ended) e w)
  where
    back : IsTrue mid.tells → IsTrue old.tells
    back z = subst (λ (b : Bool). IsTrue b) reads.stays.disk.tells z

-- all that Link knows before it writes
pub link-may : (old mid : DiskState) (k : Books) (d g : ℕ) (name : List ℕ) (i of : ℕ) (both : Both) (p : EntryPlace)
    (spot : ℕ) (last : LastRead)
    → StaysButFaults old mid → StandsLink old k d g name i of both → PlaceIs old k d name p.entry → SpotIs old k i spot
    → FindsEntrySlot old mid k.at d (p.entry / 16) last (Ok p.slot)
    → Spells (spelled_entry i of name) (record { inode = i; generation = of; name = name })
    → RowsPass mid k (step.Link d g name i of) → p.cell ≡ last.cell
    → MayLink mid k d g both p (record { inode = i; generation = of; name = name }) spot
link-may old mid k d g name i of both p spot last stays stands place link finds spells pass cell = record {
  known = both-on old mid k d g i of both stays stands.known;
  there = there-both-on old mid k d i stays stands.there;
  place = place-on old mid k d name p.entry stays place;
  link = spot-on old mid k i spot stays link;
  slot = λ t. subst (λ (X : Image). IsEntrySlot X d (p.entry / 16) p.slot) (sym stays.cells.now)
      (finds.found (subst (λ (b : Bool). IsTrue b) stays.disk.tells t));
  cell = λ t. subst (λ (X : Image). IsSlotCell X p.slot p.cell) (sym stays.cells.now)
      (subst (λ (z : Cell). IsSlotCell old.now p.slot z) (sym cell)
      (finds.cell (subst (λ (b : Bool). IsTrue b) stays.disk.tells t)));
  spells = spells;
  rows = pass;
}

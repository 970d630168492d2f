-- The refusals of Make.
use Rattle.std.proofs.Common.{◌≡◌, ℕ, ◌+◌, ◌-◌, ◌/◌, ◌^◌, ◌<◌, ◌≤◌, inl, inr, Bool, true, false, not, eqb, ltb, ◌&&◌}
use Rattle.std.proofs.Common.{◌||◌, is_some, List, ◌∷◌, ◌++◌, length}
use Rattle.std.proofs.Common.{Option, Some, None, IsTrue, Result, Ok, Err, IfErr, refl, sym, ap, ◌∙◌, subst, arith}
use Rattle.std.proofs.lemmas.Bool.Decides.{nat_tests}
use Rattle.std.proofs.lemmas.List.Sums.{count_by-le-length}
use Rattle.nofs_dirent.specs.Entries.{entry_limit}
use Rattle.nofs_bits.specs.Bits.{count_set, is_set}
use Rattle.nofs_disk.specs.Disk.{DiskState, IsDisk, StaysButFaults}
use Rattle.nofs_disk.specs.Chains.{StaysButFaults-refl, StaysButFaults-trans}
use Rattle.nofs_dirent.specs.Names.{is_name}
use Rattle.nofs_inode.specs.declared.inode.FileKind.{FileKind}
use Rattle.nofs_disk.specs.declared.tag.Pointer.{Pointer}
use Rattle.nofs_inode.specs.declared.inode.Record.{Record}
use Rattle.nofs_super.specs.declared.superblock.SuperBlock.{SuperBlock}
use Rattle.nofs_model.specs.Geometry.{Image}
use Rattle.nofs_model.specs.Slots.{find}
use Rattle.nofs_ptrs.specs.Paths.{path_of}
use Rattle.nofs_model.specs.Files.{Files}
use Rattle.nofs_model.specs.declared.image.path.PathAnswer.TheVariants as answer
use Rattle.nofs_history.specs.Search.{first_of, least_from}
use Rattle.nofs_history.specs.Machine.{generation_of, is_folder_at, found, place_for}
use Rattle.nofs_history.specs.World.{World, free_inodes, blocks_needed}
use Rattle.nofs_history.specs.Claims.{no_claims}
use Rattle.nofs_history.specs.Refusals.{rows, directory_full, row}
use Rattle.nofs_history.specs.History.{FilesMatch}
use Rattle.nofs_history.specs.declared.machine.history.Entry1.{Entry1}
use Rattle.nofs_history.specs.declared.machine.steps.Step.TheVariants as step
use Rattle.nofs_history.specs.declared.machine.replies.Reply.TheVariants as reply
use Rattle.nofs_history.specs.declared.machine.replies.Refusal.{Refusal}
use Rattle.nofs_history.specs.declared.machine.replies.Refusal.TheVariants as refusal
use Rattle.nofs_agree.specs.declared.reads.LastRead.{LastRead}
use Rattle.nofs_agree.proofs.OnChain.{told-on}
use Rattle.nofs_crashlaw.proofs.OnNames.Places.{law-entry-place}
use Rattle.nofs_state.proofs.OnBooks.Counts.{free-inodes-count, unknown-inodes-count, none-free, some-free}
use Rattle.nofs_state.proofs.OnCores.Unchanged.{open-back, reads-keep}
use Rattle.nofs_state.proofs.OnCores.Replies.{goes-row, goes-read, open-files}
use Rattle.nofs_state.proofs.OnCores.Refusals.{IsLate, first-late, late-row}
use Rattle.nofs_state.proofs.OnBooks.Machine.{are-agreed, agreed-live}
use Rattle.nofs_names.proofs.OnSteps.Reads.{directory-on, there-on}
use Rattle.nofs_names.proofs.OnSteps.Refusals.{exists-none, place-is}
use Rattle.nofs_names.proofs.OnSteps.Parts.{Unopened, directory-passes, first-right, goes-bad, goes-unopened}
use Rattle.nofs_names.proofs.OnSteps.Parts.{goes-within}
use Rattle.nofs_crashlaw.proofs.OnNames.Premises.{least-passes}
use Rattle.nofs_state.specs.Books.Maps.{IsSafe, Says}
use Rattle.nofs_state.specs.Cores.Invariant.{IsOpen, Past}
use Rattle.nofs_state.specs.Cores.Steps.{Goes, is_late}
use Rattle.nofs_state.specs.declared.books.maps.Books.{Books}
use Rattle.nofs_names.specs.Searches.Slots.{Passed}
use Rattle.nofs_names.specs.Searches.Refusals.{KnownTrue, IsThere, directory_rows, exists_rows, OpensDirectory}
use Rattle.nofs_names.specs.Searches.Refusals.{FindsNone}
use Rattle.nofs_names.specs.Entries.Places.{FindsEntrySlot, FitsSlot, IsEntrySlot, IsPlaceOf, IsSlotCell, LiesInside}
use Rattle.nofs_names.specs.Entries.Places.{SlotFails, TakesBlocks, slot_blocks, room_rows, place_or_full}
use Rattle.nofs_state.specs.declared.writes.ends.Ended.{Ended}
use Rattle.nofs_names.specs.declared.entries.writes.EntryPlace.{EntryPlace}
use Rattle.nofs_names.specs.declared.entries.places.EntryBlocks.{EntryBlocks}
use Rattle.nofs_names.specs.declared.entries.places.EntrySlot.{EntrySlot}
use Rattle.nofs_names.specs.declared.searches.slots.Unfound.{Unfound}
use Rattle.nofs_state.specs.Writes.Premises.{RowsPass}
use Rattle.nofs_names.specs.Links.{PlaceIs}
use Rattle.nofs_names.specs.Makes.{FindsInode, MayMake, NoInode, RowsLeft, RoomLeft, made_answer, room_left}
use Rattle.nofs_names.proofs.OnMakes.Claims.{make-asks}
use Rattle.nofs_crashlaw.proofs.OnUntouched.Matches.{matched-agreed}
use Rattle.nofs_history.specs.Steps.{InRange}

not-less : (a b : ℕ) → b ≤ a → ltb a b ≡ false
not-less a b h = grind (arith, nat_tests)

zero-test : (n : ℕ) → n ≡ 0 → eqb n 0 ≡ true
zero-test n e = grind (arith, nat_tests)

some-test : (n : ℕ) → 1 ≤ n → eqb n 0 ≡ false
some-test n h = grind (arith, nat_tests)

-- what was seen of a directory lies in it
pub passed-inside : (F : Files) (d : ℕ) (name : List ℕ) (u : Unfound) → Passed F d name true entry_limit 72 u
    → LiesInside u
passed-inside F d name u p = record {
  dead = bound _ entry_limit u.dead p.dead;
  empty = bound _ entry_limit u.empty (p.empty refl);
  hole = bound _ 72 u.hole p.hole;
}
  where
    bound : (test : ℕ → Bool) (n : ℕ) (o : Option ℕ)
        → least_from test 0 n ≡ o → Rattle.std.specs.Prelude.IfSome o (λ e. e < n)
    bound test n None e = tt
    bound test n (Some x) e = let q = (least-passes test 0 n x e).1 in omega (arith, q)

module _ (old : DiskState) (k : Books) (d g : ℕ) (name : List ℕ) (kind : FileKind) (is : IsDisk old)
    (safe : IsSafe old k) (going : k.stopped ≡ false) where
  pub make-bad : is_name name ≡ false
      → Goes old k old k (step.Make d g name kind) no_claims (reply.Refused refusal.BadName)
  make-bad bad = goes-bad old k (step.Make d g name kind) is safe going (rw bad refl) (λ W. rw bad refl)

  module _ (ok : is_name name ≡ true) where
    rows-are : (W V : World) → first_of (rows W V (step.Make d g name kind)) ≡ first_of
        (directory_rows d g W ++ (exists_rows d name W ++ (directory_full W d name ∷ room_left d g name kind W V)))
    rows-are W V = rw ok refl

    pub make-late : (W : World) → IsLate (first_of (rows W W (step.Make d g name kind)))
    make-late W why e = first-late (directory_rows d g W
        ++ (exists_rows d name W ++ (directory_full W d name ∷ room_left d g name kind W W))) (
          late-row (not (is_some (W.files d) && eqb (generation_of W.files d) g)) refusal.Stale refl,
          (
            late-row (not (is_folder_at W.files d)) refusal.NotDirectory refl,
            (
              late-row (is_some (found W.files d name)) refusal.Exists refl,
              (
                late-row (not (is_some (place_for W.files d name))) refusal.DirectoryFull refl,
                (late-row _ _ refl, (late-row _ _ refl, (late-row _ refusal.SerialsSpent refl, tt))),
              ),
            ),
          ),
        ) why (sym (rows-are W W) ∙ e)

    pub make-unopened : Unopened old k d g (step.Make d g name kind)
    make-unopened = goes-unopened old k d g (step.Make d g name kind)
        (λ W. exists_rows d name W ++ (directory_full W d name ∷ room_left d g name kind W W)) is safe going
        (λ W. rows-are W W) make-late

    module _ (mid : DiskState) (last : LastRead) (r : Record) (opens : OpensDirectory old mid k d g last (Ok r))
        (new : DiskState)
        (names records : LastRead) where
      to-exists : IsTrue old.tells → (H : List Entry1) (p : Past) → IsOpen old k H p → (V : World)
          → first_of (rows p.world V (step.Make d g name kind)) ≡ first_of
          (exists_rows d name p.world ++ (directory_full p.world d name ∷ room_left d g name kind p.world V))
      to-exists t H p o V = rows-are p.world V ∙ first-right (directory_rows d g p.world)
          (exists_rows d name p.world ++ (directory_full p.world d name ∷ room_left d g name kind p.world V))
          (directory-passes old mid k d g last r safe opens t H p o)

      pub make-exists : (res : Result Unfound Refusal) (why : Refusal)
          → FindsNone mid new d name names records res → res ≡ Err why
          → Goes old k new k (step.Make d g name kind) no_claims (reply.Refused why)
      make-exists res why none e = goes-within old mid k d g last r safe opens new (step.Make d g name kind)
          (exists_rows d name) (λ W. directory_full W d name ∷ room_left d g name kind W W) res why is going
          (λ W. rows-are W W) make-late none.stays e none.refused

      module _ (u : Unfound) (none : FindsNone mid new d name names records (Ok u)) where
        stays : StaysButFaults old new
        stays = StaysButFaults-trans old mid new opens.stays none.stays

        passed : IsTrue old.tells → (H : List Entry1) (p : Past) → IsOpen old k H p
            → Passed p.world.files d name true entry_limit 72 u
        passed t H p o = subst (λ (X : Image). IsThere d X → FilesMatch p.world.files X
            → Passed p.world.files d name true entry_limit 72 u) opens.stays.cells.now
            (λ b m. none.seen (told-on old mid opens.stays t) b p.world.files m)
            (opens.there t (are-agreed old k H p safe o)) (open-files old k H p o)

        to-place : IsTrue old.tells → (H : List Entry1) (p : Past) → IsOpen old k H p → (V : World)
            → first_of (rows p.world V (step.Make d g name kind))
            ≡ first_of (directory_full p.world d name ∷ room_left d g name kind p.world V)
        to-place t H p o V = to-exists t H p o V
            ∙ (let n = exists-none p.world d name u (passed t H p o) in first-right (exists_rows d name p.world)
            (directory_full p.world d name ∷ room_left d g name kind p.world V) (rw n refl))

        place-here : (res : Result ℕ Refusal) → IsPlaceOf u res → IsTrue old.tells
            → (H : List Entry1) (p : Past) → IsOpen old k H p
            → res ≡ place_or_full (place_for p.world.files d name)
        place-here res place t H p o = place (passed-inside p.world.files d name u (passed t H p o))
            ∙ ap place_or_full (sym (place-is p.world.files d name u (passed t H p o)))

        -- no place for the entry
        pub make-no-place : (res : Result ℕ Refusal) (why : Refusal) → IsPlaceOf u res → res ≡ Err why
            → why ≡ refusal.DirectoryFull
            → Goes old k new k (step.Make d g name kind) no_claims (reply.Refused why)
        make-no-place res why place e full-is = subst
            (λ (w : Refusal). Goes old k new k (step.Make d g name kind) no_claims (reply.Refused w)) (sym full-is)
            (goes-row old new k (step.Make d g name kind) is safe stays
            (none.no_fault ∙ opens.no_fault) refusal.DirectoryFull refl tt going
            (λ t H p o. to-place t H p o p.world
            ∙ row-comes (place_for p.world.files d name) refl (sym e ∙ place-here res place t H p o) p))
          where
            row-comes : (o : Option ℕ) → (o ≡ o) → Err why ≡ place_or_full o → (p : Past)
                → first_of (row (not (is_some o)) refusal.DirectoryFull
                ∷ room_left d g name kind p.world p.world) ≡ Some
                refusal.DirectoryFull
            row-comes None q h p = refl
            row-comes (Some x) q h p = cc h

        pub make-place : (res : Result ℕ Refusal) (e : ℕ) → IsPlaceOf u res → res ≡ Ok e → PlaceIs new k d name e
        make-place res e place is-e t H p o =
            let told : IsTrue old.tells = subst (λ (b : Bool). IsTrue b) stays.disk.tells t in
            let before : IsOpen old k H p = open-back old new (reads-keep old new stays) k H p o in
            go (place_for p.world.files d name) (sym is-e ∙ place-here res place told H p before)
          where
            go : (q : Option ℕ) → Ok e ≡ place_or_full q → q ≡ Some e
            go None h = cc h
            go (Some x) h = let s : x ≡ e = cc h in ap Some s

        pub make-room : (e : ℕ) → PlaceIs new k d name e → RowsLeft new k d g name kind
        make-room e place t H p o V =
            let told : IsTrue old.tells = subst (λ (b : Bool). IsTrue b) stays.disk.tells t in
            let before : IsOpen old k H p = open-back old new (reads-keep old new stays) k H p o in
            let q = place t H p o in
            to-place told H p before V ∙ rw q refl

-- From the place on

module _ (old : DiskState) (k : Books) (d g : ℕ) (name : List ℕ) (kind : FileKind) (is : IsDisk old)
    (safe : IsSafe old k) (going : k.stopped ≡ false)
    (left : RowsLeft old k d g name kind) where
  room-late : IsTrue old.tells → (H : List Entry1) (p : Past) → IsOpen old k H p
      → IsLate (first_of (rows p.world p.world (step.Make d g name kind)))
  room-late t H p o why e = first-late (room_left d g name kind p.world p.world)
      (late-row _ _ refl, (late-row _ _ refl, (late-row _ refusal.SerialsSpent refl, tt))) why
      (sym (left t H p o p.world) ∙ e)

  -- the slot was not found
  pub make-no-slot : (e : ℕ) (there : IsTrue old.tells → KnownTrue k old.now → IsThere d old.now)
      → PlaceIs old k d name e
      → (mid : DiskState) (at : SuperBlock) (last : LastRead) (res : Result EntrySlot Refusal) (why : Refusal)
      → FindsEntrySlot old mid at d (e / 16) last res
      → res ≡ Err why → Goes old k mid k (step.Make d g name kind) no_claims (reply.Refused why)
  make-no-slot e there place mid at last res why finds is-e =
      go (subst (λ (z : Result EntrySlot Refusal). IfErr z (SlotFails old mid d (e / 16))) is-e
      finds.refused)
    where
      go : SlotFails old mid d (e / 16) why → Goes old k mid k (step.Make d g name kind) no_claims (reply.Refused why)
      go (inl f) = goes-row old mid k (step.Make d g name kind) is safe finds.stays f.3 why f.0 f.1 going
          (λ t H p o. absurd (never t H p o (f.2 t)))
        where
          never : IsTrue old.tells → (H : List Entry1) (p : Past) → IsOpen old k H p
              → ((x : Pointer) → find old.now d (path_of (e / 16)) ≡ answer.Holds x → ⊥)
              × (find old.now d (path_of (e / 16)) ≡ answer.Hole → ⊥) → ⊥
          never t H p o none =
              let m = matched-agreed p.world.files old.now d (open-files old k H p o)
              (agreed-live old.now d (there t (are-agreed old k H p safe o))) (there t (are-agreed old k H p safe o)) in
              elim (law-entry-place p.world.files old.now d e name m.file (open-files old k H p o) m.is
              (place t H p o)).2
              [ inl h ↦ none.0 h.0 h.1 | inr h ↦ none.1 h ]
      go (inr f) =
          subst (λ (w : Refusal). Goes old k mid k (step.Make d g name kind) no_claims (reply.Refused w)) (sym f.0)
          (goes-read old mid k (step.Make d g name kind) is safe finds.stays going f.1 (λ t H p o. room-late t H p o))

  -- no inode is known to be free
  pub make-no-inode : (res : Result ℕ Refusal) (why : Refusal) → FindsInode k res → res ≡ Err why
      → Goes old k old k (step.Make d g name kind) no_claims (reply.Refused why)
  make-no-inode res why finds is-e = go (subst (λ (z : Result ℕ Refusal). IfErr z (NoInode k)) is-e finds.refused)
    where
      few-unknown : count_set k.unknown_inodes < 2 ^ 64
      few-unknown =
          let c = count_by-le-length (λ bit. bit) k.unknown_inodes in
          let l = safe.unknown_inodes in
          let m = safe.at.geometry.most_inodes in
          omega (arith, c, l, m)

      go : NoInode k why → Goes old k old k (step.Make d g name kind) no_claims (reply.Refused why)
      go (inl ((next, is-why, small, same), none)) =
          subst (λ (w : Refusal). Goes old k old k (step.Make d g name kind) no_claims (reply.Refused w))
          (sym is-why)
          (goes-row old old k (step.Make d g name kind) is safe (StaysButFaults-refl old) refl
          (refusal.InodesFull (count_set k.unknown_inodes) next) refl
          (few-unknown, omega (arith, small)) going
          (λ t H p o.
          let z : free_inodes p.world ≡ 0 = sym (free-inodes-count old k p.world safe o.says)
          ∙ none-free k.free_inodes none in
          let b : eqb (free_inodes p.world) 0 ≡ true = zero-test (free_inodes p.world) z in
          left t H p o p.world
          ∙ rw b (λ j. Some (refusal.InodesFull (sym (unknown-inodes-count old k p.world safe o.says) j)
          (sym (same p.world o.says safe.unknown_inodes) j)))))
      go (inr (is-why, low)) =
          subst (λ (w : Refusal). Goes old k old k (step.Make d g name kind) no_claims (reply.Refused w)) (sym is-why)
          (goes-row old old k (step.Make d g name kind) is safe
          (StaysButFaults-refl old) refl refusal.SerialsSpent refl tt going
          (λ t H p o. absurd (raised (ltb 0 k.at.mount) refl (ltb 0 k.serial) refl low p H o)))
        where
          raised : (a : Bool) → ltb 0 k.at.mount ≡ a → (b : Bool) → ltb 0 k.serial ≡ b → (a || b) ≡ false → (p : Past)
              (H : List Entry1) → IsOpen old k H p → ⊥
          raised true ea b eb e p H o = cc e
          raised false ea true eb e p H o = cc e
          raised false ea false eb e p H o =
              let m = Rattle.std.proofs.Common.ltb-false 0 k.at.mount ea in
              let s = Rattle.std.proofs.Common.ltb-false 0 k.serial eb in
              let q = o.stage.ready.positive in
              let wm = o.says.mount in
              let ws = o.says.serial in
              omega (arith, m, s, q, wm, ws)

  -- some inode is
  pub make-inode : (i : ℕ) → 1 ≤ i → i ≤ length k.free_inodes
      → is_set k.free_inodes (i - 1) ≡ true → RoomLeft old k d g name kind
  make-inode i low high set t H p o V =
      let n = some-free k.free_inodes (i - 1) (omega (arith, low, high)) set in
      let f = free-inodes-count old k p.world safe o.says in
      let b : eqb (free_inodes p.world) 0 ≡ false = some-test (free_inodes p.world) (omega (arith, n, f)) in
      left t H p o V ∙ rw b refl

module _ (old : DiskState) (k : Books) (d g : ℕ) (name : List ℕ) (kind : FileKind) (is : IsDisk old)
    (safe : IsSafe old k) (going : k.stopped ≡ false)
    (room : RoomLeft old k d g name kind) (n : ℕ)
    (needs : IsTrue old.tells → (H : List Entry1) (p : Past) → IsOpen old k H p
    → blocks_needed p.world.files (step.Make d g name kind) ≡ n) where
  room-is : IsTrue old.tells → (H : List Entry1) (p : Past) → IsOpen old k H p → (V : World)
      → first_of (rows p.world V (step.Make d g name kind)) ≡ first_of (room_rows n 1 p.world V)
  room-is t H p o V = room t H p o V ∙ (let e = needs t H p o in λ j. first_of (room_rows (e j) 1 p.world V))

  -- too few blocks or stamps
  pub make-no-blocks : (res : Result EntryBlocks Refusal) (why : Refusal) → TakesBlocks k n 1 res → res ≡ Err why
      → Goes old k old k (step.Make d g name kind) no_claims (reply.Refused why)
  make-no-blocks res why takes e =
      let f = subst (λ (z : Result EntryBlocks Refusal). IfErr z (λ w. (is_late w ≡ true) ×
      InRange w × ((W : World) → Says k W → first_of (room_rows n 1 W W) ≡ Some w))) e takes.refused in
      goes-row old old k (step.Make d g name kind) is safe (StaysButFaults-refl old) refl why f.0 f.1 going
      (λ t H p o. room-is t H p o p.world ∙ f.2 p.world o.says)

  pub make-passes : (b : EntryBlocks) → TakesBlocks k n 1 (Ok b) → RowsPass old k (step.Make d g name kind)
  make-passes b takes t H p o V = room-is t H p o V ∙ takes.passes p.world V o.says

-- What holds of a disk holds after reads

module _ (old new : DiskState) (stays : StaysButFaults old new) (k : Books) where
  back : IsTrue new.tells → IsTrue old.tells
  back t = subst (λ (b : Bool). IsTrue b) stays.disk.tells t

  before : (H : List Entry1) (p : Past) → IsOpen new k H p → IsOpen old k H p
  before H p o = open-back old new (reads-keep old new stays) k H p o

  pub place-on : (d : ℕ) (name : List ℕ) (e : ℕ) → PlaceIs old k d name e → PlaceIs new k d name e
  place-on d name e h t H p o = h (back t) H p (before H p o)

  pub left-on : (d g : ℕ) (name : List ℕ) (kind : FileKind) → RowsLeft old k d g name kind
      → RowsLeft new k d g name kind
  left-on d g name kind h t H p o V = h (back t) H p (before H p o) V

  pub make-pass-on : (d g : ℕ) (name : List ℕ) (kind : FileKind) → RowsPass old k (step.Make d g name kind)
      → RowsPass new k (step.Make d g name kind)
  make-pass-on d g name kind h t H p o V = h (back t) H p (before H p o) V

  pub may-on : (d g : ℕ) (name : List ℕ) (r : Record) (p : EntryPlace) (i : ℕ) → MayMake old k d g name r p i
      → MayMake new k d g name r p i
  may-on d g name r p i m = record {
    directory = directory-on old new stays k.at d r.generation r m.directory;
    generation = m.generation;
    there = there-on old new stays k d m.there;
    good = m.good;
    range = m.range;
    place = place-on d name p.entry m.place;
    fits = m.fits;
    slot = λ t. subst (λ (X : Image). IsEntrySlot X d (p.entry / 16) p.slot) (sym stays.cells.now) (m.slot (back t));
    cell = λ t. subst (λ (X : Image). IsSlotCell X p.slot p.cell) (sym stays.cells.now) (m.cell (back t));
    blocks = m.blocks;
    stamps = m.stamps;
    raised = m.raised;
    above = m.above;
    within = m.within;
    free = m.free;
  }

-- how many blocks an entry in this slot asks for
pub slot-needs : (b : DiskState) (k : Books) (d g : ℕ) (name : List ℕ) (kind : FileKind) (e : ℕ) (at : SuperBlock)
    (s : EntrySlot) → IsSafe b k
    → (IsTrue b.tells → KnownTrue k b.now → IsThere d b.now) → e < entry_limit → PlaceIs b k d name e
    → FitsSlot at (e / 16) s
    → (IsTrue b.tells → IsEntrySlot b.now d (e / 16) s)
    → IsTrue b.tells → (H : List Entry1) (p : Past) → IsOpen b k H p
    → blocks_needed p.world.files (step.Make d g name kind) ≡ slot_blocks s
slot-needs b k d g name kind e at s safe there range place fits slot t H p o =
    make-asks p.world.files b.now d e (open-files b k H p o)
    (there t (are-agreed b k H p safe o)) range g name kind at s (place t H p o) fits (slot t)

-- an end that refuses
pub refused-goes : (old new : DiskState) (k : Books) (d g : ℕ) (name : List ℕ) (kind : FileKind)
    (r : Ended) (why : Refusal)
    → r ≡ record { claims = no_claims; result = Err why }
    → Goes old k new k (step.Make d g name kind) no_claims (reply.Refused why)
    → Goes old k new k (step.Make d g name kind) r.claims (made_answer r.claims r.result)
refused-goes old new k d g name kind r why e go =
    subst (λ (z : Ended). Goes old k new k (step.Make d g name kind) z.claims (made_answer z.claims z.result))
    (sym e) go

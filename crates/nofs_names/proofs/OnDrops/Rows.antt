-- The refusals of Drop.
use Rattle.std.proofs.Common.{◌≡◌, ℕ, Bool, true, false, not, eqb, ◌&&◌, is_some, List, [], ◌∷◌, ◌++◌, Option, Some}
use Rattle.std.proofs.Common.{None, IsTrue, Result, Ok, Err, IfErr, refl, sym, ap, ◌∙◌, ◌<◌, subst, arith}
use Rattle.nofs_dirent.specs.Entries.{entry_limit}
use Rattle.nofs_disk.specs.Disk.{DiskState, IsDisk, StaysButFaults}
use Rattle.nofs_disk.specs.Chains.{StaysButFaults-trans}
use Rattle.nofs_dirent.specs.Names.{is_name}
use Rattle.nofs_dirent.specs.declared.entry.Entry.{Entry}
use Rattle.nofs_inode.specs.declared.inode.Record.{Record}
use Rattle.nofs_model.specs.Geometry.{Image}
use Rattle.nofs_model.specs.Files.{Files, entry_at}
use Rattle.nofs_history.specs.Search.{first_of, least_from}
use Rattle.nofs_history.specs.Machine.{generation_of, is_folder_at, is_paired, found}
use Rattle.nofs_history.specs.World.{World}
use Rattle.nofs_history.specs.Claims.{no_claims}
use Rattle.nofs_history.specs.Refusals.{rows, row, not_empty, not_empty_at, is_filled}
use Rattle.nofs_history.specs.History.{FilesMatch}
use Rattle.nofs_history.specs.declared.machine.history.Entry1.{Entry1}
use Rattle.nofs_history.specs.declared.machine.steps.Step.TheVariants as step
use Rattle.nofs_history.specs.declared.machine.replies.Reply.TheVariants as reply
use Rattle.nofs_history.specs.declared.machine.replies.Refusal.{Refusal}
use Rattle.nofs_history.specs.declared.machine.replies.Refusal.TheVariants as refusal
use Rattle.nofs_agree.specs.declared.reads.LastRead.{LastRead}
use Rattle.nofs_agree.proofs.OnChain.{told-on}
use Rattle.nofs_state.specs.Books.Maps.{IsSafe}
use Rattle.nofs_state.specs.Cores.Invariant.{IsOpen, Past}
use Rattle.nofs_state.specs.Cores.Steps.{Goes}
use Rattle.nofs_state.specs.declared.books.maps.Books.{Books}
use Rattle.nofs_names.specs.Searches.Slots.{IsFoundEntry}
use Rattle.nofs_names.specs.Searches.Refusals.{Fails, ByRow, ByRead, KnownTrue, IsThere, directory_rows, missing_rows}
use Rattle.nofs_names.specs.Searches.Refusals.{OpensDirectory, FindsPair}
use Rattle.nofs_names.specs.declared.searches.slots.Paired.{Paired}
use Rattle.nofs_state.proofs.OnCores.Unchanged.{open-back, reads-keep}
use Rattle.nofs_state.proofs.OnCores.Replies.{open-files}
use Rattle.nofs_state.proofs.OnCores.Refusals.{IsLate, first-late, late-row}
use Rattle.nofs_state.proofs.OnBooks.Machine.{are-agreed}
use Rattle.nofs_state.proofs.OnBooks.Counts.{least-none}
use Rattle.nofs_names.proofs.OnLooks.{missing-late}
use Rattle.nofs_names.proofs.OnSteps.Reads.{directory-on, there-on, paired-on, found-on, no-names-on}
use Rattle.nofs_names.proofs.OnSteps.Parts.{Unopened, directory-passes, fails-after, first-right, goes-bad, goes-fails}
use Rattle.nofs_names.proofs.OnSteps.Parts.{goes-unopened, goes-within}
use Rattle.nofs_names.specs.Drops.Answers.{FindsEmpty, MayDrop, filled_rows}

filled-late : (W : World) (d : ℕ) (name : List ℕ) → IsLate (not_empty W d name)
filled-late W d name = go (found W.files d name)
  where
    go : (o : Option ℕ) → IsLate (not_empty_at W d o)
    go None why e = cc e
    go (Some n) why e = late-row (is_filled W (entry_at W.files d n)) refusal.NotEmpty refl why e

-- the row of the name that was found is that of the inode
filled-is : (W : World) (X : Image) (d : ℕ) (name : List ℕ) (q : Paired) → IsFoundEntry W.files X d name q
    → not_empty W d name ≡ row (is_folder_at W.files q.inode
    && is_some (least_from (λ e. is_paired W.files q.inode e) 0 entry_limit)) refusal.NotEmpty
filled-is W X d name q f = ap (not_empty_at W d) f.found
    ∙ ap (λ (o : Option Entry). row (is_filled W o) refusal.NotEmpty) f.pair.at
    ∙ ap (λ (i : ℕ). row (is_folder_at W.files i && is_some (least_from (λ e. is_paired W.files i e) 0 entry_limit))
    refusal.NotEmpty) f.pair.names

-- no row of a directory with a name comes
none-filled : (F : Files) (i : ℕ) → (is_folder_at F i ≡ true → (b : ℕ) → b < entry_limit → is_paired F i b ≡ false)
    → (is_folder_at F i && is_some (least_from (λ e. is_paired F i e) 0 entry_limit)) ≡ false
none-filled F i none = go (is_folder_at F i) refl
  where
    go : (b : Bool) → is_folder_at F i ≡ b → (b && is_some (least_from (λ e. is_paired F i e) 0 entry_limit)) ≡ false
    go false e = refl
    go true e = ap is_some
        (least-none (λ e. is_paired F i e) 0 entry_limit (λ n low high. none e n (omega (arith, high))))

module _ (old : DiskState) (k : Books) (d g : ℕ) (name : List ℕ) (is : IsDisk old) (safe : IsSafe old k)
    (going : k.stopped ≡ false) where
  pub drop-bad : is_name name ≡ false → Goes old k old k (step.Drop d g name) no_claims (reply.Refused refusal.BadName)
  drop-bad bad = goes-bad old k (step.Drop d g name) is safe going (rw bad refl) (λ W. rw bad refl)

  module _ (ok : is_name name ≡ true) where
    rows-are : (W V : World) → first_of (rows W V (step.Drop d g name)) ≡ first_of
        (directory_rows d g W ++ (missing_rows d name W ++ (not_empty W d name ∷ [])))
    rows-are W V = rw ok refl

    late : (W : World) → IsLate (first_of (rows W W (step.Drop d g name)))
    late W why e = first-late (directory_rows d g W ++ (missing_rows d name W ++ (not_empty W d name ∷ []))) (
      late-row (not (is_some (W.files d) && eqb (generation_of W.files d) g)) refusal.Stale refl,
      (
        late-row (not (is_folder_at W.files d)) refusal.NotDirectory refl,
        (missing-late W d name, (filled-late W d name, tt)),
      ),
    ) why
        (sym (rows-are W W) ∙ e)

    pub drop-unopened : Unopened old k d g (step.Drop d g name)
    drop-unopened = goes-unopened old k d g (step.Drop d g name)
        (λ W. missing_rows d name W ++ (not_empty W d name ∷ [])) is safe going (λ W. rows-are W W) late

    module _ (mid : DiskState) (last : LastRead) (r : Record) (opens : OpensDirectory old mid k d g last (Ok r)) where
      module _ (new : DiskState) (names records : LastRead) where
        pub drop-missing : (res : Result Paired Refusal) (why : Refusal)
            → FindsPair mid new k.at d name names records res → res ≡ Err why
            → Goes old k new k (step.Drop d g name) no_claims (reply.Refused why)
        drop-missing res why finds e = goes-within old mid k d g last r safe opens new (step.Drop d g name)
            (missing_rows d name) (λ W. not_empty W d name ∷ []) res why is going (λ W. rows-are W W) late finds.stays e
            finds.refused

        module _ (end : DiskState) (q : Paired) (finds : FindsPair mid new k.at d name names records (Ok q)) where
          to-new : StaysButFaults old new
          to-new = StaysButFaults-trans old mid new opens.stays finds.stays

          found-in : IsTrue old.tells → KnownTrue k old.now → (F : Files) → FilesMatch F old.now
              → IsFoundEntry F old.now d name q
          found-in t all F match =
              subst (λ (X : Image). IsThere d X → FilesMatch F X → IsFoundEntry F X d name q) opens.stays.cells.now
              (λ a m. finds.found (told-on old mid opens.stays t) a F m) (opens.there t all) match

          found-here : IsTrue old.tells → (H : List Entry1) (p : Past) → IsOpen old k H p
              → IsFoundEntry p.world.files old.now d name q
          found-here t H p o = found-in t (are-agreed old k H p safe o) p.world.files (open-files old k H p o)

          none-missing : IsTrue old.tells → (H : List Entry1) (p : Past) → IsOpen old k H p
              → first_of (missing_rows d name p.world) ≡ None
          none-missing t H p o = rw ((found-here t H p o).found) refl

          to-filled : IsTrue old.tells → (H : List Entry1) (p : Past) → IsOpen old k H p → (V : World)
              → first_of (rows p.world V (step.Drop d g name)) ≡ first_of (filled_rows q.inode p.world)
          to-filled t H p o V = rows-are p.world V ∙ first-right (directory_rows d g p.world)
              (missing_rows d name p.world ++ (not_empty p.world d name ∷ []))
              (directory-passes old mid k d g last r safe opens t H p o)
              ∙ first-right (missing_rows d name p.world) (not_empty p.world d name ∷ []) (none-missing t H p o)
              ∙ ap (λ (x : Option Refusal). first_of (x ∷ [])) (filled-is p.world old.now d name q (found-here t H p o))

          by-found : (why : Refusal) → Fails old end (IsThere q.inode) (filled_rows q.inode) why
              → Fails old end (KnownTrue k) (filled_rows q.inode) why
          by-found why (ByRow plain range same comes) =
              ByRow plain range same (λ t all W match. comes t (found-in t all W.files match).pair.agreed W match)
          by-found why (ByRead is rose) = ByRead is rose

          pub drop-filled : (res : Result (Unit {0}) Refusal) (why : Refusal)
              → FindsEmpty new end q.inode res → res ≡ Err why
              → Goes old k end k (step.Drop d g name) no_claims (reply.Refused why)
          drop-filled res why empty e =
              goes-fails old end k (step.Drop d g name) (filled_rows q.inode) why is safe going
              (StaysButFaults-trans old new end to-new empty.stays)
              (by-found why (fails-after old new end (IsThere q.inode) (filled_rows q.inode) why to-new
              (finds.no_fault ∙ opens.no_fault)
              (subst (λ (z : Result (Unit {0}) Refusal). IfErr z
              (Fails new end (IsThere q.inode) (filled_rows q.inode))) e empty.refused)))
              (λ t H p o z. to-filled t H p o p.world ∙ z) late

          pub drop-may : FindsEmpty new end q.inode (Ok tt) → MayDrop end k d g name r q
          drop-may empty =
              let after = StaysButFaults-trans old new end to-new empty.stays in
              let from = StaysButFaults-trans mid new end finds.stays empty.stays in
              record {
                directory = directory-on mid end from k.at d r.generation r opens.directory;
                generation = opens.generation;
                there = there-on old end after k d opens.there;
                known = paired-on new end empty.stays k.at q finds.known;
                found = found-on mid end from d name q finds.found;
                no_names = no-names-on new end empty.stays q.inode empty.none;
                rows = λ t H p o V.
                    let told : IsTrue old.tells = subst (λ (b : Bool). IsTrue b) after.disk.tells t in
                    let before : IsOpen old k H p = open-back old end (reads-keep old end after) k H p o in
                    let match = subst (λ (X : Image). FilesMatch p.world.files X) (sym to-new.cells.now)
                    (open-files old k H p before) in
                    to-filled told H p before V ∙ ap (λ (b : Bool). first_of (row b refusal.NotEmpty ∷ []))
                    (none-filled p.world.files q.inode (empty.none (told-on old new to-new told) p.world.files match));
              }

-- The refusals of Rename.
use Rattle.std.proofs.Common.{◌≡◌, ℕ, Bool, true, false, not, eqb, ◌&&◌, is_some, List, ◌++◌, None, IsTrue, Result, Ok}
use Rattle.std.proofs.Common.{Err, refl, sym, ◌∙◌, subst}
use Rattle.nofs_dirent.specs.Entries.{entry_limit}
use Rattle.nofs_disk.specs.Disk.{DiskState, IsDisk, StaysButFaults}
use Rattle.nofs_disk.specs.Chains.{StaysButFaults-trans}
use Rattle.nofs_dirent.specs.Names.{is_name}
use Rattle.nofs_inode.specs.declared.inode.Record.{Record}
use Rattle.nofs_model.specs.Geometry.{Image}
use Rattle.nofs_history.specs.Search.{first_of}
use Rattle.nofs_history.specs.Machine.{generation_of, is_folder_at, found}
use Rattle.nofs_history.specs.World.{World}
use Rattle.nofs_history.specs.Claims.{no_claims}
use Rattle.nofs_history.specs.Refusals.{rows, missing}
use Rattle.nofs_history.specs.History.{FilesMatch}
use Rattle.nofs_history.specs.declared.machine.history.Entry1.{Entry1}
use Rattle.nofs_history.specs.declared.machine.steps.Step.TheVariants as step
use Rattle.nofs_history.specs.declared.machine.replies.Reply.TheVariants as reply
use Rattle.nofs_history.specs.declared.machine.replies.Refusal.{Refusal}
use Rattle.nofs_history.specs.declared.machine.replies.Refusal.TheVariants as refusal
use Rattle.nofs_agree.specs.declared.reads.LastRead.{LastRead}
use Rattle.nofs_agree.proofs.OnChain.{told-on}
use Rattle.nofs_state.specs.Books.Maps.{IsSafe}
use Rattle.nofs_state.specs.Cores.Invariant.{IsOpen, Past}
use Rattle.nofs_state.specs.Cores.Steps.{Goes}
use Rattle.nofs_state.specs.declared.books.maps.Books.{Books}
use Rattle.nofs_names.specs.Searches.Slots.{IsFoundEntry, Passed}
use Rattle.nofs_names.specs.Searches.Refusals.{IsThere, directory_rows, missing_rows, exists_rows}
use Rattle.nofs_names.specs.Searches.Refusals.{OpensDirectory, FindsPair, FindsNone}
use Rattle.nofs_state.specs.Writes.Premises.{RowsPass}
use Rattle.nofs_names.specs.declared.searches.slots.Paired.{Paired}
use Rattle.nofs_names.specs.declared.searches.slots.Unfound.{Unfound}
use Rattle.nofs_state.proofs.OnCores.Unchanged.{open-back, reads-keep}
use Rattle.nofs_state.proofs.OnCores.Replies.{open-files}
use Rattle.nofs_state.proofs.OnCores.Refusals.{IsLate, first-late, late-row}
use Rattle.nofs_state.proofs.OnBooks.Machine.{are-agreed}
use Rattle.nofs_names.proofs.OnLooks.{missing-late}
use Rattle.nofs_names.proofs.OnSteps.Refusals.{exists-none}
use Rattle.nofs_names.proofs.OnSteps.Parts.{Unopened, directory-passes, first-right, goes-bad, goes-fails}
use Rattle.nofs_names.proofs.OnSteps.Parts.{goes-unopened, goes-within, opened-fails}

module _ (old : DiskState) (k : Books) (d g : ℕ) (name other : List ℕ) (is : IsDisk old) (safe : IsSafe old k)
    (going : k.stopped ≡ false) where
  pub rename-bad : is_name name ≡ false
      → Goes old k old k (step.Rename d g name other) no_claims (reply.Refused refusal.BadName)
  rename-bad bad = goes-bad old k (step.Rename d g name other) is safe going (rw bad refl) (λ W. rw bad refl)

  module _ (ok : is_name name ≡ true) where
    pub rename-bad-new : is_name other ≡ false
        → Goes old k old k (step.Rename d g name other) no_claims (reply.Refused refusal.BadName)
    rename-bad-new bad =
        goes-bad old k (step.Rename d g name other) is safe going (rw (ok, bad) refl) (λ W. rw (ok, bad) refl)

    module _ (good : is_name other ≡ true) where
      rows-are : (W V : World)
          → first_of (rows W V (step.Rename d g name other))
          ≡ first_of (directory_rows d g W ++ (missing_rows d name W ++ exists_rows d other W))
      rows-are W V = rw (ok, good) refl

      late : (W : World) → IsLate (first_of (rows W W (step.Rename d g name other)))
      late W why e = first-late (directory_rows d g W ++ (missing_rows d name W ++ exists_rows d other W)) (
        late-row (not (is_some (W.files d) && eqb (generation_of W.files d) g)) refusal.Stale refl,
        (
          late-row (not (is_folder_at W.files d)) refusal.NotDirectory refl,
          (missing-late W d name, (late-row (is_some (found W.files d other)) refusal.Exists refl, tt)),
        ),
      ) why (sym (rows-are W W) ∙ e)

      pub rename-unopened : Unopened old k d g (step.Rename d g name other)
      rename-unopened = goes-unopened old k d g (step.Rename d g name other)
          (λ W. missing_rows d name W ++ exists_rows d other W) is safe going (λ W. rows-are W W) late

      module _ (mid : DiskState) (last : LastRead) (r : Record) (opens : OpensDirectory old mid k d g last (Ok r))
          (new : DiskState) (names records : LastRead) where
        pub rename-missing : (res : Result Paired Refusal) (why : Refusal)
            → FindsPair mid new k.at d name names records res → res ≡ Err why
            → Goes old k new k (step.Rename d g name other) no_claims (reply.Refused why)
        rename-missing res why finds e =
            goes-within old mid k d g last r safe opens new (step.Rename d g name other) (missing_rows d name)
            (exists_rows d other) res why is going (λ W. rows-are W W) late finds.stays e finds.refused

        module _ (end : DiskState) (names2 records2 : LastRead) (q : Paired)
            (finds : FindsPair mid new k.at d name names records (Ok q)) where
          to-new : StaysButFaults old new
          to-new = StaysButFaults-trans old mid new opens.stays finds.stays

          found-here : IsTrue old.tells → (H : List Entry1) (p : Past) → IsOpen old k H p
              → missing p.world d name ≡ None
          found-here t H p o =
              let f : IsFoundEntry p.world.files old.now d name q =
              subst (λ (X : Image). IsThere d X → FilesMatch p.world.files X
              → IsFoundEntry p.world.files X d name q) opens.stays.cells.now
              (λ a m. finds.found (told-on old mid opens.stays t) a p.world.files m)
              (opens.there t (are-agreed old k H p safe o))
              (open-files old k H p o) in
              let s = f.found in rw s refl

          none-missing : IsTrue old.tells → (H : List Entry1) (p : Past) → IsOpen old k H p
              → first_of (missing_rows d name p.world) ≡ None
          none-missing t H p o = rw (found-here t H p o) refl

          to-exists : IsTrue old.tells → (H : List Entry1) (p : Past) → IsOpen old k H p → (V : World)
              → first_of (rows p.world V (step.Rename d g name other)) ≡ first_of (exists_rows d other p.world)
          to-exists t H p o V = rows-are p.world V
              ∙ first-right (directory_rows d g p.world) (missing_rows d name p.world ++ exists_rows d other p.world)
              (directory-passes old mid k d g last r safe opens t H p o)
              ∙ first-right (missing_rows d name p.world) (exists_rows d other p.world) (none-missing t H p o)

          pub rename-exists : (res : Result Unfound Refusal) (why : Refusal)
              → FindsNone new end d other names2 records2 res → res ≡ Err why
              → Goes old k end k (step.Rename d g name other) no_claims (reply.Refused why)
          rename-exists res why none e =
              goes-fails old end k (step.Rename d g name other) (exists_rows d other) why is safe going
              (StaysButFaults-trans old new end to-new none.stays)
              (opened-fails old new end k d (exists_rows d other) res why to-new (finds.no_fault ∙ opens.no_fault)
              opens.there e none.refused)
              (λ t H p o z. to-exists t H p o p.world ∙ z) late

          pub rename-passes : (u : Unfound) → FindsNone new end d other names2 records2 (Ok u)
              → RowsPass end k (step.Rename d g name other)
          rename-passes u none t H p o V =
              let stays = StaysButFaults-trans old new end to-new none.stays in
              let told : IsTrue old.tells = subst (λ (b : Bool). IsTrue b) stays.disk.tells t in
              let before : IsOpen old k H p = open-back old end (reads-keep old end stays) k H p o in
              let a = opens.there told (are-agreed old k H p safe before) in
              let passed : Passed p.world.files d other true entry_limit 72 u =
              subst (λ (X : Image). IsThere d X → FilesMatch p.world.files X
              → Passed p.world.files d other true entry_limit 72 u) to-new.cells.now
              (λ b m. none.seen (told-on old new to-new told) b p.world.files m) a (open-files old k H p before) in
              to-exists told H p before V ∙ (let n = exists-none p.world d other u passed in rw n refl)

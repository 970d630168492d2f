-- What Look answers.
use Rattle.std.proofs.Common.{◌≡◌, ℕ, Bool, true, false, cond, ◌&&◌, not, eqb, is_some, option_map, List, [], ◌∷◌, ◌++◌}
use Rattle.std.proofs.Common.{Option, Some, None, Result, Ok, Err, refl, sym, ap, ◌∙◌, subst}
use Rattle.nofs_disk.specs.Disk.{DiskState, IsDisk}
use Rattle.nofs_disk.specs.Chains.{StaysButFaults-trans}
use Rattle.nofs_dirent.specs.Names.{is_name}
use Rattle.nofs_inode.specs.declared.inode.Record.{Record}
use Rattle.nofs_model.specs.Geometry.{Image, inode}
use Rattle.nofs_history.specs.Search.{first_of}
use Rattle.nofs_history.specs.Machine.{generation_of, is_folder_at, found, first_dead, first_lost_slot}
use Rattle.nofs_history.specs.World.{World}
use Rattle.nofs_history.specs.Claims.{no_claims}
use Rattle.nofs_history.specs.Refusals.{rows, reads_nothing, missing}
use Rattle.nofs_history.specs.Answers.{found_file, found_entry, found_reply}
use Rattle.nofs_history.specs.History.{FilesMatch}
use Rattle.nofs_history.specs.declared.machine.steps.Step.TheVariants as step
use Rattle.nofs_history.specs.declared.machine.replies.Reply.TheVariants as reply
use Rattle.nofs_history.specs.declared.machine.replies.Refusal.{Refusal}
use Rattle.nofs_history.specs.declared.machine.replies.Refusal.TheVariants as refusal
use Rattle.nofs_crashlaw.proofs.OnUntouched.Matches.{matched-agreed}
use Rattle.nofs_agree.specs.declared.reads.LastRead.{LastRead}
use Rattle.nofs_agree.proofs.OnChain.{told-on, record-of}
use Rattle.nofs_state.specs.Books.Maps.{IsSafe}
use Rattle.nofs_state.specs.Cores.Steps.{Goes}
use Rattle.nofs_state.specs.declared.books.maps.Books.{Books}
use Rattle.nofs_state.proofs.OnCores.Readings.{look-reads}
use Rattle.nofs_state.proofs.OnCores.Replies.{goes-answer, open-files}
use Rattle.nofs_state.proofs.OnCores.Refusals.{IsLate, first-late, late-row}
use Rattle.nofs_state.proofs.OnBooks.Machine.{agreed-live, are-agreed}
use Rattle.nofs_names.specs.Searches.Slots.{IsFoundEntry}
use Rattle.nofs_names.specs.Searches.Refusals.{IsThere, directory_rows, missing_rows}
use Rattle.nofs_names.specs.Searches.Refusals.{OpensDirectory, FindsPair}
use Rattle.nofs_names.specs.declared.searches.slots.Paired.{Paired}
use Rattle.nofs_names.proofs.OnSearches.PairTests.{kind-of}
use Rattle.nofs_names.proofs.OnSteps.Parts.{Unopened, directory-passes, first-right, goes-bad, goes-unopened}
use Rattle.nofs_names.proofs.OnSteps.Parts.{goes-within}

-- a name that is missing is so after reads
pub missing-late : (W : World) (d : ℕ) (name : List ℕ) → IsLate (missing W d name)
missing-late W d name why e =
    go (is_some (found W.files d name)) (first_dead W.files d name) (first_lost_slot W.files d) e
  where
    go : (b : Bool) (x y : Option ℕ)
        → cond b None (first_of (option_map refusal.LostEntry x ∷ option_map refusal.LostSlot y ∷ Some refusal.Missing
        ∷ [])) ≡ Some why
        → reads_nothing why ≡ false
    go true x y h = cc h
    go false (Some x) y h = ap reads_nothing (let q : why ≡ refusal.LostEntry x = cc h in q)
    go false None (Some y) h = ap reads_nothing (let q : why ≡ refusal.LostSlot y = cc h in q)
    go false None None h = ap reads_nothing (let q : why ≡ refusal.Missing = cc h in q)

module _ (old : DiskState) (k : Books) (d g : ℕ) (name : List ℕ) (is : IsDisk old) (safe : IsSafe old k)
    (going : k.stopped ≡ false) where
  pub look-bad : is_name name ≡ false → Goes old k old k (step.Look d g name) no_claims (reply.Refused refusal.BadName)
  look-bad bad = goes-bad old k (step.Look d g name) is safe going (rw bad refl) (λ W. rw bad refl)

  module _ (ok : is_name name ≡ true) where
    rows-are : (W : World)
        → first_of (rows W W (step.Look d g name)) ≡ first_of (directory_rows d g W ++ missing_rows d name W)
    rows-are W = rw ok refl

    look-late : (W : World) → IsLate (first_of (rows W W (step.Look d g name)))
    look-late W why e = first-late (directory_rows d g W ++ missing_rows d name W) (
      late-row (not (is_some (W.files d) && eqb (generation_of W.files d) g)) refusal.Stale refl,
      (late-row (not (is_folder_at W.files d)) refusal.NotDirectory refl, (missing-late W d name, tt)),
    ) why (sym (rows-are W) ∙ e)

    pub look-unopened : Unopened old k d g (step.Look d g name)
    look-unopened = goes-unopened old k d g (step.Look d g name) (missing_rows d name) is safe going rows-are look-late

    module _ (mid new : DiskState) (last names records : LastRead) (r : Record)
        (opens : OpensDirectory old mid k d g last (Ok r)) where
      pub look-missing : (res : Result Paired Refusal) (why : Refusal)
          → FindsPair mid new k.at d name names records res → res ≡ Err why
          → Goes old k new k (step.Look d g name) no_claims (reply.Refused why)
      look-missing res why finds e = goes-within old mid k d g last r safe opens new (step.Look d g name)
          (missing_rows d name) (λ W. []) res why is going rows-are look-late finds.stays e finds.refused

      pub look-found : (it : Paired) → FindsPair mid new k.at d name names records (Ok it)
          → Goes old k new k (step.Look d g name) no_claims
          (reply.Found (record { inode = it.inode; generation = it.record.generation; kind = it.kind }))
      look-found it finds =
          goes-answer old new k (step.Look d g name) is safe (StaysButFaults-trans old mid new opens.stays finds.stays)
          (finds.no_fault ∙ opens.no_fault)
          (reply.Found (record { inode = it.inode; generation = it.record.generation; kind = it.kind })) refl refl
          (look-reads d g name) going
          (λ t H p o.
          let match = open-files old k H p o in
          let there = opens.there t (are-agreed old k H p safe o) in
          let f : IsFoundEntry p.world.files old.now d name it =
          subst (λ (X : Image). IsThere d X → FilesMatch p.world.files X
          → IsFoundEntry p.world.files X d name it) opens.stays.cells.now
          (λ a m. finds.found (told-on old mid opens.stays t) a p.world.files m) there match in
          let m = matched-agreed p.world.files old.now it.inode match
          (agreed-live old.now it.inode f.pair.agreed) f.pair.agreed in
          let rec : inode old.now it.inode ≡ it.record =
          record-of old new k.at it.inode it.record (StaysButFaults-trans old mid new opens.stays finds.stays)
          finds.known.0 t in
          let gen : m.file.generation ≡ it.record.generation = m.generation ∙ ap (λ (q : Record). q.generation) rec in
          let kind : m.file.kind ≡ it.kind =
          cc (sym (kind-of p.world.files old.now it.inode m.file match f.pair.agreed m.is)
          ∙ ap (λ (q : Record). q.kind) rec ∙ finds.known.1) in
          let file : p.world.files f.pair.entry.inode ≡ Some m.file = ap p.world.files f.pair.names ∙ m.is in (
            rows-are p.world ∙ first-right (directory_rows d g p.world) (missing_rows d name p.world)
                (directory-passes old mid k d g last r safe opens t H p o) ∙ (let s = f.found in rw s refl),
            (λ j. reply.Found (record { inode = sym f.pair.names j; generation = sym gen j; kind = sym kind j }))
                ∙ sym (ap (found_reply p.world.files d) f.found ∙ ap (found_entry p.world.files) f.pair.at
                ∙ ap (found_file f.pair.entry.inode) file),
          ))

-- A Look that the index answered goes as the machine's.
use Rattle.std.proofs.Common.{IfSome, Option, Some, ◌≡◌, ℕ, ◌⊎◌, inl, inr, true, false, List, [], ◌∷◌, ◌++◌, IsTrue}
use Rattle.std.proofs.Common.{Bool}
use Rattle.std.proofs.Common.{None, refl, sym, ap, ◌∙◌}
use Rattle.std.proofs.Common.{subst}
use Rattle.nofs_disk.specs.Disk.{DiskState, IsDisk}
use Rattle.nofs_disk.specs.Chains.{KeepsCells-refl, StaysButFaults-refl}
use Rattle.nofs_dirent.specs.Names.{is_name}
use Rattle.nofs_model.specs.Geometry.{Image}
use Rattle.nofs_model.specs.Files.{Files}
use Rattle.nofs_history.specs.Claims.{no_claims}
use Rattle.nofs_history.specs.Machine.{files_after}
use Rattle.nofs_history.specs.Next.{Next}
use Rattle.nofs_history.specs.Refusals.{rows}
use Rattle.nofs_history.specs.Answers.{reply_of}
use Rattle.nofs_history.specs.Search.{first_of}
use Rattle.nofs_history.specs.Since.{agreed_files, files_along}
use Rattle.nofs_history.specs.Steps.{Fits}
use Rattle.nofs_history.specs.HistoryState.{HistoryState}
use Rattle.nofs_history.specs.declared.machine.history.Entry1.{Entry1}
use Rattle.nofs_history.specs.declared.machine.replies.Found.{Found}
use Rattle.nofs_history.specs.declared.machine.replies.Reply.TheVariants as reply
use Rattle.nofs_history.specs.declared.machine.steps.Step.{Step}
use Rattle.nofs_history.specs.declared.machine.steps.Step.TheVariants as step
use Rattle.nofs_crashlaw.proofs.OnHistories.FlushStage.{files-stay}
use Rattle.nofs_state.specs.Cores.Invariant.{IsOpen, IsStopped, Past, Sounds}
use Rattle.nofs_state.specs.Cores.Steps.{IsReading, IsSafeStep, LeavesDisk, MeetsOpen, NoOrder, entry}
use Rattle.nofs_state.specs.declared.books.maps.Books.{Books}
use Rattle.nofs_state.proofs.OnCores.NoWrites.{IsIdle, follows-idle}
use Rattle.nofs_state.proofs.OnCores.Readings.{look-reads}
use Rattle.nofs_state.proofs.OnCores.Replies.{by-answer, keeps-all, open-files}
use Rattle.nofs_state.proofs.OnCores.SafeSteps.{safely-answer}
use Rattle.nofs_state.specs.Books.Maps.{IsSafe}
use Rattle.nofs_shared.specs.declared.index.Index.{Index}
use Rattle.nofs_shared.specs.Index.Lines.{AllTrue}
use Rattle.nofs_shared.specs.Index.Names.{Finds, moves_names}
use Rattle.nofs_shared.specs.Index.Truths.{IsTold, IsTrueIndex, files_of}
use Rattle.nofs_shared.specs.Mount.Invariant.{IsMount, IsSoundDisk, MountStands}
use Rattle.nofs_shared.specs.Mount.Flushes.{Settles}
use Rattle.nofs_shared.proofs.OnIndex.Names.{finds-passes}
use Rattle.nofs_shared.proofs.OnMount.Steps.{Leads, mount-more}

module _ (index : Index) (s : Step) (it : Found) (told : IsTold index s it) where
  pub told-unmoved : moves_names s (reply.Found it) ≡ false
  told-unmoved = ap (λ (x : Step). moves_names x (reply.Found it)) told.is

  pub told-fits : Fits s (reply.Found it)
  told-fits = subst (λ (x : Step). Fits x (reply.Found it)) (sym told.is) tt

  pub told-settles : (d : DiskState) → Settles s (reply.Found it) d
  told-settles d = subst (λ (x : Step). Settles x (reply.Found it) d) (sym told.is) tt

  module _ (d : DiskState) (k : Books) (going : k.stopped ≡ false) where
    pub told-order : NoOrder d d (MeetsOpen d k) s no_claims (reply.Found it)
    told-order = LeavesDisk refl (KeepsCells-refl d) refl

    pub told-safely : IsSafe d k → IsSafeStep d k d k (reply.Found it)
    told-safely safe = safely-answer d d k safe (StaysButFaults-refl d) refl (reply.Found it) refl refl going

    module _ (found : DiskState) (first : ℕ) (is : IsDisk d) (m : IsMount found d first k) (caller : ℕ)
        (t : IsTrueIndex found d k index) where
      abbrev hit : Entry1
      hit = entry caller d d s no_claims (reply.Found it)

      reads : IsReading s
      reads = subst (λ (x : Step). IsReading x) (sym told.is) (look-reads told.directory told.generation told.name)

      leads : (q : IsSoundDisk found) (st : MountStands found d first k)
          → Leads d k hit k.history.entries st.past × Sounds found.moment d
      leads q st = (go st.past st.base st.now, st.sound)
        where
          told_by : IsTrue d.tells
          told_by = subst (λ (b : Bool). IsTrue b) (sym m.disk.tells) q.tells

          go : (p : Past) → p.base ≡ d.was k.history.start
              → IsOpen d k k.history.entries p ⊎ IsStopped d k k.history.entries p
              → Leads d k hit k.history.entries p
          go p base (inr o) = absurd (let a = o.stopped in cc (a, going))
          go p base (inl o) =
              let files : files_of d k ≡ p.world.files =
              sym (o.files ∙ ap (λ (B : Image). files_along (agreed_files B) k.history.entries) base) in
              let finds : Finds p.world.files told.directory told.generation told.name it =
              subst (λ (F : Files). Finds F told.directory told.generation told.name it) files
              (told.finds (files_of d k) (t q going)) in
              let passes = finds-passes p.world told.directory told.generation told.name it finds in
              let idle : IsIdle p.world.files hit = record {
                given = reads.gives p.world.files;
                files = ap (λ g. files_after p.world.files g) (reads.gives p.world.files) ∙ files-stay p.world.files;
                no_flush = refl;
                no_fault = refl;
              } in
              let next : Next p.world hit p.world =
              by-answer p.world d.now hit (o.says.stopped ∙ going) (open-files d k k.history.entries p o) o.homes
              o.homes_past reads
              (subst (λ (x : Step). first_of (rows p.world p.world x) ≡ None) (sym told.is) passes.0)
              (passes.1 ∙ ap (λ (x : Step). reply_of p.world x no_claims) (sym told.is)) refl in
              let f = follows-idle d d k k k.history.entries p hit (StaysButFaults-refl d) refl refl refl p.world is
              told_by o idle next (keeps-all p.world) o.says refl going refl in
              let done = f.done refl refl in
              (done.0, done.1, inl done.2)

      -- the mount stands with its entry
      pub told-keeps : (h : HistoryState) → h.start ≡ k.history.start → h.entries ≡ k.history.entries ++ hit ∷ []
          → IsMount found d first (record k { history = h })
      told-keeps = mount-more found d d first k k m s no_claims (reply.Found it) caller (told-safely m.safe) told-order
          refl leads

-- What the index tells

pub told-look : (index : Index) (s : Step) (d g : ℕ) (name : List ℕ) (res : Option Found) → s ≡ step.Look d g name
    → IfSome res (λ it. (F : Files) → AllTrue F index → Finds F d g name it)
    → IfSome res (λ it. is_name name ≡ true) → IfSome res (IsTold index s)
told-look index s d g name None is finds good = tt
told-look index s d g name (Some it) is finds good =
    record { directory = d; generation = g; name = name; is = is; good = good; finds = finds }

pub some-going : (res : Option Found) (stopped : Bool) → stopped ≡ false → IfSome res (λ it. stopped ≡ false)
some-going None stopped going = tt
some-going (Some it) stopped going = going

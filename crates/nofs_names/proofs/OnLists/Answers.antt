-- What List answers.
use Rattle.std.proofs.Common.{◌≡◌, ℕ, ◌-◌, ◌<◌, ◌≤◌, false, cond, not, eqb, ◌&&◌, is_some, List, Some, None, IsTrue}
use Rattle.std.proofs.Common.{[], Result, Ok, Err, IfErr, inl, inr, refl, sym, ap, ◌∙◌, subst, arith, le_refl}
use Rattle.nofs_disk.specs.Disk.{DiskState, IsDisk, StaysButFaults}
use Rattle.nofs_disk.specs.Chains.{StaysButFaults-trans, Rose-within}
use Rattle.nofs_disk.specs.declared.Failed.{Failed}
use Rattle.nofs_inode.specs.declared.inode.Record.{Record}
use Rattle.nofs_model.specs.Geometry.{Image}
use Rattle.nofs_model.specs.Files.{Files}
use Rattle.nofs_model.specs.Slots.{value}
use Rattle.nofs_model.specs.declared.image.value.Value.{Value}
use Rattle.nofs_model.specs.declared.image.value.Value.TheVariants.{Hole, Bytes, Lost}
use Rattle.nofs_history.specs.Search.{first_of, least_from}
use Rattle.nofs_history.specs.Machine.{generation_of, is_folder_at, value_of, is_hole, is_lost, is_refused}
use Rattle.nofs_history.specs.World.{World}
use Rattle.nofs_history.specs.Claims.{no_claims}
use Rattle.nofs_history.specs.Refusals.{rows}
use Rattle.nofs_history.specs.Answers.{listed_reply, lines_in_slot}
use Rattle.nofs_history.specs.History.{FilesMatch}
use Rattle.nofs_history.specs.declared.machine.replies.NameLine.{NameLine}
use Rattle.nofs_history.specs.declared.machine.steps.Step.TheVariants as step
use Rattle.nofs_history.specs.declared.machine.replies.Reply.{Reply}
use Rattle.nofs_history.specs.declared.machine.replies.Reply.TheVariants as reply
use Rattle.nofs_history.specs.declared.machine.replies.Refusal.{Refusal}
use Rattle.nofs_history.specs.declared.machine.replies.Refusal.TheVariants as refusal
use Rattle.nofs_agree.specs.declared.reads.LastRead.{LastRead}
use Rattle.nofs_agree.proofs.OnChain.{told-on, record-of}
use Rattle.nofs_state.specs.Books.Maps.{IsSafe}
use Rattle.nofs_history.specs.Writes.{makes_calls}
use Rattle.nofs_history.specs.Faults.{is_fault}
use Rattle.nofs_state.specs.Cores.Steps.{Goes}
use Rattle.nofs_state.specs.declared.books.maps.Books.{Books}
use Rattle.nofs_state.specs.Inodes.Blocks.{MarkFails}
use Rattle.nofs_state.proofs.OnCores.Unchanged.{goes-memory, reads-keep}
use Rattle.nofs_state.proofs.OnCores.Readings.{list-reads}
use Rattle.nofs_state.proofs.OnCores.Replies.{goes-answer, goes-read, open-files}
use Rattle.nofs_state.proofs.OnCores.Refusals.{IsLate, first-late, late-row}
use Rattle.nofs_state.proofs.OnBooks.Machine.{are-agreed}
use Rattle.nofs_state.proofs.OnBooks.Counts.{least-none}
use Rattle.nofs_state.specs.Inodes.Opened.{met_fault}
use Rattle.nofs_names.proofs.OnEntries.Least.{least-first}
use Rattle.nofs_names.proofs.OnSearches.Progress.{value-at}
use Rattle.nofs_names.specs.Searches.Refusals.{IsThere, directory_rows, OpensDirectory}
use Rattle.nofs_names.specs.Lists.{AreHoles, InDirectory, FindsListed, IsListedSlot, ReadsLines}
use Rattle.nofs_names.specs.declared.lists.ListedSlot.{ListedSlot}
use Rattle.nofs_names.specs.declared.lists.ListedSlot.TheVariants as found
use Rattle.nofs_names.proofs.OnSteps.Parts.{Unopened, goes-unopened}

-- it may be one that found no memory, wherever it ends
module _ (old : DiskState) (k : Books) (d g slot : ℕ) (safe : IsSafe old k) where
  pub list-memory : (new : DiskState) → StaysButFaults old new → new.faults ≡ old.faults
      → Goes old k new k (step.List d g slot) no_claims (reply.Refused refusal.OutOfMemory)
  list-memory new stays same = goes-memory old new (reads-keep old new stays) same k (step.List d g slot) no_claims safe

  pub list-memory-found : (mid new : DiskState) → StaysButFaults old mid → StaysButFaults mid new
      → new.faults ≡ old.faults
      → Goes old k new k (step.List d g slot) no_claims (reply.Refused refusal.OutOfMemory)
  list-memory-found mid new opened found same = list-memory new (StaysButFaults-trans old mid new opened found) same

  pub list-memory-read : (mid new end : DiskState) → StaysButFaults old mid → StaysButFaults mid new
      → StaysButFaults new end → end.faults ≡ old.faults
      → Goes old k end k (step.List d g slot) no_claims (reply.Refused refusal.OutOfMemory)
  list-memory-read mid new end opened found read same =
      list-memory end (StaysButFaults-trans old new end (StaysButFaults-trans old mid new opened found) read) same

module _ (old : DiskState) (k : Books) (d g slot : ℕ) (is : IsDisk old) (safe : IsSafe old k)
    (going : k.stopped ≡ false) where
  list-late : (W : World) → IsLate (first_of (rows W W (step.List d g slot)))
  list-late W = first-late (directory_rows d g W) (
    late-row (not (is_some (W.files d) && eqb (generation_of W.files d) g)) refusal.Stale refl,
    (late-row (not (is_folder_at W.files d)) refusal.NotDirectory refl, tt),
  )

  pub list-unopened : Unopened old k d g (step.List d g slot)
  list-unopened = goes-unopened old k d g (step.List d g slot) (λ W. []) is safe going (λ W. refl) list-late

  module _ (mid : DiskState) (last : LastRead) (r : Record) (opens : OpensDirectory old mid k d g last (Ok r)) where
    pub list-unread : (new : DiskState) (next : LastRead) (e : Failed) → FindsListed mid new d slot next (Err e)
        → Goes old k new k (step.List d g slot) no_claims (reply.Refused refusal.ReadFault)
    list-unread new next e finds = goes-read old new k (step.List d g slot) is safe
        (StaysButFaults-trans old mid new opens.stays finds.stays) going
        (Rose-within old.faults mid.faults new.faults new.faults opens.stays.disk.faults finds.cause
        (le_refl new.faults)) (λ t H p o. list-late p.world)

    -- an answer, where the machine's is the same over any files that match
    answers : (new : DiskState) (it : Reply) → is_refused it ≡ false → makes_calls it ≡ false → StaysButFaults mid new
        → new.faults ≡ mid.faults
        → (IsTrue old.tells → IsThere d old.now → (F : Files) → FilesMatch F old.now
        → it ≡ listed_reply F d (least_from (λ l. not (is_hole (value_of F d l))) slot (72 - slot)))
        → Goes old k new k (step.List d g slot) no_claims it
    answers new it accepted plain stays same comes =
        goes-answer old new k (step.List d g slot) is safe (StaysButFaults-trans old mid new opens.stays stays)
        (same ∙ opens.no_fault) it accepted plain (list-reads d g slot) going
        (λ t H p o.
        let all = are-agreed old k H p safe o in
        let match = open-files old k H p o in
        (opens.passes t all p.world match, comes t (opens.there t all) p.world.files match))

    value-in : IsTrue old.tells → IsThere d old.now → (F : Files) → FilesMatch F old.now
        → (l : ℕ) (v : Value) → l < 72 → value old.now d l ≡ v
        → value_of F d l ≡ v
    value-in t there F match l v low e =
        value-at F old.now d r match there (record-of old mid k.at d r opens.stays opens.directory.known t)
        opens.directory.kind l v low e

    module _ (new : DiskState) (next : LastRead) (s : ListedSlot) (finds : FindsListed mid new d slot next (Ok s)) where
      listed : (w : ListedSlot) → s ≡ w → IsTrue old.tells → IsListedSlot old.now d slot next w
      listed w e t = subst (λ (X : Image). IsListedSlot X d slot next w) opens.stays.cells.now
          (subst (λ (q : ListedSlot). IsListedSlot mid.now d slot next q) e
          (finds.found (told-on old mid opens.stays t)))

      pub list-none : s ≡ found.NoMore → Goes old k new k (step.List d g slot) no_claims reply.NoMore
      list-none e = answers new reply.NoMore refl refl finds.stays finds.no_fault (λ t there F match.
          let none : least_from (λ l. not (is_hole (value_of F d l))) slot (72 - slot) ≡ None =
          least-none (λ l. not (is_hole (value_of F d l))) slot (72 - slot) (λ l low high.
          let v = value-in t there F match l Hole (omega (arith, low, high))
          (listed found.NoMore e t l low (omega (arith, low, high))) in rw v refl) in
          sym (ap (listed_reply F d) none))

      -- the first that is no hole
      first-is : (here : ℕ) → IsTrue old.tells → IsThere d old.now → (F : Files) → FilesMatch F old.now
          → here < 72 → slot ≤ here
          → AreHoles old.now d slot here → is_hole (value_of F d here) ≡ false
          → least_from (λ l. not (is_hole (value_of F d l))) slot (72 - slot) ≡ Some here
      first-is here t there F match low mine holes no_hole =
          least-first (λ l. not (is_hole (value_of F d l))) slot (72 - slot) here
          (λ l a b. let v = value-in t there F match l Hole (omega (arith, b, low)) (holes l a b) in rw v refl)
          (rw no_hole refl) mine
          (omega (arith, low, mine))

      pub list-lost : (here number : ℕ) → s ≡ found.Lost here
          → number ≡ here → Goes old k new k (step.List d g slot) no_claims (reply.LostNames number)
      list-lost here number e en =
          answers new (reply.LostNames number) refl refl finds.stays finds.no_fault (λ t there F match.
          let q = listed (found.Lost here) e t in
          let low : here < 72 = subst (λ (w : ListedSlot). InDirectory w) e finds.range in
          let v = value-in t there F match here Lost low q.2 in
          let f = first-is here t there F match low q.1 q.0 (ap is_hole v) in
          ap reply.LostNames en ∙ sym (ap (listed_reply F d) f
          ∙ (λ j. cond (is_lost (v j)) (reply.LostNames here) (reply.Names here (lines_in_slot F d here)))))

      module _ (here : ℕ) (e : s ≡ found.Holds here) (end : DiskState) (res : Result (List NameLine) Refusal)
          (reads : ReadsLines new end d here res) where
        pub list-names : (lines : List NameLine) (number : ℕ) → res ≡ Ok lines → number ≡ here
            → Goes old k end k (step.List d g slot) no_claims (reply.Names number lines)
        list-names lines number er en =
            let ok : ReadsLines new end d here (Ok lines) =
            subst (λ (z : Result (List NameLine) Refusal). ReadsLines new end d here z) er reads in
            let stays : StaysButFaults old new = StaysButFaults-trans old mid new opens.stays finds.stays in
            answers end (reply.Names number lines) refl refl (StaysButFaults-trans mid new end finds.stays reads.stays)
            (ok.no_fault refl ∙ finds.no_fault)
            (λ t there F match.
            let q = listed (found.Holds here) e t in
            let low : here < 72 = subst (λ (w : ListedSlot). InDirectory w) e finds.range in
            let v = value-in t there F match here (Bytes next.cell.payload) low q.2 in
            let f = first-is here t there F match low q.1 q.0 (ap is_hole v) in
            let names : lines ≡ lines_in_slot F d here =
            subst (λ (X : Image). IsThere d X → FilesMatch F X → lines ≡ lines_in_slot F d here) stays.cells.now
            (λ a m. ok.lines (told-on old new stays t) a F m) there match in
            (λ j. reply.Names (en j) (names j)) ∙ sym (ap (listed_reply F d) f
            ∙ (λ j. cond (is_lost (v j)) (reply.LostNames here) (reply.Names here (lines_in_slot F d here)))))

        pub list-failed : (why : Refusal) → res ≡ Err why
            → Goes old k end k (step.List d g slot) no_claims (reply.Refused why)
        list-failed why er =
            go (subst (λ (z : Result (List NameLine) Refusal). IfErr z (MarkFails new end)) er reads.refused)
          where
            stays : StaysButFaults old end
            stays = StaysButFaults-trans old new end
                (StaysButFaults-trans old mid new opens.stays finds.stays) reads.stays

            go : MarkFails new end why → Goes old k end k (step.List d g slot) no_claims (reply.Refused why)
            go (inl m) =
                subst (λ (w : Refusal). Goes old k end k (step.List d g slot) no_claims (reply.Refused w)) (sym m)
                (goes-memory old end (reads-keep old end stays) (reads.no_fault
                (ap met_fault er ∙ ap (λ (w : Refusal). is_fault (reply.Refused w)) m)
                ∙ (finds.no_fault ∙ opens.no_fault)) k (step.List d g slot) no_claims safe)
            go (inr f) =
                subst (λ (w : Refusal). Goes old k end k (step.List d g slot) no_claims (reply.Refused w)) (sym f.0)
                (goes-read old end k (step.List d g slot) is safe stays going
                (Rose-within old.faults new.faults end.faults end.faults
                (StaysButFaults-trans old mid new opens.stays finds.stays).disk.faults f.1
                (le_refl end.faults)) (λ t H p o. list-late p.world))

-- What Get answers.
use Rattle.std.proofs.Common.{◌≡◌, ℕ, ◌<◌, ◌≤◌, false, not, eqb, ◌&&◌, is_some, List, [], ◌∷◌, Some, IsTrue, Result, Ok}
use Rattle.std.proofs.Common.{Err, refl, sym, ap, ◌∙◌, subst, le_refl}
use Rattle.nofs_disk.specs.Disk.{DiskState, IsDisk, StaysButFaults, cell_at}
use Rattle.nofs_disk.specs.Chains.{StaysButFaults-refl, StaysButFaults-trans, Rose-within}
use Rattle.nofs_disk.specs.declared.Failed.{Failed}
use Rattle.nofs_disk.specs.declared.tag.Cell.{Cell}
use Rattle.nofs_disk.specs.declared.tag.Pointer.{Pointer}
use Rattle.nofs_inode.specs.declared.inode.Record.{Record}
use Rattle.nofs_super.specs.declared.superblock.SuperBlock.{SuperBlock}
use Rattle.nofs_model.specs.Geometry.{Image, inode}
use Rattle.nofs_ptrs.specs.Paths.{path_of}
use Rattle.nofs_model.specs.Slots.{find, value_in}
use Rattle.nofs_model.specs.Files.{is_kind}
use Rattle.nofs_inode.specs.declared.inode.FileKind.TheVariants.{File, Directory}
use Rattle.nofs_model.specs.declared.image.path.PathAnswer.{PathAnswer}
use Rattle.nofs_model.specs.declared.image.path.PathAnswer.TheVariants as answer
use Rattle.nofs_history.specs.Search.{first_of}
use Rattle.nofs_history.specs.Machine.{generation_of, is_folder_at, is_refused}
use Rattle.nofs_history.specs.Claims.{no_claims}
use Rattle.nofs_history.specs.Refusals.{rows, stale, is_directory}
use Rattle.nofs_history.specs.Answers.{got_reply}
use Rattle.nofs_history.specs.declared.machine.history.Entry1.{Entry1}
use Rattle.nofs_history.specs.declared.machine.steps.Step.TheVariants as step
use Rattle.nofs_history.specs.declared.machine.replies.Reply.{Reply}
use Rattle.nofs_history.specs.declared.machine.replies.Reply.TheVariants as reply
use Rattle.nofs_history.specs.declared.machine.replies.Refusal.{Refusal}
use Rattle.nofs_history.specs.declared.machine.replies.Refusal.TheVariants as refusal
use Rattle.nofs_agree.specs.Path.{FindsSlot, IsCellOf}
use Rattle.nofs_agree.specs.declared.reads.LastRead.{LastRead}
use Rattle.nofs_agree.proofs.OnChain.{told-on, record-of}
use Rattle.nofs_state.specs.Books.Maps.{IsSafe}
use Rattle.nofs_state.specs.Cores.Invariant.{IsOpen, Past}
use Rattle.nofs_history.specs.Writes.{makes_calls}
use Rattle.nofs_state.specs.Cores.Steps.{Goes}
use Rattle.nofs_state.specs.declared.books.maps.Books.{Books}
use Rattle.nofs_state.proofs.OnCores.Readings.{get-reads}
use Rattle.nofs_state.proofs.OnCores.Replies.{goes-early, goes-read, goes-answer, open-files}
use Rattle.nofs_state.proofs.OnCores.Refusals.{IsLate, first-late, late-row}
use Rattle.nofs_state.proofs.OnBooks.Machine.{are-agreed, stale-none}
use Rattle.nofs_files.specs.Reads.{OpensFile, slots_of}
use Rattle.nofs_files.proofs.OnReads.Rows.{folder-is, goes-unfiled, large-none, large-some, large-early}
use Rattle.nofs_state.proofs.OnBooks.CurrentFiles.{current-agreed}
use Rattle.nofs_files.proofs.OnReads.Rows.{slots-most, value-is}

module _ {old : DiskState} {k : Books} (i g slot : ℕ) (is : IsDisk old) (safe : IsSafe old k)
    (going : k.stopped ≡ false) where
  pub get-large : slots_of k.at ≤ slot → Goes old k old k (step.Get i g slot) no_claims (reply.Refused refusal.TooLarge)
  get-large high =
      goes-early old old k (step.Get i g slot) is safe (StaysButFaults-refl old) refl refusal.TooLarge refl tt going
      (rw (large-early slot k.at high) refl)
      (λ tells H p o. rw (large-some p.world slot k.at o.says.version high) refl)

  rows-are : slot < slots_of k.at → (H : List Entry1) (p : Past) → IsOpen old k H p
      → first_of (rows p.world p.world (step.Get i g slot)) ≡ first_of (stale p.world i g ∷ is_directory p.world i ∷ [])
  rows-are low H p o = rw (large-none p.world slot k.at o.says.version low) refl

  get-late : slot < slots_of k.at → (H : List Entry1) (p : Past) → IsOpen old k H p
      → IsLate (first_of (rows p.world p.world (step.Get i g slot)))
  get-late low H p o why e = first-late (stale p.world i g ∷ is_directory p.world i ∷ []) (
    late-row (not (is_some (p.world.files i) && eqb (generation_of p.world.files i) g)) refusal.Stale refl,
    (late-row (is_folder_at p.world.files i) refusal.IsDirectory refl, tt),
  ) why (sym (rows-are low H p o) ∙ e)

  pub get-unfiled : {new : DiskState} {last : LastRead} {res : Result Record Refusal} {why : Refusal}
      → slot < slots_of k.at
      → OpensFile old new k i g last res → res ≡ Err why
      → Goes old k new k (step.Get i g slot) no_claims (reply.Refused why)
  get-unfiled {new} {last} {res} {why} low opens e =
      goes-unfiled old new k (step.Get i g slot) i g last res why is safe going opens e
      (λ H p o q. rows-are low H p o ∙ q) (get-late low)

  module _ {mid new : DiskState} {last next : LastRead} {r : Record} {slots : ℕ} (all : slots ≡ slots_of k.at)
      (under : slot < slots) (opens : OpensFile old mid k i g last (Ok r)) where
    pub get-unread : {e : Failed} → FindsSlot mid new k.at (λ X. find X i (path_of slot)) next (Err e)
        → Goes old k new k (step.Get i g slot) no_claims (reply.Refused refusal.ReadFault)
    get-unread {e} finds =
        goes-read old new k (step.Get i g slot) is safe (StaysButFaults-trans old mid new opens.stays finds.stays) going
        (Rose-within old.faults mid.faults new.faults new.faults opens.stays.disk.faults finds.cause
        (le_refl new.faults)) (λ tells H p o. get-late (subst (λ (n : ℕ). slot < n) all under) H p o)

    pub get-found : {a : PathAnswer} (reply : Reply) → is_refused reply ≡ false → makes_calls reply ≡ false
        → FindsSlot mid new k.at (λ X. find X i (path_of slot)) next (Ok a)
        → (IsTrue old.tells → reply ≡ got_reply (value_in old.now a))
        → Goes old k new k (step.Get i g slot) no_claims reply
    get-found {a} reply accepted plain finds gives-it = goes-answer old new k (step.Get i g slot) is safe
        (StaysButFaults-trans old mid new opens.stays finds.stays) (finds.no_fault ∙ opens.no_fault refl) reply
        accepted plain (get-reads i g slot) going
        (λ tells H p o.
        let low : slot < slots_of k.at = subst (λ (n : ℕ). slot < n) all under in
        let match = open-files old k H p o in
        let current = opens.current tells (are-agreed old k H p safe o) in
        let a-agreed = current-agreed old.now i g current in
        let found : a ≡ find old.now i (path_of slot) =
        subst (λ (X : Image). a ≡ find X i (path_of slot)) opens.stays.cells.now
        (finds.found (told-on old mid opens.stays tells)) in
        let file : (inode old.now i).kind ≡ Some File =
        ap (λ (q : Record). q.kind) (record-of old mid k.at i r opens.stays opens.file.known tells)
        ∙ opens.file.kind in
        let folder : is_folder_at p.world.files i ≡ false = folder-is p.world.files old.now i match a-agreed
        ∙ ap (λ q. is_kind Directory q) file in (
          rows-are low H p o ∙ rw (stale-none p.world old.now i g match current, folder) refl,
          gives-it tells ∙ ap (λ (q : PathAnswer). got_reply (value_in old.now q)) found
              ∙ sym (ap got_reply (value-is p.world.files old.now i slot match a-agreed (slots-most k.at slot low))),
        ))

    -- where there are no bytes
    pub get-bare : {a w : PathAnswer} (reply : Reply) → is_refused reply ≡ false → makes_calls reply ≡ false
        → FindsSlot mid new k.at (λ X. find X i (path_of slot)) next (Ok a) → a ≡ w
        → reply ≡ got_reply (value_in old.now w) → Goes old k new k (step.Get i g slot) no_claims reply
    get-bare {a} {w} reply accepted plain finds is same = get-found reply accepted plain finds
        (λ tells. same ∙ ap (λ (q : PathAnswer). got_reply (value_in old.now q)) (sym is))

pub get-bytes : {old mid new : DiskState} {at : SuperBlock}
    (i slot : ℕ) {a : PathAnswer} {x : Pointer} {next : LastRead} → StaysButFaults old mid
    → FindsSlot mid new at (λ X. find X i (path_of slot)) next (Ok a) → a ≡ answer.Holds x → IsTrue old.tells
    → reply.Bytes next.cell.payload ≡ got_reply (value_in old.now a)
get-bytes {old} {mid} {new} {at} i slot {a} {x} {next} stays finds e tells =
    let c : IsCellOf mid.now (answer.Holds x) next.cell = subst (λ (q : PathAnswer). IsCellOf mid.now q next.cell) e
    (finds.cell (told-on old mid stays tells)) in
    let d : next.cell ≡ cell_at old.now x.block =
    subst (λ (X : Image). next.cell ≡ cell_at X x.block) stays.cells.now c in
    ap (λ (q : Cell). reply.Bytes q.payload) d ∙ ap (λ (q : PathAnswer). got_reply (value_in old.now q)) (sym e)

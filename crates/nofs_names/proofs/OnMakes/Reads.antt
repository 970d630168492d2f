-- What a Make knows of the place of its entry, once the slot was read.
use Rattle.std.proofs.Common.{◌≡◌, ℕ, ◌/◌, Bool, false, IsTrue, List, Result, Ok, Err, sym, subst}
use Rattle.nofs_disk.specs.Disk.{DiskState, IsDisk, StaysButFaults}
use Rattle.nofs_model.specs.Geometry.{Image}
use Rattle.nofs_history.specs.Claims.{no_claims}
use Rattle.nofs_history.specs.World.{blocks_needed}
use Rattle.nofs_history.specs.declared.machine.history.Entry1.{Entry1}
use Rattle.nofs_history.specs.declared.machine.replies.Refusal.{Refusal}
use Rattle.nofs_history.specs.declared.machine.replies.Reply.TheVariants as reply
use Rattle.nofs_history.specs.declared.machine.steps.Step.TheVariants as step
use Rattle.nofs_agree.specs.declared.reads.LastRead.{LastRead}
use Rattle.nofs_state.specs.Books.Maps.{IsSafe}
use Rattle.nofs_state.specs.Cores.Invariant.{IsOpen, Past}
use Rattle.nofs_state.specs.Cores.Steps.{Goes}
use Rattle.nofs_state.specs.declared.books.maps.Books.{Books}
use Rattle.nofs_state.specs.Writes.Premises.{RowsPass}
use Rattle.nofs_names.specs.Entries.Places.{FindsEntrySlot, IsEntrySlot, TakesBlocks, slot_blocks}
use Rattle.nofs_names.specs.declared.entries.places.EntryBlocks.{EntryBlocks}
use Rattle.nofs_names.specs.declared.entries.places.EntrySlot.{EntrySlot}
use Rattle.nofs_state.proofs.OnCores.Unchanged.{goes-after, reads-keep, safe-keeps}
use Rattle.nofs_names.proofs.OnSteps.Reads.{there-on}
use Rattle.nofs_names.specs.Makes.{FindsInode, GoesIn, RoomLeft, RowsLeft}
use Rattle.nofs_names.specs.declared.makes.new_file.NewFile.{NewFile}
use Rattle.nofs_names.proofs.OnMakes.Rows.{left-on, make-inode, make-no-blocks, make-no-inode, make-passes, place-on}
use Rattle.nofs_names.proofs.OnMakes.Rows.{slot-needs}

module _ (old mid : DiskState) (k : Books) (to : NewFile) (name : List ℕ) (e : ℕ) (is : IsDisk mid)
    (stays : StaysButFaults old mid) (same : mid.faults ≡ old.faults) (safe : IsSafe old k)
    (going : k.stopped ≡ false) (into : GoesIn old k to name e)
    (left : RowsLeft old k to.directory to.generation name to.kind) where
  kept : IsSafe mid k
  kept = safe-keeps old mid (reads-keep old mid stays) k safe

  on : (why : Refusal)
      → Goes mid k mid k (step.Make to.directory to.generation name to.kind) no_claims (reply.Refused why)
      → Goes old k mid k (step.Make to.directory to.generation name to.kind) no_claims (reply.Refused why)
  on why = goes-after old mid (reads-keep old mid stays) same mid k k
      (step.Make to.directory to.generation name to.kind) no_claims (reply.Refused why)

  pub no-inode-goes : (res : Result ℕ Refusal) (why : Refusal) → FindsInode k res → res ≡ Err why
      → Goes old k mid k (step.Make to.directory to.generation name to.kind) no_claims (reply.Refused why)
  no-inode-goes res why finds e = on why
      (make-no-inode mid k to.directory to.generation name to.kind is kept going
      (left-on old mid stays k to.directory to.generation name to.kind left)
      res why finds e)

  module _ (last : LastRead) (s : EntrySlot) (finds : FindsEntrySlot old mid k.at to.directory (e / 16) last (Ok s))
      (i : ℕ) (inode : FindsInode k (Ok i))
      (n : ℕ) (few : n ≡ slot_blocks s) where
    needs : IsTrue mid.tells → (H : List Entry1) (p : Past) → IsOpen mid k H p
        → blocks_needed p.world.files (step.Make to.directory to.generation name to.kind) ≡ slot_blocks s
    needs = slot-needs mid k to.directory to.generation name to.kind e k.at s kept
        (there-on old mid stays k to.directory into.there) into.entry
        (place-on old mid stays k to.directory name e into.place) finds.fits
        (λ t. subst (λ (X : Image). IsEntrySlot X to.directory (e / 16) s) (sym stays.cells.now)
        (finds.found (subst (λ (b : Bool). IsTrue b) stays.disk.tells t)))

    room : RoomLeft mid k to.directory to.generation name to.kind
    room = make-inode mid k to.directory to.generation name to.kind is kept going
        (left-on old mid stays k to.directory to.generation name to.kind left) i inode.above inode.within inode.free

    pub no-blocks-goes : (res : Result EntryBlocks Refusal) (why : Refusal) → TakesBlocks k n 1 res → res ≡ Err why
        → Goes old k mid k (step.Make to.directory to.generation name to.kind) no_claims (reply.Refused why)
    no-blocks-goes res why takes e =
        on why (make-no-blocks mid k to.directory to.generation name to.kind is kept going room _ needs res why
        (subst (λ (m : ℕ). TakesBlocks k m 1 res) few takes) e)

    pub blocks-pass : (b : EntryBlocks) → TakesBlocks k n 1 (Ok b)
        → RowsPass mid k (step.Make to.directory to.generation name to.kind)
    blocks-pass b takes = make-passes mid k to.directory to.generation name to.kind is kept going room _ needs b
        (subst (λ (m : ℕ). TakesBlocks k m 1 (Ok b)) few takes)

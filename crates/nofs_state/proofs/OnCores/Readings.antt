-- The steps that claim nothing and give nothing, and how one of them ends that found no memory.
use Rattle.std.proofs.Common.{◌≡◌, ℕ, false, List, None, refl}
use Rattle.nofs_disk.specs.Disk.{DiskState, StaysButFaults}
use Rattle.nofs_disk.specs.Chains.{StaysButFaults-trans}
use Rattle.nofs_model.specs.Files.{Files}
use Rattle.nofs_history.specs.Machine.{gives, nothing}
use Rattle.nofs_history.specs.World.{inodes_needed, blocks_needed}
use Rattle.nofs_history.specs.Next.{sees_inode, sees_block}
use Rattle.nofs_history.specs.Claims.{no_claims, cell_slot}
use Rattle.nofs_history.specs.declared.machine.steps.Step.{Step}
use Rattle.nofs_history.specs.declared.machine.steps.Step.TheVariants as step
use Rattle.nofs_history.specs.declared.machine.replies.Reply.TheVariants as reply
use Rattle.nofs_history.specs.declared.machine.replies.Refusal.TheVariants as refusal
use Rattle.nofs_state.specs.Books.Maps.{IsSafe}
use Rattle.nofs_state.specs.Cores.Steps.{Goes, IsReading}
use Rattle.nofs_state.specs.declared.books.maps.Books.{Books}
use Rattle.nofs_state.proofs.OnCores.Unchanged.{goes-memory, reads-keep}

reading : (s : Step) → inodes_needed s ≡ 0 → ((F : Files) → blocks_needed F s ≡ 0)
    → ((F : Files) → gives F s no_claims ≡ nothing) → ((F : Files) → cell_slot F s ≡ None)
    → ((i : ℕ) → sees_inode s i ≡ false) → ((p : ℕ) → sees_block s p ≡ false) → IsReading s
reading s no_inode no_block no_gift no_slot no_sight no_block_seen = record {
  no_inode = no_inode;
  no_block = no_block;
  gives = no_gift;
  no_slot = no_slot;
  sees_no_inode = no_sight;
  sees_no_block = no_block_seen;
}

pub get-reads : (i g slot : ℕ) → IsReading (step.Get i g slot)
unfolding gives
get-reads i g slot = reading (step.Get i g slot) refl (λ F. refl) (λ F. refl) (λ F. refl) (λ j. refl) (λ p. refl)

pub list-reads : (d g slot : ℕ) → IsReading (step.List d g slot)
unfolding gives
list-reads d g slot = reading (step.List d g slot) refl (λ F. refl) (λ F. refl) (λ F. refl) (λ j. refl) (λ p. refl)

pub look-reads : (d g : ℕ) (name : List ℕ) → IsReading (step.Look d g name)
unfolding gives
look-reads d g name = reading (step.Look d g name) refl (λ F. refl) (λ F. refl) (λ F. refl) (λ j. refl) (λ p. refl)

pub stat-reads : (i g : ℕ) → IsReading (step.Stat i g)
unfolding gives
stat-reads i g = reading (step.Stat i g) refl (λ F. refl) (λ F. refl) (λ F. refl) (λ j. refl) (λ p. refl)

pub flush-reads : (i g : ℕ) → IsReading (step.Flush i g)
unfolding gives
flush-reads i g = reading (step.Flush i g) refl (λ F. refl) (λ F. refl) (λ F. refl) (λ j. refl) (λ p. refl)

-- a step that found no memory after one row of reads, or after two
module _ {old : DiskState} {k : Books} {s : Step} (safe : IsSafe old k) where
  pub read-memory : {new : DiskState} → StaysButFaults old new → new.faults ≡ old.faults
      → Goes old k new k s no_claims (reply.Refused refusal.OutOfMemory)
  read-memory {new} stays same = goes-memory old new (reads-keep old new stays) same k s no_claims safe

  pub read-memory-found : {mid new : DiskState} → StaysButFaults old mid → StaysButFaults mid new
      → new.faults ≡ old.faults
      → Goes old k new k s no_claims (reply.Refused refusal.OutOfMemory)
  read-memory-found {mid} {new} opened found same =
      read-memory (StaysButFaults-trans old mid new opened found) same

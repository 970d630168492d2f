-- Which blocks an inode owns, read slot by slot.
use Rattle.std.specs.Prelude.{◌≡◌, ℕ, Bool, false, List, Result, IfOk, IfErr, OnOk}
use Rattle.nofs_disk.specs.Disk.{DiskState, StaysButFaults}
use Rattle.nofs_super.specs.declared.superblock.SuperBlock.{SuperBlock}
use Rattle.nofs_history.specs.declared.machine.replies.Refusal.{Refusal}
use Rattle.nofs_agree.specs.Reads.{IsLast}
use Rattle.nofs_agree.specs.declared.reads.LastRead.{LastRead}
use Rattle.nofs_state.specs.Inodes.Blocks.{MarkFails}
use Rattle.nofs_state.specs.Inodes.Opened.{met_fault}
use Rattle.nofs_names.specs.Drops.Removal.{BlocksOf}

-- the blocks of all slots are marked, and no others
pub record MarksInode (old new : DiskState) (at : SuperBlock) (i : ℕ) (bits : List Bool) (last : LastRead)
    (result : Result (Unit {0}) Refusal) : Type 0 where
  pub stays : StaysButFaults old new
  pub no_fault : met_fault result ≡ false → new.faults ≡ old.faults
  pub owned : OnOk result (BlocksOf new at i bits)
  pub kept : OnOk result (IsLast new last)
  pub refused : IfErr result (MarkFails old new)

pub record OwnsBlocks (old new : DiskState) (at : SuperBlock) (i : ℕ) (last : LastRead)
    (result : Result (List Bool) Refusal) : Type 0 where
  pub stays : StaysButFaults old new
  pub no_fault : met_fault result ≡ false → new.faults ≡ old.faults
  pub owned : IfOk result (BlocksOf new at i)
  pub kept : OnOk result (IsLast new last)
  pub refused : IfErr result (MarkFails old new)

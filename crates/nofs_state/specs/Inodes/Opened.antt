-- What opening a file answers, over any disk.
use Rattle.std.specs.Prelude.{◌≡◌, ℕ, Bool, true, false, ◌&&◌, ◌==◌, Some, IsTrue, Result, IfOk, IfErr, Ok, Err, OnOk}
use Rattle.nofs_disk.specs.Disk.{DiskState, StaysButFaults, Rose}
use Rattle.nofs_super.specs.declared.superblock.SuperBlock.{SuperBlock}
use Rattle.nofs_model.specs.Geometry.{Image, inode}
use Rattle.nofs_model.specs.Files.{files_in, agreed}
use Rattle.nofs_history.specs.Faults.{is_fault}
use Rattle.nofs_history.specs.declared.machine.replies.Refusal.{Refusal}
use Rattle.nofs_history.specs.declared.machine.replies.Refusal.TheVariants as refusal
use Rattle.nofs_history.specs.declared.machine.replies.Reply.TheVariants as reply
use Rattle.nofs_agree.specs.Reads.{IsLast, KnowsInode}
use Rattle.nofs_agree.specs.Chain.{AreTrue}
use Rattle.nofs_agree.specs.declared.reads.LastRead.{LastRead}
use Rattle.nofs_state.specs.declared.books.maps.Books.{Books}
use Rattle.nofs_state.specs.declared.inodes.opened.Opened.{Opened}

-- a part of a step ended by a fault: a call of the device failed
abbrev pub met_fault : {T : Type 0} → Result T Refusal → Bool
met_fault (Ok it) = false
met_fault (Err why) = is_fault (reply.Refused why)

-- the inode is agreed with this generation
abbrev pub is_current : Image → ℕ → ℕ → Bool
is_current X i g = agreed (files_in X) i && ((inode X i).generation == g)

-- it is the record of a live inode of this generation
pub record IsOpened (d : DiskState) (at : SuperBlock) (i g : ℕ) (it : Opened) : Type 0 where
  pub known : KnowsInode d at i it.found
  pub kind : it.found.kind ≡ Some it.kind
  pub generation : it.found.generation ≡ g

-- why a file is not opened
abbrev pub OpenFails : DiskState → DiskState → Books → ℕ → ℕ → Refusal → Type 0
OpenFails old new k i g refusal.Stale = IsTrue old.tells → AreTrue old.now k.agreement → is_current old.now i g ≡ false
OpenFails old new k i g refusal.ReadFault = Rose old.faults new.faults
OpenFails old new k i g _ = ⊥

pub record Opens (old new : DiskState) (k : Books) (i g : ℕ) (last : LastRead)
    (result : Result Opened Refusal) : Type 0 where
  pub stays : StaysButFaults old new
  pub known : IfOk result (IsOpened new k.at i g)
  pub current : IfOk result (λ it. IsTrue old.tells → AreTrue old.now k.agreement → is_current old.now i g ≡ true)
  pub refused : IfErr result (OpenFails old new k i g)
  pub kept : OnOk result (IsLast new last)
  -- no other answer comes where a call has failed
  pub no_fault : met_fault result ≡ false → new.faults ≡ old.faults

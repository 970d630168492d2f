-- The search for the slot that List finds.
use Rattle.std.proofs.Common.{◌≡◌, ℕ, IsTrue}
use Rattle.nofs_disk.specs.Disk.{DiskState, StaysButFaults}
use Rattle.nofs_agree.specs.Reads.{IsLast}
use Rattle.nofs_agree.specs.declared.reads.LastRead.{LastRead}
use Rattle.nofs_names.specs.Lists.{AreHoles}

pub record Seeking (old now : DiskState) (d from slot : ℕ) (last : LastRead) : Type 0 where
  pub stays : StaysButFaults old now
  pub no_fault : now.faults ≡ old.faults
  pub kept : IsLast now last
  pub holes : IsTrue old.tells → AreHoles old.now d from slot

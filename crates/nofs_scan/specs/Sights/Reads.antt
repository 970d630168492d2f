-- What a read of a disk finds of its image.
use Rattle.std.specs.Prelude.{◌≡◌, ℕ, Bool, List, Option, IsTrue, Result, IfOk, OnOk, OnErr}
use Rattle.nofs_disk.specs.declared.Failed.{Failed}
use Rattle.nofs_disk.specs.Disk.{DiskState, StaysButFaults, Rose}
use Rattle.nofs_model.specs.Geometry.{Image, inode}
use Rattle.nofs_agree.specs.Chain.{AreTrue, LearnsAgreement}
use Rattle.nofs_agree.specs.Reads.{IsLast}
use Rattle.nofs_scan.specs.declared.sights.last_reads.LastReads.{LastReads}

-- what was read is this of the image, where the disk tells
pub record ReadsAnswer {T : Type 0} (old new : DiskState) (answer : Image → T) (result : Result T Failed) : Type 0 where
  pub stays : StaysButFaults old new
  pub found : IfOk result (λ a. IsTrue old.tells → a ≡ answer old.now)
  pub cause : OnErr result (Rose old.faults new.faults)
  pub no_fault : OnOk result (new.faults ≡ old.faults)

-- so it is where what was known of inodes is true, and more is known of them then
pub record Sees {
    T : Type 0
    } (old new : DiskState) (known more : List (Option Bool)) (answer : Image → T)
    (result : Result T Failed) : Type 0 where
  pub stays : StaysButFaults old new
  pub learns : LearnsAgreement old known more
  pub found : IfOk result (λ a. IsTrue old.tells → AreTrue old.now known → a ≡ answer old.now)
  pub cause : OnErr result (Rose old.faults new.faults)
  pub no_fault : OnOk result (new.faults ≡ old.faults)

-- each cell that is kept is that of the block that was read last in its place, and the record that of its inode
pub record AreLast (d : DiskState) (reads : LastReads) : Type 0 where
  pub own : IsLast d reads.own
  pub table : IsLast d reads.table
  pub in_table : IsTrue d.tells → reads.in_table ≡ inode d.now reads.inode
  pub upper : IsLast d reads.upper
  pub lower : IsLast d reads.lower

-- the record of the inode is the one that was read last
pub record KeepsRecord (old new : DiskState) (i : ℕ) (reads : LastReads)
    (result : Result (Unit {0}) Failed) : Type 0 where
  pub stays : StaysButFaults old new
  pub found : OnOk result (IsTrue old.tells → reads.in_table ≡ inode old.now i)
  pub kept : OnOk result (AreLast new reads)
  pub cause : OnErr result (Rose old.faults new.faults)
  pub no_fault : OnOk result (new.faults ≡ old.faults)

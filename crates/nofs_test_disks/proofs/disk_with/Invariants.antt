use Rattle.nofs_disk.specs.Disk.{IsSettled}
use Rattle.nofs_memdisk.specs.Parts.{memory_state}
use Rattle.nofs_test_disks.proofs.disk_with.Given as goal

abbrev pub invariant-loop-block : goal.invariant-loop-block
invariant-loop-block l = IsSettled (memory_state l.disk)

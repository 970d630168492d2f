use Rattle.nofs_super.proofs.FormatRun.{HasWritten}
use Rattle.nofs_super.proofs.fresh.format.Given as goal

abbrev pub invariant-loop-block : goal.invariant-loop-block
invariant-loop-block g l = HasWritten l.blocks l.inodes l.block (g.D.Disk.state l.fn.disk) (g.D.Disk.state l.disk)

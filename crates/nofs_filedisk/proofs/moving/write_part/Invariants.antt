use Rattle.std.proofs.Common.{length, ◌-◌}
use Rattle.nofs_filedisk.proofs.OnMoving.Writes.{HasPut}
use Rattle.nofs_filedisk.proofs.moving.write_part.Given as goal

abbrev pub invariant-loop-done : goal.invariant-loop-done
invariant-loop-done g l = HasPut l.at l.part l.done (g.B.Positioned.state l.fn.file) (g.B.Positioned.state l.file)

abbrev pub decreases-loop-done : goal.decreases-loop-done
decreases-loop-done g l = length l.part - l.done

use Rattle.std.proofs.Common.{length, ◌-◌}
use Rattle.nofs_filedisk.proofs.OnMoving.Reads.{HasRead}
use Rattle.nofs_filedisk.proofs.moving.read_part.Given as goal

abbrev pub invariant-loop-done : goal.invariant-loop-done
invariant-loop-done g l =
    HasRead l.at (length l.fn.into) l.done l.into (g.B.Positioned.state l.fn.file) (g.B.Positioned.state l.file)

abbrev pub decreases-loop-done : goal.decreases-loop-done
decreases-loop-done g l = length l.initial.into - l.done

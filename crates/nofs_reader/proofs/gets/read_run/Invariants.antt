use Rattle.std.proofs.Common.{length}
use Rattle.nofs_reader.proofs.OnGets.{Running}
use Rattle.nofs_reader.proofs.gets.read_run.Given as goal

abbrev pub invariant-loop-slots : goal.invariant-loop-slots
invariant-loop-slots l = Running l.bytes l.it.inode l.from l.most (length l.fn.into) l.kind l.into l.last l.slots
    l.fn.into

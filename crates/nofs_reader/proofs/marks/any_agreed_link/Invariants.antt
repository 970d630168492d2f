use Rattle.nofs_reader.proofs.OnMarks.{Unlinked}
use Rattle.nofs_reader.proofs.marks.any_agreed_link.Given as goal

abbrev pub invariant-loop-place : goal.invariant-loop-place
invariant-loop-place l = Unlinked l.bytes l.inode l.it l.fn.marks l.marks l.place

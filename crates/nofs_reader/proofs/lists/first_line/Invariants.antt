use Rattle.nofs_reader.proofs.OnDirectories.{Listing}
use Rattle.nofs_reader.proofs.lists.first_line.Given as goal

abbrev pub invariant-loop-place : goal.invariant-loop-place
invariant-loop-place l = Listing l.bytes l.last l.it.inode l.fn.from l.place

use Rattle.nofs_reader.specs.Directories.{is_lost_at}
use Rattle.nofs_reader.specs.Image.{image_of}
use Rattle.nofs_reader.proofs.OnDirectories.{Looking}
use Rattle.nofs_reader.proofs.looks.first_lost.Given as goal

abbrev pub invariant-loop-slot : goal.invariant-loop-slot
invariant-loop-slot l = Looking l.bytes l.last (is_lost_at (image_of l.bytes) l.it.inode) l.slot

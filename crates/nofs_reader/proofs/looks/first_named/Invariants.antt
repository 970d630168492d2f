use Rattle.nofs_reader.specs.Directories.{is_named_at}
use Rattle.nofs_reader.specs.Image.{image_of}
use Rattle.nofs_reader.proofs.OnDirectories.{Looking}
use Rattle.nofs_reader.proofs.looks.first_named.Given as goal

abbrev pub invariant-loop-place : goal.invariant-loop-place
invariant-loop-place l = Looking l.bytes l.last (is_named_at (image_of l.bytes) l.it.inode l.name) l.place

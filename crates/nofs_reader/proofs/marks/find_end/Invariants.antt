use Rattle.nofs_model.specs.Geometry.{inode}
use Rattle.nofs_reader.specs.Image.{image_of}
use Rattle.nofs_reader.proofs.OnMarks.{Upward}
use Rattle.nofs_reader.proofs.marks.find_end.Given as goal

abbrev pub invariant-loop-agreed : goal.invariant-loop-agreed
invariant-loop-agreed l = Upward (image_of l.bytes) l.fn.directory l.here

abbrev pub decreases-loop-agreed : goal.decreases-loop-agreed
decreases-loop-agreed l = (inode (image_of l.bytes) l.here).generation

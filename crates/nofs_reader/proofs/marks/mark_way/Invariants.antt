use Rattle.nofs_model.specs.Geometry.{inode}
use Rattle.nofs_reader.specs.Image.{image_of}
use Rattle.nofs_reader.proofs.OnMarks.{Marking}
use Rattle.nofs_reader.proofs.marks.mark_way.Given as goal

abbrev pub invariant-loop-marks : goal.invariant-loop-marks
invariant-loop-marks l = Marking (image_of l.bytes) l.fn.directory l.here l.fn.marks l.marks

abbrev pub decreases-loop-marks : goal.decreases-loop-marks
decreases-loop-marks l = (inode (image_of l.bytes) l.here).generation

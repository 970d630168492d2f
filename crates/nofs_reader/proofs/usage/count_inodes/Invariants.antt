use Rattle.nofs_reader.specs.Counts.{is_used_place}
use Rattle.nofs_reader.specs.Image.{image_of}
use Rattle.nofs_reader.proofs.OnMarks.{Counting}
use Rattle.nofs_reader.proofs.usage.count_inodes.Given as goal

abbrev pub invariant-loop-number : goal.invariant-loop-number
invariant-loop-number l =
    Counting (image_of l.bytes) (is_used_place (image_of l.bytes)) l.number l.used l.fn.marks l.marks

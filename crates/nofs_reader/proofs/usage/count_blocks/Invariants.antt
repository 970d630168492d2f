use Rattle.nofs_model.specs.Owners.{is_used_block}
use Rattle.nofs_reader.specs.Image.{image_of}
use Rattle.nofs_reader.proofs.OnMarks.{Counting}
use Rattle.nofs_reader.proofs.usage.count_blocks.Given as goal

abbrev pub invariant-loop-block : goal.invariant-loop-block
invariant-loop-block l =
    Counting (image_of l.bytes) (is_used_block (image_of l.bytes)) l.block l.used l.fn.marks l.marks

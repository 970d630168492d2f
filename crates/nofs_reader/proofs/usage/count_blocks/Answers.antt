use Rattle.nofs_model.specs.Owners.{is_used_block}
use Rattle.nofs_reader.specs.Image.{image_of}
use Rattle.nofs_reader.proofs.OnMarks.{counting_begins, counting_goes}
use Rattle.nofs_reader.proofs.usage.count_blocks.Goals as goal

pub loop-block-init : goal.loop-block-init
loop-block-init c =
    let X = image_of c.args.bytes.now in counting_begins X (is_used_block X) c.args.marks.now c.requires.marks

pub loop-block-preserved : goal.loop-block-preserved
loop-block-preserved c =
    let X = image_of c.args.bytes.now in
    counting_goes X (is_used_block X) c.loop-block.block c.loop-block.used c.args.marks.now c.loop-block.marks
    c.is_used_block.new.marks c.in_ok-is_used_block.field-0 c.from.result c.loop-block.invariant
    c.is_used_block.ensures.marks c.in_ok-is_used_block.ensures.used c.from.ensures

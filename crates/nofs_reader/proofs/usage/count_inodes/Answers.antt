use Rattle.nofs_reader.specs.Counts.{is_used_place}
use Rattle.nofs_reader.specs.Image.{image_of}
use Rattle.nofs_reader.proofs.OnMarks.{counting_begins, counting_goes}
use Rattle.nofs_reader.proofs.usage.count_inodes.Goals as goal

pub loop-number-init : goal.loop-number-init
loop-number-init c =
    let X = image_of c.args.bytes.now in counting_begins X (is_used_place X) c.args.marks.now c.requires.marks

pub loop-number-preserved : goal.loop-number-preserved
loop-number-preserved c =
    let X = image_of c.args.bytes.now in
    counting_goes X (is_used_place X) c.loop-number.number c.loop-number.used c.args.marks.now c.loop-number.marks
    c.is_used_inode.new.marks c.in_ok-is_used_inode.field-0 c.from.result c.loop-number.invariant
    c.is_used_inode.ensures.marks c.in_ok-is_used_inode.ensures.used c.from.ensures

use Rattle.std.proofs.Common.{length, ◌∙◌, arith}
use Rattle.nofs_disk.specs.CellsOfBytes.{part-range}
use Rattle.nofs_reader.proofs.bytes.read_bytes.Goals as goal

pub returns-then-end-bytes : goal.returns-then-end-bytes
returns-then-end-bytes c =
    c.copy_from_slice.ensures.after ∙ part-range c.args.bytes.now c.args.at (length c.args.into.now) (omega arith)

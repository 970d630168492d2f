use Rattle.std.proofs.Common.{ap, ◌∙◌, arith}
use Rattle.nofs_disk.specs.CellsOfBytes.{part-range}
use Rattle.nofs_reader.specs.Layouts.{sort_of}
use Rattle.nofs_reader.proofs.layout.sort_at.Goals as goal

pub returns-then-end-bytes : goal.returns-then-end-bytes
returns-then-end-bytes c =
    let fits = c.if-end-bytes.true in
    c.sort_of.ensures ∙ ap (sort_of c.args.number) (part-range c.args.bytes.now c.args.at 4096 (omega (arith, fits)))

use Rattle.std.proofs.Common.{sym, arith}
use Rattle.nofs_reader.proofs.OnLayouts.{packed-cell}
use Rattle.nofs_reader.proofs.layout.find_cell.Goals as goal

pub returns-in-Packed : goal.returns-in-Packed
returns-in-Packed c =
    let low = c.requires in
    (omega (arith, low), packed-cell c.args.bytes.now c.args.block (sym c.in-Packed.ensures))

use Rattle.std.proofs.Common.{arith}
use Rattle.nofs_reader.proofs.OnLayouts.{first-cell, neither-cell, pair-bad, second-cell}
use Rattle.nofs_reader.proofs.layout.find_in_pair.Goals as goal

pub returns-in-First : goal.returns-in-First
returns-in-First c =
    let low = c.requires.number in
    let small = c.requires.cell in (
      omega (arith, low, small),
      first-cell c.args.bytes.now c.args.number c.requires.twin c.args.cell small low c.in-First.ensures,
    )

pub returns-in-Second : goal.returns-in-Second
returns-in-Second c =
    let low = c.requires.number in
    let small = c.requires.cell in (
      omega (arith, low, small),
      second-cell c.args.bytes.now c.args.number c.requires.twin c.args.cell small low c.in-Second.ensures,
    )

pub returns-in-Blank : goal.returns-in-Blank
returns-in-Blank c =
    neither-cell c.args.bytes.now c.args.number c.requires.twin c.args.cell c.requires.cell c.requires.number
    c.in-Blank.ensures

pub returns-in-Bad : goal.returns-in-Bad
returns-in-Bad c =
    let low = c.requires.number in
    let small = c.requires.cell in (
      omega (arith, small),
      record {
        range = omega (arith, low);
        untold = pair-bad c.args.bytes.now c.args.number c.requires.twin c.in-Bad.ensures;
      },
    )

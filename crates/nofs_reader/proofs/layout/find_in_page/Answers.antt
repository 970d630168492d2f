use Rattle.std.proofs.Common.{arith}
use Rattle.nofs_reader.proofs.OnLayouts.{blank-cell, page-bad, page-cell}
use Rattle.nofs_reader.proofs.layout.find_in_page.Goals as goal

pub returns-in-Told : goal.returns-in-Told
returns-in-Told c =
    let low = c.requires.number in
    let small = c.requires.cell in (
      omega (arith, low, small),
      page-cell c.args.bytes.now c.args.number c.args.cell c.requires.paged small low
          c.in-Told.ensures,
    )

pub returns-in-Blank : goal.returns-in-Blank
returns-in-Blank c =
    blank-cell c.args.bytes.now c.args.number c.args.cell c.requires.paged c.requires.cell c.requires.number
    c.in-Blank.ensures

pub returns-in-Bad : goal.returns-in-Bad
returns-in-Bad c =
    let low = c.requires.number in
    let small = c.requires.cell in (
      omega (arith, small),
      record {
        range = omega (arith, low);
        untold = page-bad c.args.bytes.now c.args.number c.requires.paged c.in-Bad.ensures;
      },
    )

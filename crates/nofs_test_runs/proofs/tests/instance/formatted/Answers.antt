use Rattle.nofs_tool.proofs.OnBegin.Formats.{formatted_met}
use Rattle.nofs_test_runs.proofs.tests.instance.formatted.Goals as goal

pub returns-in-Ok : goal.returns-in-Ok
returns-in-Ok g c tells =
    let e = c.in-Ok.ensures in
    formatted_met 64 16 (g.D.Disk.state c.args.disk) (g.D.Disk.state c.format.new.disk) e.ends e.adds e.cells tells

use Rattle.std.proofs.Common.{arith}
use Rattle.nofs_names.proofs.OnLists.Lines.{lining-on, lining-ends}
use Rattle.nofs_names.proofs.lists.read_lines.Goals as goal

pub loop-place-preserved : goal.loop-place-preserved
loop-place-preserved g c =
    lining-on (g.D.Disk.state c.args.disk.now) (g.D.Disk.state c.loop-place.disk) (g.D.Disk.state c.read_line.new.disk)
    c.args.directory.now.at c.args.directory.now.inode c.args.slot c.loop-place.place c.args.directory.now.record
    c.args.payload.now c.loop-place.lines c.loop-place.records c.read_line.new.records
    c.requires.directory c.requires.slot c.requires.cell c.loop-place.invariant c.loop-place-test.true
    c.read_line.result c.read_line.ensures c.in-Ok.line
    c.push_line.new.lines c.in-Ok.is c.in-Ok-push_line.ensures

pub returns : goal.returns
returns g c = lining-ends (g.D.Disk.state c.args.disk.now) (g.D.Disk.state c.loop-place.disk)
    c.args.directory.now.inode c.args.slot c.loop-place.place c.loop-place.lines c.loop-place.records
    c.loop-place.invariant (let h =
    c.loop-place-test.false in let l = c.loop-place.auto.place-end in omega (arith, h, l))

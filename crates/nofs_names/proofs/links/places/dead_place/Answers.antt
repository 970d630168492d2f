use Rattle.std.proofs.Common.{Ok, ap, ◌∙◌}
use Rattle.nofs_names.proofs.OnLinks.Directories.{four-of, lives-goes, lives-ends, lives-all}
use Rattle.nofs_names.proofs.links.places.dead_place.Goals as goal

pub returns-then-not-branch : goal.returns-then-not-branch
returns-then-not-branch g c = lives-ends (g.D.Disk.state c.args.disk.now) (g.D.Disk.state c.loop-place.disk)
    (g.D.Disk.state c.is_agreed_link.new.disk)
    c.args.known.now c.args.it.now.inode c.args.it.now.record c.loop-place.last c.is_agreed_link.new.last
    c.loop-place.place c.is_agreed_link.result c.loop-place.invariant
    c.is_agreed_link.ensures (c.in_ok-is_agreed_link.was {u = tt} ∙ ap Ok c.if-not-branch.true) c.loop-place-test.true
    (four-of (g.D.Disk.state c.args.disk.now) c.args.it.now.at c.args.it.now.inode c.args.it.now.record
    c.requires.record)

pub loop-place-preserved : goal.loop-place-preserved
loop-place-preserved g c = lives-goes (g.D.Disk.state c.args.disk.now) (g.D.Disk.state c.loop-place.disk)
    (g.D.Disk.state c.is_agreed_link.new.disk)
    c.args.known.now c.args.it.now.inode c.args.it.now.record c.loop-place.last c.is_agreed_link.new.last
    c.loop-place.place c.is_agreed_link.result c.loop-place.invariant
    c.is_agreed_link.ensures (c.in_ok-is_agreed_link.was {u = tt} ∙ ap Ok c.if-not-branch.false)

pub returns : goal.returns
returns g c = lives-all (g.D.Disk.state c.args.disk.now)
    (g.D.Disk.state c.loop-place.disk) c.args.known.now c.args.it.now.inode c.args.it.now.record c.loop-place.last
    c.loop-place.place c.loop-place.invariant c.loop-place-test.false
    (four-of (g.D.Disk.state c.args.disk.now) c.args.it.now.at c.args.it.now.inode c.args.it.now.record
    c.requires.record)

use Rattle.std.proofs.Common.{sym}
use Rattle.nofs_names.proofs.OnLinks.Directories.{link-second, link-empty, link-dead}
use Rattle.nofs_names.proofs.links.places.link_place.Goals as goal

pub returns-then-it-eq2 : goal.returns-then-it-eq2
returns-then-it-eq2 g c = link-second (g.D.Disk.state c.args.disk.now) c.args.it.now.at c.args.known.now
    c.args.it.now.inode c.args.it.now.record c.args.last.now
    c.requires.record c.if-it-eq2.true

pub returns-in-Some : goal.returns-in-Some
returns-in-Some g c = link-empty (g.D.Disk.state c.args.disk.now) c.args.it.now.at c.args.known.now c.args.it.now.inode
    c.args.it.now.record c.args.last.now
    c.requires.record
    c.in-Some.place c.if-it-eq2.false (sym c.in-Some.ensures.place) c.in-Some.ensures.range c.requires.last

pub returns-in-Ok : goal.returns-in-Ok
returns-in-Ok g c = link-dead (g.D.Disk.state c.args.disk.now) c.args.it.now.at c.args.known.now c.args.it.now.inode
    c.args.it.now.record c.args.last.now c.requires.record
    (g.D.Disk.state c.dead_place.new.disk) c.dead_place.new.last c.if-it-eq2.false
    (sym c.in-None.ensures.place) c.in-Ok.place c.place_or_full.result
    c.in-Ok.ensures c.place_or_full.ensures

use Rattle.std.proofs.Common.{ℕ, ◌+◌, subst}
use Rattle.nofs_files.proofs.OnReads.Stats.{Counted, counted-begins, counted-goes, counted-ends, byte-one}
use Rattle.nofs_files.proofs.reads.stats.count_links.Goals as goal

pub loop-place-init : goal.loop-place-init
loop-place-init g c = counted-begins (g.D.Disk.state c.args.disk.now) c.args.books.now.agreement c.args.inode
    c.args.it.now c.args.last.now c.requires.last

pub loop-place-preserved : goal.loop-place-preserved
loop-place-preserved g c =
    subst (λ (n : ℕ). Counted (g.D.Disk.state c.args.disk.now)
    (g.D.Disk.state c.is_agreed_link.new.disk) c.args.books.now.agreement c.args.inode
    c.args.it.now c.is_agreed_link.new.last (c.loop-place.place + 1) (c.loop-place.links + n))
    (byte-one c.in_ok-is_pair.is_pair c.from-links.result c.from-links.ensures)
    (counted-goes (g.D.Disk.state c.args.disk.now) (g.D.Disk.state c.loop-place.disk)
    (g.D.Disk.state c.is_agreed_link.new.disk) c.args.books.now.at
    c.args.books.now.agreement c.args.inode c.args.it.now c.loop-place.last c.is_agreed_link.new.last c.loop-place.place
    c.loop-place.links
    c.is_agreed_link.result c.in_ok-is_pair.is_pair c.requires.known c.loop-place.invariant c.loop-place-test.true
    c.is_agreed_link.ensures
    (c.in_ok-is_pair.was {u = tt}))

pub returns : goal.returns
returns g c = counted-ends (g.D.Disk.state c.args.disk.now)
    (g.D.Disk.state c.loop-place.disk) c.args.books.now.at c.args.books.now.agreement c.args.inode
    c.args.it.now c.loop-place.last c.loop-place.place c.loop-place.links c.requires.known c.loop-place.invariant
    c.loop-place-test.false

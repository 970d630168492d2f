use Rattle.std.proofs.Common.{arith, refl}
use Rattle.nofs_names.proofs.OnEntries.Places.{takes-few, takes-spent, takes-all}
use Rattle.nofs_names.proofs.entries.places.take_blocks.Goals as goal

pub returns-in-None : goal.returns-in-None
returns-in-None g c =
    takes-few (g.D.Disk.state c.args.core.now.disk) c.args.core.now.books c.args.needed c.args.inodes c.requires.safe
    (c.in-None.ensures.none refl) c.count.result c.count-in-None.result c.next_block.result
    c.count.ensures c.count-in-None.ensures
    (λ W s. c.next_block.ensures W s c.requires.safe.unknown_blocks)

pub returns-then-core-inodes : goal.returns-then-core-inodes
returns-then-core-inodes g c =
    takes-spent (g.D.Disk.state c.args.core.now.disk) c.args.core.now.books c.args.needed c.args.inodes c.requires.safe
    c.in-Some.ensures.found.count (let h = c.if-core-inodes.true in omega (arith, h))

pub returns-else-core-inodes : goal.returns-else-core-inodes
returns-else-core-inodes g c =
    takes-all (g.D.Disk.state c.args.core.now.disk) c.args.core.now.books c.args.needed c.args.inodes c.requires.safe
    c.in-Some.blocks c.in-Some.ensures.found (let h = c.if-core-inodes.false in omega (arith, h))

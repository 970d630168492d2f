use Rattle.std.proofs.Common.{arith}
use Rattle.nofs_names.proofs.OnEntries.Places.{hole-under}
use Rattle.nofs_names.proofs.entries.places.find_hole.Goals as goal

pub returns-in-Ok : goal.returns-in-Ok
returns-in-Ok g c = hole-under (g.D.Disk.state c.args.disk.now)
    (g.D.Disk.state c.find_slot.new.disk) c.args.directory.now.at c.args.directory.now.inode c.args.slot
    c.find_slot.new.last c.in-Ok.leaf c.under_leaf.result
    (let h = c.if-slot-lt8.false in omega (arith, h)) c.requires.slot c.requires.hole c.in-Ok.ensures
    c.under_leaf.ensures

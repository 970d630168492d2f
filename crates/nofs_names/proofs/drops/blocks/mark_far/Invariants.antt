use Rattle.std.proofs.Common.{◌+◌, ◌*◌, Ok}
use Rattle.nofs_state.specs.Inodes.Blocks.{MarksAll}
use Rattle.nofs_names.proofs.drops.blocks.mark_far.Given as goal

abbrev pub invariant-loop-child : goal.invariant-loop-child
invariant-loop-child g l = MarksAll (g.D.Disk.state l.fn.disk) (g.D.Disk.state l.disk) l.it.at l.it.inode 72
    (72 + 64 * l.child) l.fn.owned l.owned l.last
    (Ok tt)

use Rattle.nofs_state.proofs.OnInodes.Blocks.{Marking}
use Rattle.nofs_state.proofs.inodes.blocks.mark_slots.Given as goal

abbrev pub invariant-loop-slot : goal.invariant-loop-slot
invariant-loop-slot g l =
    Marking (g.D.Disk.state l.fn.disk) (g.D.Disk.state l.disk) l.at l.inode l.from l.slot l.fn.owned l.owned l.last

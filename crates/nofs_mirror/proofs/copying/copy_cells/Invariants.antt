use Rattle.std.proofs.Common.{◌+◌, ◌≤◌}
use Rattle.nofs_mirror.specs.Copying.{Copies, HasCopied}
use Rattle.nofs_mirror.proofs.OnPartCopy.{IsCopiedTo}
use Rattle.nofs_mirror.proofs.copying.copy_cells.Given as goal

abbrev pub invariant-loop-block : goal.invariant-loop-block
invariant-loop-block g l =
    Copies (g.A.Disk.state l.fn.lead) (g.A.Disk.state l.lead) (g.B.Disk.state l.fn.other) (g.B.Disk.state l.other)
    × HasCopied (g.A.Disk.state l.fn.lead) (g.B.Disk.state l.other) l.block
    × ((g.B.Disk.state l.fn.other).spare ≤ (g.B.Disk.state l.other).spare + l.block)
    × IsCopiedTo l.block (g.A.Disk.state l.fn.lead) (g.B.Disk.state l.fn.other) (g.B.Disk.state l.other)

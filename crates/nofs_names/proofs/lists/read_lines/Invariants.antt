use Rattle.nofs_names.proofs.OnLists.Lines.{Lining}
use Rattle.nofs_names.proofs.lists.read_lines.Given as goal

abbrev pub invariant-loop-place : goal.invariant-loop-place
invariant-loop-place g l =
    Lining (g.D.Disk.state l.fn.disk) (g.D.Disk.state l.disk) l.directory.inode l.slot l.place l.lines l.records

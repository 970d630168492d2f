use Rattle.nofs_files.proofs.OnReads.Stats.{Counted}
use Rattle.nofs_files.proofs.reads.stats.count_links.Given as goal

abbrev pub invariant-loop-place : goal.invariant-loop-place
invariant-loop-place g l =
    Counted (g.D.Disk.state l.fn.disk) (g.D.Disk.state l.disk) l.books.agreement l.inode l.it l.last l.place l.links

use Rattle.nofs_names.proofs.OnSteps.Refusals.{name-unused}
use Rattle.nofs_names.proofs.searches.directories.find_unused.Goals as goal

pub returns-in-Ok : goal.returns-in-Ok
returns-in-Ok g c = name-unused (g.D.Disk.state c.args.disk.now) (g.D.Disk.state c.search.new.disk)
    c.args.directory.now.at c.args.directory.now.inode c.args.name.now c.search.new.names c.search.new.records
    c.in-Ok.searched c.unused.result c.in-Ok.ensures c.unused.ensures

use Rattle.nofs_names.proofs.OnSteps.Refusals.{pair-found}
use Rattle.nofs_names.proofs.searches.directories.find_pair.Goals as goal

pub returns-in-Ok : goal.returns-in-Ok
returns-in-Ok g c = pair-found (g.D.Disk.state c.args.disk.now) (g.D.Disk.state c.search.new.disk)
    c.args.at.now c.args.wanted.directory c.args.wanted.name.now c.search.new.names c.search.new.records
    c.in-Ok.searched c.pair_of.result c.in-Ok.ensures
    c.pair_of.ensures

use Rattle.nofs_state.proofs.OnInodes.Owners.{owner-tagged, owner-untagged}
use Rattle.nofs_state.proofs.cores.checks.has_owner.Goals as goal

pub returns-in-None : goal.returns-in-None
returns-in-None g c = owner-untagged (g.D.Disk.state c.args.disk.now) (g.D.Disk.state c.read_block.new.disk)
    c.args.books.now.agreement c.args.block c.read_block.new.last c.in-Ok.ensures c.read_tag.result
    c.read_tag.ensures.value c.in-None.is

pub returns-in-Some : goal.returns-in-Some
returns-in-Some g c = owner-tagged (g.D.Disk.state c.args.disk.now) (g.D.Disk.state c.read_block.new.disk)
    c.args.books.now.agreement c.args.block c.read_block.new.last c.in-Ok.ensures (g.D.Disk.state c.is_owned.new.disk)
    c.read_tag.result c.in-Some.tag c.is_owned.result c.read_tag.ensures.value c.in-Some.is c.is_owned.ensures

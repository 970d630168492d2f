use Rattle.std.proofs.Common.{◌+◌}
use Rattle.nofs_shared.proofs.OnActs.Room.{finds-room}
use Rattle.nofs_shared.proofs.mount.serves.MountServes.serve.Goals as goal

pub returns-clause-room : goal.returns-clause-room
returns-clause-room g c = finds-room c.args.caller c.args.step c.step.result c.args.self.now.core.books.history.entries
    c.args.self.now.kept c.step.new.self.kept
    (c.args.self.now.core.books.at.inodes + c.args.self.now.core.books.at.blocks) c.step.ensures.kept
    c.args.self.now.taken

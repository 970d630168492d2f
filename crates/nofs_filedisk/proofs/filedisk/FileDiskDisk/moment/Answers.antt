use Rattle.nofs_filedisk.specs.Past.{file_calls}
use Rattle.nofs_filedisk.proofs.OnFiledisk.Calls.{rest_leaves}
use Rattle.nofs_filedisk.proofs.filedisk.FileDiskDisk.moment.Goals as goal

pub returns-clause-leaves : goal.returns-clause-leaves
returns-clause-leaves g c image =
    let self = c.args.self.now in
    rest_leaves (g.B.Positioned.state self.contents.file) (g.B.Positioned.state self.first.value)
    (file_calls self.past.value) self.spare image

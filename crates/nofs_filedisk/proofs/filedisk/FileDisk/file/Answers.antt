use Rattle.nofs_filedisk.specs.Past.{file_calls}
use Rattle.nofs_filedisk.proofs.OnFiledisk.Start.{durable_left}
use Rattle.nofs_filedisk.proofs.filedisk.FileDisk.file.Goals as goal

pub returns-clause-left : goal.returns-clause-left
returns-clause-left g c =
    let self = c.args.self in
    rw c.into_file.ensures (durable_left (g.B.Positioned.state self.contents.file)
    (g.B.Positioned.state self.first.value) (file_calls self.past.value)
    self.spare self.lasting)

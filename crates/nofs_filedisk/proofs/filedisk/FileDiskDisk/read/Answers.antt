use Rattle.nofs_filedisk.specs.Past.{file_calls}
use Rattle.nofs_filedisk.proofs.OnFiledisk.Calls.{read_holds}
use Rattle.nofs_filedisk.proofs.filedisk.FileDiskDisk.read.Goals as goal

pub invariant_of-self : goal.invariant_of-self
invariant_of-self g c =
    let old = c.args.self.now in
    let did = c.read in
    read_holds (g.B.Positioned.state old.contents.file) (g.B.Positioned.state did.new.self.file)
    (g.B.Positioned.state old.first.value) old.contents.run
    did.new.self.run (file_calls old.past.value) old.moment old.spare old.made old.room old.sized old.present
    old.lasting did.ensures.keeps.tells
    did.ensures.keeps.bytes did.ensures.keeps.durable did.ensures.run

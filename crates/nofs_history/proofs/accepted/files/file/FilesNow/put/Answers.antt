use Rattle.nofs_history.proofs.OnAccepted.Padded.{put-at}
use Rattle.nofs_history.proofs.accepted.files.file.FilesNow.put.Goals as goal

pub returns : goal.returns
returns c = λ j i. put-at c.args.self.now.files.items c.grow_files.new.files.items c.args.inode c.args.file
    c.grow_files.ensures.same c.requires
    c.in_ok-grow_files.ensures.long i j

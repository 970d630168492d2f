use Rattle.nofs_names.proofs.OnLinks.Directories.{both-no-directory, both-no-file, both-are}
use Rattle.nofs_names.proofs.links.steps.open_both.Goals as goal

pub returns-in-Err : goal.returns-in-Err
returns-in-Err g c = both-no-directory (g.D.Disk.state c.args.disk.now)
    (g.D.Disk.state c.open_inode.new.disk) c.args.books.now c.args.new.at.directory
    c.args.new.at.generation c.args.new.inode c.args.new.of c.open_inode.new.last c.open_inode.result
    c.open_inode.ensures c.in-Err.why c.in-Err.is

pub returns-in-Err-open_inode : goal.returns-in-Err-open_inode
returns-in-Err-open_inode g c = both-no-file (g.D.Disk.state c.args.disk.now)
    (g.D.Disk.state c.open_inode.new.disk) c.args.books.now c.args.new.at.directory
    c.args.new.at.generation c.args.new.inode c.args.new.of c.open_inode.new.last c.open_inode.result
    c.open_inode.ensures c.in-Ok.above c.in-Ok.is
    (g.D.Disk.state c.open_inode-2.new.disk) c.open_inode-2.new.last c.open_inode-2.result
    c.open_inode-2.ensures c.in-Err-open_inode.why
    c.in-Err-open_inode.is

pub returns : goal.returns
returns g c = both-are (g.D.Disk.state c.args.disk.now)
    (g.D.Disk.state c.open_inode.new.disk) c.args.books.now c.args.new.at.directory c.args.new.at.generation
    c.args.new.inode c.args.new.of c.open_inode.new.last c.open_inode.result c.open_inode.ensures c.in-Ok.above
    c.in-Ok.is (g.D.Disk.state
    c.open_inode-2.new.disk)
    c.open_inode-2.new.last c.open_inode-2.result c.open_inode-2.ensures c.in-Ok-open_inode.file c.in-Ok-open_inode.is
    c.both_of.result c.both_of.ensures

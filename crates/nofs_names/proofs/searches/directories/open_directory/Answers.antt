use Rattle.std.proofs.Common.{ap}
use Rattle.nofs_model.specs.Files.{is_folder}
use Rattle.nofs_names.proofs.OnSteps.Refusals.{directory-stale, directory-file, directory-is}
use Rattle.nofs_names.proofs.searches.directories.open_directory.Goals as goal

pub returns-in-Err : goal.returns-in-Err
returns-in-Err g c = directory-stale (g.D.Disk.state c.args.disk.now) (g.D.Disk.state c.open_inode.new.disk)
    c.args.books.now c.args.directory c.args.generation c.open_inode.new.last c.open_inode.result
    c.open_inode.ensures c.in-Err.why c.in-Err.is

pub returns-in-Directory : goal.returns-in-Directory
returns-in-Directory g c = directory-is (g.D.Disk.state c.args.disk.now) (g.D.Disk.state c.open_inode.new.disk)
    c.args.books.now c.args.directory c.args.generation c.open_inode.new.last c.open_inode.result
    c.open_inode.ensures c.in-Ok.it c.in-Ok.is
    (ap is_folder c.in-Directory.is)

pub returns-in-File : goal.returns-in-File
returns-in-File g c = directory-file (g.D.Disk.state c.args.disk.now) (g.D.Disk.state c.open_inode.new.disk)
    c.args.books.now c.args.directory c.args.generation c.open_inode.new.last c.open_inode.result
    c.open_inode.ensures c.in-Ok.it c.in-Ok.is
    (ap is_folder c.in-File.is)

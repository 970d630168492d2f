-- The file is taken out, gets its size, and is put back.
use Rattle.std.proofs.Common.{refl}
use Rattle.nofs_history.specs.Machine as machine
use Rattle.nofs_history.specs.Accepted.Files.{kept_files_of, file_of}
use Rattle.nofs_history.proofs.OnAccepted.Aimed.{resize-aimed}
use Rattle.nofs_history.proofs.OnAccepted.Changed.{change-none, change-there, resize-there}
use Rattle.nofs_history.proofs.accepted.applying.resize.Goals as goal

pub returns-in-None : goal.returns-in-None
returns-in-None c = change-none (kept_files_of c.args.files.now) (kept_files_of c.take.new.self)
    (machine.resize_given (kept_files_of c.args.files.now) c.args.inode c.args.generation c.args.size) c.args.inode
    c.args.generation
    (resize-aimed (kept_files_of c.args.files.now) c.args.inode c.args.generation c.args.size)
    (c.in-None.ensures.none refl) (c.in-None.ensures.missing refl)

pub returns-in_ok-put-in-Some : goal.returns-in_ok-put-in-Some
returns-in_ok-put-in-Some c =
    change-there (kept_files_of c.args.files.now) (kept_files_of c.take.new.self) (kept_files_of c.put.new.self)
    (machine.resize_given (kept_files_of c.args.files.now) c.args.inode c.args.generation c.args.size) c.args.inode
    c.args.generation
    (file_of c.in-Some.file) (file_of c.resized.result)
    (resize-aimed (kept_files_of c.args.files.now) c.args.inode c.args.generation c.args.size) c.in-Some.ensures.taken
    c.in-Some.ensures.left
    c.in_ok-put-in-Some.ensures
    (resize-there (kept_files_of c.args.files.now) c.args.inode c.args.generation c.args.size (file_of c.in-Some.file)
    (file_of c.resized.result) c.in-Some.ensures.taken c.in-Some.ensures.same c.resized.ensures)

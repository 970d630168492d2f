-- The slot's file is taken out, gets the cell, and is put back.
use Rattle.std.proofs.Common.{refl}
use Rattle.nofs_model.specs.declared.image.value.Value.TheVariants as value
use Rattle.nofs_history.specs.Machine.{no_meta}
use Rattle.nofs_history.specs.Accepted.Files.{kept_files_of, file_of}
use Rattle.nofs_history.specs.Accepted.Given.{cell_of}
use Rattle.nofs_history.proofs.OnAccepted.Aimed.{cell-aimed}
use Rattle.nofs_history.proofs.OnAccepted.Changed.{change-none, change-there, cell-there}
use Rattle.nofs_history.proofs.accepted.applying.take_cell.Goals as goal

pub returns-in-None : goal.returns-in-None
returns-in-None c = change-none (kept_files_of c.args.files.now) (kept_files_of c.take.new.self)
    (cell_of c.args.given no_meta) c.args.given.inode c.args.given.generation
    (cell-aimed c.args.given.inode c.args.given.generation c.args.given.slot (value.Bytes c.args.given.cell.value))
    (c.in-None.ensures.none refl)
    (c.in-None.ensures.missing refl)

pub returns-in_ok-put-in-Some : goal.returns-in_ok-put-in-Some
returns-in_ok-put-in-Some c =
    change-there (kept_files_of c.args.files.now) (kept_files_of c.take.new.self) (kept_files_of c.put.new.self)
    (cell_of c.args.given no_meta) c.args.given.inode c.args.given.generation
    (file_of c.in-Some.file) (file_of c.in_ok-changed-in-Some.changed)
    (cell-aimed c.args.given.inode c.args.given.generation c.args.given.slot (value.Bytes c.args.given.cell.value))
    c.in-Some.ensures.taken
    c.in-Some.ensures.left c.in_ok-put-in-Some.ensures
    (cell-there c.args.given.inode c.args.given.generation c.args.given.slot (value.Bytes c.args.given.cell.value)
    (file_of c.in-Some.file)
    (file_of c.in_ok-changed-in-Some.changed)
    c.in-Some.ensures.same c.in_ok-changed-in-Some.ensures)

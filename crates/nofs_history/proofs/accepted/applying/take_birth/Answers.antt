-- The directory's cell, and then the new file.
use Rattle.nofs_model.specs.declared.image.value.Value.TheVariants as value
use Rattle.nofs_history.specs.Accepted.Files.{file_of, kept_files_of}
use Rattle.nofs_history.proofs.OnAccepted.Taking.{cell_and_birth}
use Rattle.nofs_history.proofs.accepted.applying.take_birth.Goals as goal

pub returns : goal.returns
returns c = cell_and_birth (kept_files_of c.args.files.now) (kept_files_of c.take_cell.new.files)
    (kept_files_of c.put.new.self)
    c.args.cell.inode c.args.cell.generation c.args.cell.slot (value.Bytes c.args.cell.cell.value) c.args.birth
    (file_of c.new_file.result)
    c.in_ok-take_cell.ensures c.in_ok-put.ensures c.new_file.ensures

-- What inodes become, and then the cell.
use Rattle.nofs_model.specs.declared.image.value.Value.TheVariants as value
use Rattle.nofs_history.specs.Accepted.Files.{kept_files_of}
use Rattle.nofs_history.specs.Accepted.Given.{metas_of}
use Rattle.nofs_history.proofs.OnAccepted.Taking.{meta_and_cell}
use Rattle.nofs_history.proofs.accepted.applying.take_both.Goals as goal

pub returns : goal.returns
returns c = meta_and_cell (kept_files_of c.args.files.now) (kept_files_of c.take_metas.new.files)
    (kept_files_of c.take_cell.new.files)
    c.args.cell.inode c.args.cell.generation c.args.cell.slot (value.Bytes c.args.cell.cell.value)
    (metas_of c.args.meta)
    c.in_ok-take_metas.ensures c.in_ok-take_cell.ensures

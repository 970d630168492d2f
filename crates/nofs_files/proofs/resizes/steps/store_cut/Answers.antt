use Rattle.std.proofs.Common.{refl}
use Rattle.nofs_state.specs.Writes.Cells.{NotStored}
use Rattle.nofs_files.proofs.resizes.steps.store_cut.Goals as goal

pub returns-in-Err : goal.returns-in-Err
returns-in-Err g c = NotStored c.in-Err.field-0 c.in-Err.ensures refl refl

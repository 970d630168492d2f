use Rattle.std.proofs.Common.{refl}
use Rattle.nofs_files.specs.Reads.{NotFlushed}
use Rattle.nofs_files.proofs.reads.flushes.flush_disk.Goals as goal

pub returns-in-Err : goal.returns-in-Err
returns-in-Err g c = NotFlushed c.in-Err.field-0 c.in-Err.ensures refl refl

use Rattle.std.proofs.Common.{List, ℕ, Ok, subst}
use Rattle.nofs_agree.specs.Reads.{IsAt}
use Rattle.nofs_reader.specs.Image.{disk_of}
use Rattle.nofs_reader.proofs.OnReads.{superblock-at}
use Rattle.nofs_reader.proofs.reads.superblock.Goals as goal

pub returns-in-Ok-clause-at : goal.returns-in-Ok-clause-at
returns-in-Ok-clause-at c =
    subst (λ (bytes : List ℕ). IsAt (disk_of bytes) c.in-Ok.at) c.over-disk.ensures.bytes
    (superblock-at c.over-disk.result.bytes.now (Ok c.in-Ok.at) c.in-Ok.ensures.mountable c.in-Ok.ensures.spelled)

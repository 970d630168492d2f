use Rattle.std.proofs.Common.{ap, refl}
use Rattle.nofs_disk.specs.declared.tag.Cell.{Cell}
use Rattle.nofs_disk.specs.Disk.{cell_at}
use Rattle.nofs_super.specs.Spelling.{if-mountable, if-spelled}
use Rattle.nofs_super.proofs.Rows.{not-a-row}
use Rattle.nofs_super.proofs.superblock.read_super.Goals as goal

pub returns-in-Ok-clause-spelled : goal.returns-in-Ok-clause-spelled
returns-in-Ok-clause-spelled g c =
    let old = g.D.Disk.state c.args.disk.now in
    if-spelled old.blocks c.read.new.into.payload (cell_at old.now 0).payload _ c.check.result
    (rw (← c.blocks-device.ensures, c.check.ensures.value))
    (λ tells. ap (λ (cell : Cell). cell.payload) (c.in-Ok.ensures.cell tells))

pub returns-in-Ok-clause-mountable : goal.returns-in-Ok-clause-mountable
returns-in-Ok-clause-mountable g c =
    let old = g.D.Disk.state c.args.disk.now in
    if-mountable old.blocks c.read.new.into.payload c.check.result
    (rw (← c.blocks-device.ensures, c.check.ensures.value))

pub returns-in-Ok-clause-reads : goal.returns-in-Ok-clause-reads
returns-in-Ok-clause-reads g c = record {
  no_write = not-a-row _ _ c.check.result _ c.check.ensures.value refl;
  no_memory = not-a-row _ _ c.check.result _ c.check.ensures.value refl;
}

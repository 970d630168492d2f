use Rattle.std.proofs.Common.{refl}
use Rattle.nofs_memdisk.specs.Parts.{memory_state}
use Rattle.nofs_example.proofs.OnFormat.{sound-formatted}
use Rattle.nofs_example.proofs.formatted.Goals as goal

pub returns-in-Ok : goal.returns-in-Ok
returns-in-Ok c = record {
  sound = sound-formatted c.law_formatted.ensures 64 16 (memory_state c.in_ok-disk.disk)
      (memory_state c.format.new.disk)
      c.format.ensures.adds.disk c.in-Ok.ensures.ends refl (c.in-Ok.ensures.cells refl);
}

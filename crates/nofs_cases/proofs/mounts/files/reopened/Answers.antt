use Rattle.std.proofs.Common.{ap, arith, refl, ◌∙◌}
use Rattle.nofs_disk.specs.CellsOfBytes.{cells_in, length-cells_in}
use Rattle.nofs_cases.proofs.OnMounts.Sound.{settled-sound}
use Rattle.nofs_cases.proofs.mounts.files.reopened.Goals as goal

pub returns-in-Ok : goal.returns-in-Ok
returns-in-Ok c sound =
    let cells = cells_in c.file-file.result.durable.items in
    settled-sound _ cells c.in-Ok.ensures.tells (length-cells_in c.file-file.result.durable.items)
    (c.in-Ok.ensures.now ∙ ap cells_in c.durable.ensures) c.in-Ok.ensures.settled
    (c.note_sound.ensures sound cells
    (c.below.ensures.left.each _ cells (omega arith) (omega arith) (c.file-file.ensures.left refl)))

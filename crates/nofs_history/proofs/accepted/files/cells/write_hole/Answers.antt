use Rattle.std.proofs.Common.{sym, ap, ◌∙◌}
use Rattle.nofs_disk.specs.Number.{zeros}
use Rattle.nofs_history.proofs.EntryPut.{zeros-are}
use Rattle.nofs_history.proofs.accepted.files.cells.write_hole.Goals as goal

pub returns : goal.returns
returns c = c.clear.ensures ∙ ap zeros c.told-into ∙ sym (zeros-are 1024)

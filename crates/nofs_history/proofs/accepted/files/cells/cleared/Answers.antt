use Rattle.std.proofs.Common.{sym, ◌∙◌}
use Rattle.nofs_history.proofs.EntryPut.{zeros-are}
use Rattle.nofs_history.proofs.accepted.files.cells.cleared.Goals as goal

pub returns : goal.returns
returns c = c.clear.ensures ∙ sym (zeros-are 64)

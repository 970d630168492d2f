use Rattle.std.proofs.Common.{◌≡◌, take, flat_map}
use Rattle.nofs_tool.specs.Visits.Salvage.{loss_line}
use Rattle.nofs_tool.proofs.visits.salvage.losses_in.Given as goal

abbrev pub invariant-loop-loss : goal.invariant-loop-loss
invariant-loop-loss l = l.text.items ≡ flat_map loss_line (take l.loss-index l.report)

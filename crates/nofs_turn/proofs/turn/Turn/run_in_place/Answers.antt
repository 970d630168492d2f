use Rattle.std.proofs.Common.{rules, Some}
use Rattle.nofs_turn.proofs.turn.Turn.run_in_place.Goals as goal

pub slot_mut-requires : goal.slot_mut-requires
slot_mut-requires g c = (search rules, (Some c.requires.carries.0, search rules))

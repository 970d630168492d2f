use Rattle.std.proofs.lemmas.List.{map-set}
use Rattle.nofs_gen.specs.Replay.{kept_value}
use Rattle.nofs_gen.proofs.file.set_slot.Goals as goal

pub returns-then-slot-len : goal.returns-then-slot-len
returns-then-slot-len c = map-set kept_value c.args.values.now.items c.args.slot c.args.kept

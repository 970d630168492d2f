-- The calls that a mirror has had, the last one first.
use Rattle.std.specs.Prelude.{List, [], ◌∷◌}
use Rattle.nofs_mirror.specs.declared.sides.past.MirrorCall.{MirrorCall}
use Rattle.nofs_mirror.specs.declared.sides.past.MirroredPast.{MirroredPast}
use Rattle.nofs_mirror.specs.declared.sides.past.MirroredPast.TheOpen.{MirroredPast-F}
use Rattle.nofs_mirror.specs.declared.sides.past.MirroredPast.TheFolds.{fold-MirroredPast}

-- one call more
abbrev pub mirror_calls_step : MirroredPast-F (List MirrorCall) → List MirrorCall
mirror_calls_step MirroredPast-F.Start = []
mirror_calls_step (MirroredPast-F.Made call earlier) = call ∷ earlier.value

-- the calls of a past
abbrev pub mirror_calls : MirroredPast → List MirrorCall
mirror_calls = fold-MirroredPast (List MirrorCall) mirror_calls_step

use Rattle.std.proofs.Common.{◌+◌, ◌-◌, ◌≤◌, ◌≡◌, vec_len}
use Rattle.std.specs.Io.KnownBytes.{Consumes}
use Rattle.nofs_io.proofs.texts.read_all.Given as goal

abbrev pub invariant-loop-bytes : goal.invariant-loop-bytes
invariant-loop-bytes g l =
    (vec_len l.bytes ≤ l.limit + 1)
    × (vec_len l.piece ≡ 65536)
    × Consumes (g.S.Source.state l.initial.source).left (g.S.Source.state l.source).left l.bytes.items
    × ((g.S.Source.state l.initial.source).faults ≤ (g.S.Source.state l.source).faults)

abbrev pub decreases-loop-bytes : goal.decreases-loop-bytes
decreases-loop-bytes g l = l.limit + 1 - vec_len l.bytes

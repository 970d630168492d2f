use Rattle.std.proofs.Common.{◌+◌, ◌-◌, ◌≤◌, ◌≡◌, ℕ, List, [], length, vec_len}
use Rattle.std.specs.Io.KnownBytes.{Consumes}
use Rattle.nofs_script.specs.Pieces.{IsRead, IsWithin}
use Rattle.nofs_tool.proofs.runs.texts.read_session.Given as goal

abbrev pub invariant-loop-taken : goal.invariant-loop-taken
invariant-loop-taken g l =
    ((text : List ℕ) × Consumes (g.S.Source.state l.initial.source).left (g.S.Source.state l.source).left text
    × (length text ≡ l.taken) × IsRead l.reader.reading [] text)
    × IsWithin l.reader (l.taken + 1)
    × (l.taken ≤ l.limit + 1)
    × (vec_len l.piece ≡ 65536)
    × ((g.S.Source.state l.initial.source).faults ≤ (g.S.Source.state l.source).faults)

abbrev pub decreases-loop-taken : goal.decreases-loop-taken
decreases-loop-taken g l = l.limit + 1 - l.taken

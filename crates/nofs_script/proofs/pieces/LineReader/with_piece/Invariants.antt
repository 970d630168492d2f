use Rattle.std.proofs.Common.{◌+◌, ◌≤◌, ℕ, List, [], ◌++◌, length}
use Rattle.nofs_script.specs.Pieces.{ReadsOn}
use Rattle.nofs_script.proofs.pieces.LineReader.with_piece.Given as goal

abbrev pub invariant-loop-turn : goal.invariant-loop-turn
invariant-loop-turn l =
    ((text : List ℕ) → ReadsOn l.fn.self [] text → ReadsOn l.reader l.rest (text ++ l.piece))
    × (l.reader.number + length l.rest ≤ l.fn.self.number + length l.piece)
    × (l._turn + length l.rest ≤ length l.piece)

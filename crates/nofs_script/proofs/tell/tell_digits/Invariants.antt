use Rattle.std.proofs.Common.{◌≡◌, ◌≤◌, ℕ, List, ◌++◌}
use Rattle.std.specs.Slice.Iter.{chunks_rest, chunks_size}
use Rattle.hex.specs.Hex.{encode_lower}
use Rattle.nofs_script.specs.Telling.{GoesThrough}
use Rattle.nofs_script.proofs.tell.tell_digits.Given as goal

abbrev pub invariant-loop-chunk : goal.invariant-loop-chunk
invariant-loop-chunk g l =
    (goal.iterator-loop-chunk g).can_next l.chunk-iterator
    × (goal.iterator-loop-chunk g).is_finite l.chunk-iterator
    × (chunks_size l.chunk-iterator ≡ 1024)
    × ((g.K.Sink.state l.initial.sink).faults ≤ (g.K.Sink.state l.sink).faults)
    × ((done : List ℕ)
    × GoesThrough (g.K.Sink.state l.initial.sink) (g.K.Sink.state l.sink) l.initial.room.items l.room.items done
    × (done ++ encode_lower (chunks_rest l.chunk-iterator) ≡ encode_lower l.fn.bytes))

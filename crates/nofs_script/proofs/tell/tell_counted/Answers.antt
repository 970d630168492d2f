use Rattle.std.proofs.Common.{◌++◌, ◌∙◌, List, ℕ, ap₂}
use Rattle.nofs_script.proofs.OnTelling.{tells-same, then-tells}
use Rattle.nofs_script.proofs.tell.tell_counted.Goals as goal

pub returns : goal.returns
returns g c =
    let S = g.K.Sink.state in
    let now = c.args in
    let first = c.tell_bytes in
    let second = c.tell_bytes-2 in
    tells-same second.result (S now.sink.now) (S second.new.sink) now.room.now.items second.new.room.items _ _
    (ap₂ (λ (one two : List ℕ). one ++ two) c.as_bytes.ensures.value
    (c.as_bytes-2.ensures.value ∙ c.format.ensures.text))
    (then-tells second.result (S now.sink.now) (S first.new.sink) (S second.new.sink) now.room.now.items
    first.new.room.items second.new.room.items c.as_bytes.result.now c.as_bytes-2.result.now
    c.in_ok-tell_bytes.ensures.whole c.in_ok-tell_bytes.ensures.cause.later second.ensures)

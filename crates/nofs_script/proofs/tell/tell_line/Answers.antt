use Rattle.std.proofs.Common.{◌∷◌, [], arith, rules}
use Rattle.nofs_script.specs.Parts.{middle_text, parts_text}
use Rattle.nofs_script.proofs.OnTelling.{line-text, stays, tells-same, tells-stopped, then-tells}
use Rattle.nofs_script.proofs.tell.tell_line.Goals as goal

pub returns : goal.returns
returns g c =
    let S = g.K.Sink.state in
    let head = parts_text c.head_parts.result in
    let middle = middle_text c.args.line.now in
    let one = c.in_ok-tell_parts.ensures in
    let two = c.in_ok-tell_middle.ensures in
    tells-same c.tell_bytes.result (S c.args.sink.now) (S c.tell_bytes.new.sink) c.args.room.now.items
    c.tell_bytes.new.room.items _ _ (line-text c.args.line.now head middle c.head_parts.ensures)
    (then-tells c.tell_bytes.result (S c.args.sink.now) (S c.tell_parts.new.sink) (S c.tell_bytes.new.sink)
    c.args.room.now.items c.tell_parts.new.room.items c.tell_bytes.new.room.items head _ one.whole one.cause.later
    (then-tells c.tell_bytes.result (S c.tell_parts.new.sink) (S c.tell_middle.new.sink) (S c.tell_bytes.new.sink)
    c.tell_parts.new.room.items c.tell_middle.new.room.items c.tell_bytes.new.room.items middle (10 ∷ []) two.whole
    two.cause.later c.tell_bytes.ensures))

pub returns-in_err-tell_parts : goal.returns-in_err-tell_parts
returns-in_err-tell_parts g c =
    let S = g.K.Sink.state in
    let told = c.in_err-tell_parts.ensures in
    let room = c.args.room.now.items in
    tells-same c.from_residual.result (S c.args.sink.now) (S c.tell_parts.new.sink) room c.tell_parts.new.room.items _ _
    (line-text c.args.line.now (parts_text c.head_parts.result) (middle_text c.args.line.now) c.head_parts.ensures)
    (tells-stopped c.from_residual.result (S c.args.sink.now) (S c.args.sink.now) (S c.tell_parts.new.sink) room room
    c.tell_parts.new.room.items [] (parts_text c.head_parts.result) _ c.from_residual.ensures.0
    (stays (S c.args.sink.now) room room [] (search rules)) (omega arith) told.part told.cause.later told.cause.failed)

pub returns-in_err-tell_middle : goal.returns-in_err-tell_middle
returns-in_err-tell_middle g c =
    let S = g.K.Sink.state in
    let one = c.in_ok-tell_parts.ensures in
    let told = c.in_err-tell_middle.ensures in
    let result = c.from_residual-in_err-tell_middle in
    tells-same result.result (S c.args.sink.now) (S c.tell_middle.new.sink) c.args.room.now.items
    c.tell_middle.new.room.items _ _
    (line-text c.args.line.now (parts_text c.head_parts.result) (middle_text c.args.line.now) c.head_parts.ensures)
    (tells-stopped result.result (S c.args.sink.now) (S c.tell_parts.new.sink) (S c.tell_middle.new.sink)
    c.args.room.now.items c.tell_parts.new.room.items c.tell_middle.new.room.items (parts_text c.head_parts.result)
    (middle_text c.args.line.now) (10 ∷ []) result.ensures.0 one.whole one.cause.later told.part told.cause.later
    told.cause.failed)

use Rattle.std.proofs.Common.{◌++◌, ℕ, List, [], ap, append-nil, arith, flat_map, rules}
use Rattle.nofs_client.specs.declared.task.lines.Line.{Line}
use Rattle.nofs_script.specs.Text.{text_of}
use Rattle.nofs_script.proofs.OnTelling.{stays, tells-same, tells-stopped, then-tells}
use Rattle.nofs_script.proofs.tell.tell_through.Goals as goal

pub returns-in_err-tell_bytes-clause-goes : goal.returns-in_err-tell_bytes-clause-goes
returns-in_err-tell_bytes-clause-goes g c =
    let S = g.K.Sink.state in
    let told = c.in_err-tell_bytes.ensures in
    let room = c.args.room.now.items in
    tells-stopped c.from_residual.result (S c.args.sink.now) (S c.args.sink.now) (S c.tell_bytes.new.sink) room room
    c.tell_bytes.new.room.items [] c.args.text.now _ c.from_residual.ensures.0
    (stays (S c.args.sink.now) room room [] (search rules)) (omega arith) told.part told.cause.later told.cause.failed

pub returns-in_err-tell_users-clause-goes : goal.returns-in_err-tell_users-clause-goes
returns-in_err-tell_users-clause-goes g c =
    let S = g.K.Sink.state in
    let one = c.in_ok-tell_bytes.ensures in
    let told = c.in_err-tell_users.ensures in
    let result = c.from_residual-in_err-tell_users in
    let users = flat_map (λ (lines : List Line). flat_map text_of lines) c.args.users.now in
    tells-same result.result (S c.args.sink.now) (S c.tell_users.new.sink) c.args.room.now.items
    c.tell_users.new.room.items _ _ (ap (λ (l : List ℕ). c.args.text.now ++ l) (append-nil users))
    (tells-stopped result.result (S c.args.sink.now) (S c.tell_bytes.new.sink) (S c.tell_users.new.sink)
    c.args.room.now.items c.tell_bytes.new.room.items c.tell_users.new.room.items c.args.text.now users []
    result.ensures.0 one.whole one.cause.later told.part told.cause.later told.cause.failed)

pub returns-clause-goes : goal.returns-clause-goes
returns-clause-goes g c =
    let S = g.K.Sink.state in
    let one = c.in_ok-tell_bytes.ensures in
    let two = c.in_ok-tell_users.ensures in
    let users = flat_map (λ (lines : List Line). flat_map text_of lines) c.args.users.now in
    tells-same c.empty.result (S c.args.sink.now) (S c.empty.new.sink) c.args.room.now.items c.empty.new.room.items _ _
    (ap (λ (l : List ℕ). c.args.text.now ++ l) (append-nil users))
    (then-tells c.empty.result (S c.args.sink.now) (S c.tell_bytes.new.sink) (S c.empty.new.sink)
    c.args.room.now.items c.tell_bytes.new.room.items c.empty.new.room.items c.args.text.now _ one.whole
    one.cause.later
    (then-tells c.empty.result (S c.tell_bytes.new.sink) (S c.tell_users.new.sink) (S c.empty.new.sink)
    c.tell_bytes.new.room.items c.tell_users.new.room.items c.empty.new.room.items users [] two.whole two.cause.later
    c.empty.ensures.goes))

use Rattle.std.proofs.Common.{◌≡◌, arith}
use Rattle.nofs_wire.proofs.OnServer.Turns.{stops-ended}
use Rattle.nofs_wire.proofs.server.serve.take_past.Goals as goal

pub returns-in-Ok-eq0-clause-ends : goal.returns-in-Ok-eq0-clause-ends
returns-in-Ok-eq0-clause-ends g c =
    let none : c.in-Ok-eq0.field-0 ≡ 0 = grind arith in
    λ given made. stops-ended c.args.buffers.now.taken c.end_of.result c.in-Ok-eq0.field-0 1 c.args.buffers.now
    c.fill.new.self _ _ given made
    c.in-Ok-eq0.ensures.more none c.end_of.ensures.ends

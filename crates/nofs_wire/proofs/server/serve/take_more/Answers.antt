use Rattle.std.proofs.Common.{◌≡◌, ◌<◌, ◌∙◌, ap, arith}
use Rattle.nofs_wire.specs.Frames.Split.{front_of}
use Rattle.nofs_wire.proofs.OnServer.Turns.{goes-on, stops-ended, unmoved}
use Rattle.nofs_wire.proofs.server.serve.take_more.Goals as goal

pub end_of-requires-clause-short : goal.end_of-requires-clause-short
end_of-requires-clause-short g c =
    let none : c.in-Ok-eq0.field-0 ≡ 0 = grind arith in
    let same = unmoved c.in-Ok-eq0.field-0 _ c.args.buffers.now c.fill.new.self _ _ c.in-Ok-eq0.ensures.more none in
    (c.requires.short.0, ap (λ i. front_of i.window) same ∙ c.requires.short.1.is)

pub returns-in-Ok-eq0-clause-ends : goal.returns-in-Ok-eq0-clause-ends
returns-in-Ok-eq0-clause-ends g c =
    let none : c.in-Ok-eq0.field-0 ≡ 0 = grind arith in
    λ given made.
    stops-ended c.args.limit c.end_of.result c.in-Ok-eq0.field-0 _ c.args.buffers.now c.fill.new.self _ _ given made
    c.in-Ok-eq0.ensures.more none c.end_of.ensures.ends

pub returns-in-Ok-clause-on : goal.returns-in-Ok-clause-on
returns-in-Ok-clause-on g c =
    let some : 0 < c.in-Ok.field-0 = grind arith in
    λ given made. goes-on c.in-Ok.field-0 _ c.args.buffers.now c.fill.new.self _ _ given made c.in-Ok.ensures.more some

use Rattle.std.proofs.Common.{ap, arith}
use Rattle.nofs_wire.specs.Server.Buffers.{BuffersState}
use Rattle.nofs_wire.proofs.OnServer.Serve.{along-begins, along-goes, along-stops, serves-nothing}
use Rattle.nofs_wire.proofs.server.serve.serve_up_to.Goals as goal

pub returns-in_default-clause-serves : goal.returns-in_default-clause-serves
returns-in_default-clause-serves g c = serves-nothing _ _ _ _

pub returns-in_default-with_capacity-clause-serves : goal.returns-in_default-with_capacity-clause-serves
returns-in_default-with_capacity-clause-serves g c = serves-nothing _ _ _ _

pub returns-in-Some-clause-serves : goal.returns-in-Some-clause-serves
returns-in-Some-clause-serves g c =
    let (along, within, goes, source, sink) = c.loop-end.invariant in
    along-stops c.args.limit c.in-Some.end _ _ _ _ _ _ _ _ _ c.loop-end.buffers along within c.in-Some.ensures.ends

pub loop-end-preserved : goal.loop-end-preserved
loop-end-preserved g c =
    let (along, within, goes, source, sink) = c.loop-end.invariant in (
      along-goes _ _ _ _ _ _ _ _ _ c.loop-end.buffers c.turn.new.buffers along c.in-None.ensures.on,
      c.in-None.ensures.within,
      g.met.S.Steps.goes_on _ _ _ goes c.turn.ensures.goes,
      omega (arith, source, c.turn.ensures.source.later),
      omega (arith, sink, c.turn.ensures.sink.later),
    )

pub loop-end-init : goal.loop-end-init
loop-end-init g c = (
  along-begins _ _ _ _ c.in-Ok.ensures,
  omega (arith, ap (λ (b : BuffersState). b.taken) c.in-Ok.ensures),
  g.met.S.Steps.goes_none _,
  omega arith,
  omega arith,
)

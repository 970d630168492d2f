use Rattle.nofs_wire.proofs.OnServer.Turns.{bad-fault, bad-stops, goes-answered, memory-stops}
use Rattle.nofs_wire.proofs.server.serve.answer_front.Goals as goal

pub returns-in-Whole-clause-on : goal.returns-in-Whole-clause-on
returns-in-Whole-clause-on g c =
    λ left. goes-answered c.args.buffers.now c.keep_answer.new.buffers left (g.K.Sink.state c.args.sink.now).given
    (g.S.Steps.made c.args.steps.now) (g.S.Steps.made c.keep_answer.new.steps) c.in-Whole.ensures.so

pub returns-in-Err-clause-ends : goal.returns-in-Err-clause-ends
returns-in-Err-clause-ends g c =
    λ left most. bad-fault most c.args.buffers.now c.keep_answer.new.buffers left _ _ _ _ c.in-Bad.ensures.so
    c.in-Err.ensures.given

pub returns-in-Ok-clause-ends : goal.returns-in-Ok-clause-ends
returns-in-Ok-clause-ends g c =
    λ left most. bad-stops most c.args.buffers.now c.keep_answer.new.buffers left _ _ _ _ c.bad_at.result
    c.give.new.self c.in-Bad.ensures.so c.in-Ok.ensures.given c.in-Ok.ensures.none_kept c.bad_at.ensures

pub returns-in-Ok-give-clause-ends : goal.returns-in-Ok-give-clause-ends
returns-in-Ok-give-clause-ends g c =
    λ left most. memory-stops most c.args.buffers.now c.keep_answer.new.buffers left _ _ _ _
    c.give-in-OutOfMemory.new.self c.in-OutOfMemory.ensures.so
    c.in-Ok-give.ensures.given c.in-Ok-give.ensures.none_kept

use Rattle.std.proofs.Common.{◌∙◌, refl, sym, ap}
use Rattle.nofs_wire.specs.Frames.Split.{front_of}
use Rattle.nofs_wire.proofs.OnServer.Turns.{after-goes, after-stops, bad-front, none-made, none-map, some-map}
use Rattle.nofs_wire.proofs.OnServer.Turns.{stops-bad, stops-fault}
use Rattle.nofs_wire.proofs.server.serve.turn.Goals as goal

pub returns-in-Err-clause-ends : goal.returns-in-Err-clause-ends
returns-in-Err-clause-ends g c =
    stops-fault c.args.limit c.args.buffers.now _ _ _ _ _ (none-made c.args.buffers.now.window _)
    c.in-Err.ensures.given

pub returns-in-Ok-clause-on : goal.returns-in-Ok-clause-on
returns-in-Ok-clause-on g c =
    none-map c.answer_front.result
    (after-goes c.args.buffers.now c.give_many.new.self _ _ _ _ _ _ _ c.in-Ok.ensures.given
    c.answer_front.new.buffers)
    (c.answer_front.ensures.on _)

pub returns-in-Ok-clause-ends : goal.returns-in-Ok-clause-ends
returns-in-Ok-clause-ends g c =
    some-map c.answer_front.result
    (λ e. after-stops c.args.buffers.now c.give_many.new.self _ _ _ _ _ _ _ c.in-Ok.ensures.given c.args.limit e)
    (c.answer_front.ensures.ends _ c.args.limit)

pub returns-in-Err-give-clause-ends : goal.returns-in-Err-give-clause-ends
returns-in-Err-give-clause-ends g c =
    stops-fault c.args.limit c.args.buffers.now _ _ _ _ _ (none-made c.args.buffers.now.window _)
    c.in-Err-give.ensures.given

pub returns-in-Ok-give-clause-ends : goal.returns-in-Ok-give-clause-ends
returns-in-Ok-give-clause-ends g c =
    stops-bad c.args.limit c.bad_at.result c.args.buffers.now c.give.new.self _ _ _ _ _
    (bad-front c.args.buffers.now.window (sym (c.in-Bad.ensures.is ∙ ap front_of c.window.ensures.bytes)))
    refl c.in-Ok-give.ensures.given c.in-Ok-give.ensures.none_kept c.bad_at.ensures

pub returns-in-Err-give-2-clause-ends : goal.returns-in-Err-give-2-clause-ends
returns-in-Err-give-2-clause-ends g c =
    stops-fault c.args.limit c.args.buffers.now _ _ _ _ _ (none-made c.args.buffers.now.window _)
    c.in-Err-give-2.ensures.given

pub returns-in-Ok-give-2-clause-on : goal.returns-in-Ok-give-2-clause-on
returns-in-Ok-give-2-clause-on g c =
    none-map c.take_more.result
    (after-goes c.args.buffers.now c.give-in-Short.new.self _ _ _ _ _ _ _ c.in-Ok-give-2.ensures.given
    c.take_more.new.buffers)
    (c.take_more.ensures.on _ _)

pub returns-in-Ok-give-2-clause-ends : goal.returns-in-Ok-give-2-clause-ends
returns-in-Ok-give-2-clause-ends g c =
    some-map c.take_more.result
    (λ e. after-stops c.args.buffers.now c.give-in-Short.new.self _ _ _ _ _ _ _ c.in-Ok-give-2.ensures.given
    c.args.limit e)
    (c.take_more.ensures.ends _ _)

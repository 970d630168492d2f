use Rattle.std.proofs.Common.{◌≡◌, true, false, refl, sym, ◌∙◌}
use Rattle.nofs_history.specs.Steps.{is_out_of_memory}
use Rattle.nofs_wire.proofs.OnServer.Answers.{answers-made, answers-unmade, answers-whole, fits-spelled, made-one}
use Rattle.nofs_wire.proofs.server.answers.make.Goals as goal

pub write_reply-requires-clause-lists : goal.write_reply-requires-clause-lists
write_reply-requires-clause-lists g c =
    (fits-spelled c.args.step c.step-reply.result c.step-reply.ensures.fits).lists

pub write_reply-requires-clause-short : goal.write_reply-requires-clause-short
write_reply-requires-clause-short g c =
    (fits-spelled c.args.step c.step-reply.result c.step-reply.ensures.fits).short

pub returns-then-is_out_of_memory-clause-so : goal.returns-then-is_out_of_memory-clause-so
returns-then-is_out_of_memory-clause-so g c =
    let none : is_out_of_memory c.step-reply.result ≡ true =
    sym c.is_out_of_memory.ensures ∙ c.if-is_out_of_memory.true in
    answers-unmade c.args.step c.step-reply.result _ _ none c.step-reply.ensures.made

pub returns-in-Ok-clause-so : goal.returns-in-Ok-clause-so
returns-in-Ok-clause-so g c =
    let room : is_out_of_memory c.step-reply.result ≡ false =
    sym c.is_out_of_memory.ensures ∙ c.if-is_out_of_memory.false in
    answers-whole c.args.step c.step-reply.result _ _ _
    (made-one c.args.step c.step-reply.result _ _ room c.step-reply.ensures.made) c.in-Ok.ensures

pub returns-clause-so : goal.returns-clause-so
returns-clause-so g c =
    let room : is_out_of_memory c.step-reply.result ≡ false =
    sym c.is_out_of_memory.ensures ∙ c.if-is_out_of_memory.false in
    answers-made _ (c.args.step, c.step-reply.result) _ _ refl
    (made-one c.args.step c.step-reply.result _ _ room c.step-reply.ensures.made)

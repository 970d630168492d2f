use Rattle.std.proofs.Common.{◌≡◌, ◌++◌, ◌∙◌, ap}
use Rattle.nofs_wire.specs.Frames.Split.{behind, body_of}
use Rattle.nofs_wire.specs.Server.Buffers.{BuffersState}
use Rattle.nofs_wire.proofs.OnServer.Turns.{keeps-answer}
use Rattle.nofs_wire.proofs.server.serve.keep_answer.Goals as goal

pub returns-in-Ok-clause-so : goal.returns-in-Ok-clause-so
returns-in-Ok-clause-so g c =
    let old : BuffersState = c.args.buffers.now in
    let size = c.args.size in
    let body = c.front_body-body.result.now in
    let same : body ≡ body_of size old.window = c.front_body-body.ensures ∙ ap (body_of size) c.window.ensures.bytes in
    let is : c.pass.new.self
    ≡ record { window = behind size old.window; taken = old.taken; kept = old.kept ++ c.deref.result.now } =
    c.pass.ensures
    ∙ ap (λ (b : BuffersState). record { window = behind size b.window; taken = b.taken; kept = b.kept })
    c.in-Ok.ensures.kept in
    keeps-answer old c.pass.new.self size body c.deref.result.now _ _ c.requires.is c.requires.fits same
    c.answer.new.frame.items c.deref.ensures.value c.in-Whole.ensures.so is

use Rattle.std.proofs.Common.{refl}
use Rattle.nofs_wire.proofs.OnServer.Answers.{answers-nothing}
use Rattle.nofs_wire.proofs.server.answers.answer.Goals as goal

pub returns-in-Err-clause-so : goal.returns-in-Err-clause-so
returns-in-Err-clause-so g c = answers-nothing _ _ _ refl

use Rattle.nofs_salvage.proofs.OnWalk.Refusals.{right-none}
use Rattle.nofs_salvage.proofs.walk.lines.note_line.Goals as goal

pub returns-in_err-note_name-clause-right : goal.returns-in_err-note_name-clause-right
returns-in_err-note_name-clause-right g c = λ W earlier seen a ask told. right-none W.files _

pub returns-then-line-clause-right : goal.returns-then-line-clause-right
returns-then-line-clause-right g c = λ W earlier seen a ask told. right-none W.files _

pub returns-in_err-meet-clause-right : goal.returns-in_err-meet-clause-right
returns-in_err-meet-clause-right g c = λ W earlier seen a ask told. right-none W.files _

pub returns-in_err-note_name-2-clause-right : goal.returns-in_err-note_name-2-clause-right
returns-in_err-note_name-2-clause-right g c = λ W earlier seen a ask told. right-none W.files _

pub returns-clause-right : goal.returns-clause-right
returns-clause-right g c = λ W earlier seen a ask told. right-none W.files _

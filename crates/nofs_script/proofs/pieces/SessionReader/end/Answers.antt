use Rattle.std.proofs.Common.{[], subst, sym}
use Rattle.nofs_script.specs.Pieces.{IsRead, ReadsOn}
use Rattle.nofs_script.proofs.OnSession.Lines.{has_fault}
use Rattle.nofs_script.proofs.pieces.SessionReader.end.Goals as goal

pub returns-in-Ok : goal.returns-in-Ok
returns-in-Ok c = λ text read.
    c.end.ensures text
    (subst (λ r. ReadsOn r [] text) (sym c.in-Ok.reader-is) (subst (λ r. IsRead r [] text) c.in-Ok.is read))

pub returns-in-Err : goal.returns-in-Err
returns-in-Err c = λ text read.
    record { exact = has_fault c.in-Err.fault text (subst (λ r. IsRead r [] text) c.in-Err.is read); session = tt }

use Rattle.std.proofs.Common.{refl}
use Rattle.std.proofs.lemmas.Result.{err_from_is_err_and}
use Rattle.nofs_script.proofs.OnSession.Lines.{ends, goes_on}
use Rattle.nofs_script.proofs.pieces.LineReader.with_end.Goals as goal

pub returns-in_err-reading-clause-read : goal.returns-in_err-reading-clause-read
returns-in_err-reading-clause-read c = λ left text so_far.
    let p = err_from_is_err_and c.from_residual.result c.from_residual.ensures.1 in
    rw (p.1, p.2) (ends c.args.self c.args.end.now left text c.requires.line so_far _ c.in_err-reading.ensures.read)

pub returns-clause-read : goal.returns-clause-read
returns-clause-read c = λ left text so_far.
    goes_on c.args.self c.args.end.now left text c.requires.line so_far _ c.in_ok-reading.ensures.cleared refl
    c.in_ok-reading.ensures.read

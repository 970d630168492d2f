use Rattle.std.proofs.lemmas.Result.{err_from_is_err_and}
use Rattle.nofs_script.proofs.OnSession.Commands.{is_session}
use Rattle.nofs_script.proofs.OnSession.Lines.{fails, gives, spells}
use Rattle.nofs_script.proofs.pieces.LineReader.end.Goals as goal

pub returns-in_err-done : goal.returns-in_err-done
returns-in_err-done c = λ text so_far.
    let p = err_from_is_err_and c.from_residual.result c.from_residual.ensures.1 in
    rw (p.1, p.2)
    (record { exact = fails c.args.self text _ c.deref.ensures.value so_far _ c.in_err-done.ensures; session = tt })

pub returns-in_err-push : goal.returns-in_err-push
returns-in_err-push c = λ text so_far.
    let p = err_from_is_err_and c.from_residual-in_err-push.result c.from_residual-in_err-push.ensures.1 in
    rw (p.1, p.2) (record { exact = tt; session = tt })

pub returns : goal.returns
returns c = λ text so_far.
    let same = c.deref.ensures.value in
    record {
      exact = rw c.in_ok-push.ensures.appended (spells c.args.self text _ same so_far _ c.in_ok-done.ensures);
      session =
          rw c.in_ok-push.ensures.appended
          (is_session text _ (gives c.args.self text _ same so_far _ c.in_ok-done.ensures));
    }

use Rattle.std.proofs.Common.{arith, ap, refl, ◌+◌, ◌++◌, length, length-drop}
use Rattle.std.proofs.lemmas.Result.{err_from_is_err_and}
use Rattle.nofs_script.proofs.OnSession.Lines.{cuts}
use Rattle.nofs_script.proofs.OnWords.Cuts.{after}
use Rattle.nofs_script.proofs.pieces.LineReader.with_piece.Goals as goal

pub returns-in-None-clause-read : goal.returns-in-None-clause-read
returns-in-None-clause-read c = λ text so_far. c.with_part.ensures.read _ (c.loop-turn.invariant.0 text so_far)

pub returns-in_err-reader-in-Some-clause-read : goal.returns-in_err-reader-in-Some-clause-read
returns-in_err-reader-in-Some-clause-read c = λ text so_far.
    let p = err_from_is_err_and c.from_residual.result c.from_residual.ensures.1 in
    let rest = c.loop-turn.rest.now in
    let end = c.in-Some.end in
    rw (p.1, p.2)
    (c.in_err-reader-in-Some.ensures.read (after end rest) (text ++ c.args.piece.now)
    (cuts c.loop-turn.reader rest (after end rest) (text ++ c.args.piece.now) end c.in-Some.ensures.first.0 refl
    (c.loop-turn.invariant.0 text so_far)))

pub loop-turn-preserved : goal.loop-turn-preserved
loop-turn-preserved c =
    let rest = c.loop-turn.rest.now in
    let next = c.text_after-rest in
    let end = c.in-Some.end in
    let shorter = length-drop (end + 1) rest in (
      λ text so_far.
          c.in_ok-reader-in-Some.ensures.read next.result.now (text ++ c.args.piece.now)
          (cuts c.loop-turn.reader rest next.result.now (text ++ c.args.piece.now) end c.in-Some.ensures.first.0
          next.ensures (c.loop-turn.invariant.0 text so_far)),
      omega (
        arith,
        ap length next.ensures,
        shorter,
        c.in-Some.ensures.within,
        c.in_ok-reader-in-Some.ensures.number,
        c.loop-turn.invariant.1,
      ),
      omega (arith, ap length next.ensures, shorter, c.in-Some.ensures.within, c.loop-turn.invariant.2),
    )

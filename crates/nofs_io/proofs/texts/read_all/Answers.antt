use Rattle.std.proofs.Common.{◌++◌, arith}
use Rattle.std.proofs.lemmas.Grind.{common_steps}
use Rattle.std.proofs.KnownBytes.{Consumes-trans}
use Rattle.nofs_io.proofs.Bytes.{length_both}
use Rattle.nofs_io.proofs.texts.read_all.Goals as goal

pub returns-in_err-take_piece-clause-taken : goal.returns-in_err-take_piece-clause-taken
returns-in_err-take_piece-clause-taken g c =
    let last = c.in_err-take_piece.ensures.taken in (
      c.loop-bytes.bytes.items ++ last.0,
      Consumes-trans _ _ _ _ _ c.loop-bytes.invariant.2 last.1,
      length_both _ _ _ _ (grind (arith, common_steps)) last.2,
    )

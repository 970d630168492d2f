use Rattle.std.proofs.Common.{subst, arith}
use Rattle.std.specs.Io.KnownBytes.{Appends}
use Rattle.std.proofs.KnownBytes.{Appends-trans}
use Rattle.nofs_io.proofs.Bytes.{taken_more}
use Rattle.nofs_io.proofs.texts.write_all.Goals as goal

pub loop-at-preserved : goal.loop-at-preserved
loop-at-preserved g c = (
  omega (arith, c.in_ok-at.ensures.within),
  subst (Appends _ _) (taken_more c.loop-at.at c.in_ok-at.field-0 c.args.text.now)
      (Appends-trans _ _ _ _ _ c.loop-at.invariant.1 c.in_ok-at.ensures.bytes),
  omega (arith, c.loop-at.invariant.2, c.in_ok-at.ensures.cause.later),
)

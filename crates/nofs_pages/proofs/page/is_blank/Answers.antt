use Rattle.std.proofs.Common.{arith}
use Rattle.std.proofs.lemmas.Grind.{common_steps}
use Rattle.nofs_pages.proofs.OnBlanks.{none_joined}
use Rattle.nofs_pages.proofs.page.is_blank.Goals as goal

pub loop-byte-preserved : goal.loop-byte-preserved
loop-byte-preserved c = grind (arith, common_steps, none_joined)

use Rattle.std.proofs.Common.{arith, refl}
use Rattle.nofs_filedisk.proofs.windows.place_of.Goals as goal

pub returns-clause-value : goal.returns-clause-value
returns-clause-value c = refl

pub returns-clause-fits : goal.returns-clause-fits
returns-clause-fits c = omega arith

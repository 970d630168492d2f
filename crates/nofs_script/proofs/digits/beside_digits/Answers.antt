use Rattle.nofs_script.proofs.OnDigits.{beside_none}
use Rattle.nofs_script.proofs.digits.beside_digits.Goals as goal

pub returns : goal.returns
returns c = cc (beside_none c.args.byte c.ranges.byte.fits)

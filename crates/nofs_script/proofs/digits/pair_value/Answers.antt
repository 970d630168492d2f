use Rattle.nofs_script.proofs.OnDigits.{joined_digits}
use Rattle.nofs_script.proofs.digits.pair_value.Goals as goal

pub returns : goal.returns
returns c = λ i. rw (c.from.ensures, c.from-2.ensures)
    (joined_digits c.args.high c.args.low i c.ranges.high.fits c.ranges.low.fits c.requires.high c.requires.low)

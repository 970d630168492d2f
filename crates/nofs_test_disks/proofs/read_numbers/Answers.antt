use Rattle.nofs_test_disks.proofs.Numbers.{numbers-read}
use Rattle.nofs_test_disks.proofs.read_numbers.Goals as goal

pub returns-in-Ok-clause-at : goal.returns-in-Ok-clause-at
returns-in-Ok-clause-at c =
    numbers-read _ _ c.in-Ok.at c.read_super.ensures.stays c.in-Ok.ensures.mountable c.in-Ok.ensures.spelled

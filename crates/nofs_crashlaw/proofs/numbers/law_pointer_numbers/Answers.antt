use Rattle.nofs_crashlaw.proofs.OnNumbers.Cells.{law-pointer-numbers}
use Rattle.nofs_crashlaw.proofs.numbers.law_pointer_numbers.Goals as goal

pub returns : goal.returns
returns c = law-pointer-numbers

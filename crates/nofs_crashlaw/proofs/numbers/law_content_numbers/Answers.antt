use Rattle.nofs_crashlaw.proofs.OnNumbers.Cells.{law-content-numbers}
use Rattle.nofs_crashlaw.proofs.numbers.law_content_numbers.Goals as goal

pub returns : goal.returns
returns c = law-content-numbers

use Rattle.nofs_crashlaw.proofs.OnNumbers.Cells.{law-directory-numbers}
use Rattle.nofs_crashlaw.proofs.numbers.law_directory_numbers.Goals as goal

pub returns : goal.returns
returns c = law-directory-numbers

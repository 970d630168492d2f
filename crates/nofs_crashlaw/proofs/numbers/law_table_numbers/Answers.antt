use Rattle.nofs_crashlaw.proofs.OnNumbers.Tables.{law-table-numbers, law-table-moment}
use Rattle.nofs_crashlaw.proofs.numbers.law_table_numbers.Goals as goal

pub returns : goal.returns
returns c = record { cell = law-table-numbers; moment = law-table-moment }

use Rattle.nofs_crashlaw.proofs.OnNumbers.Files.{law-put-cells, law-put-record}
use Rattle.nofs_crashlaw.proofs.numbers.law_put_numbers.Goals as goal

pub returns : goal.returns
returns c = record { cells = law-put-cells; inode = law-put-record }

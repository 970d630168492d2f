use Rattle.nofs_crashlaw.proofs.OnNumbers.Files.{law-resize-cells, law-resize-record}
use Rattle.nofs_crashlaw.proofs.numbers.law_resize_numbers.Goals as goal

pub returns : goal.returns
returns c = record { cells = law-resize-cells; inode = law-resize-record }

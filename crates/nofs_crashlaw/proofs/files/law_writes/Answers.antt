use Rattle.nofs_crashlaw.proofs.OnFiles.Writes.{law-content, law-pointer-block, law-record}
use Rattle.nofs_crashlaw.proofs.files.law_writes.Goals as goal

pub returns : goal.returns
returns c = record { content = law-content; pointer_block = law-pointer-block; inode = law-record }

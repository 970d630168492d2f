use Rattle.nofs_crashlaw.proofs.OnFiles.Resizes.{law-resize-files, law-resize-homes, law-resize-holes}
use Rattle.nofs_crashlaw.proofs.files.law_resize.Goals as goal

pub returns : goal.returns
returns c = record { files = law-resize-files; homes = law-resize-homes; holes = law-resize-holes }

use Rattle.nofs_crashlaw.proofs.OnFiles.PutHeld.{law-put-held}
use Rattle.nofs_crashlaw.proofs.OnFiles.Puts.{law-put-files, law-put-homes}
use Rattle.nofs_crashlaw.proofs.files.law_put.Goals as goal

pub returns : goal.returns
returns c = record { held = law-put-held; files = law-put-files; homes = law-put-homes }

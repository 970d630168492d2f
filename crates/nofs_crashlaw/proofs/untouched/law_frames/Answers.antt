use Rattle.nofs_crashlaw.proofs.OnUntouched.Laws.{law-untouched, law-grown}
use Rattle.nofs_crashlaw.proofs.untouched.law_frames.Goals as goal

pub returns : goal.returns
returns c = record { untouched = law-untouched; grown = law-grown }

use Rattle.nofs_crashlaw.proofs.OnMaps.Good.{law-good-done, law-good-kept, law-claims}
use Rattle.nofs_crashlaw.proofs.OnMaps.Next.{law-good-next}
use Rattle.nofs_crashlaw.proofs.maps.law_good.Goals as goal

pub returns : goal.returns
returns c = record { done = law-good-done; kept = law-good-kept; claims = law-claims; next = law-good-next }

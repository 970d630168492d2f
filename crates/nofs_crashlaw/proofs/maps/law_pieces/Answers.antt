use Rattle.nofs_crashlaw.proofs.OnMaps.Pieces.{law-pick, law-pointers, law-entries, law-entry-numbers}
use Rattle.nofs_crashlaw.proofs.maps.law_pieces.Goals as goal

pub returns : goal.returns
returns c = record { pick = law-pick; pointers = law-pointers; entries = law-entries; numbers = law-entry-numbers }

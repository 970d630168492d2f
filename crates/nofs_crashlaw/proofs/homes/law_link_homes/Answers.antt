use Rattle.nofs_crashlaw.proofs.OnHomes.NewEntries.{law-link-in-place-homes, law-link-in-hole-homes}
use Rattle.nofs_crashlaw.proofs.homes.law_link_homes.Goals as goal

pub returns : goal.returns
returns c = record { in_place = law-link-in-place-homes; in_hole = law-link-in-hole-homes }

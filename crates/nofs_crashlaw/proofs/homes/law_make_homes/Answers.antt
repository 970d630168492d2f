use Rattle.nofs_crashlaw.proofs.OnHomes.NewEntries.{law-make-in-place-homes, law-make-in-hole-homes}
use Rattle.nofs_crashlaw.proofs.homes.law_make_homes.Goals as goal

pub returns : goal.returns
returns c = record { in_place = law-make-in-place-homes; in_hole = law-make-in-hole-homes }

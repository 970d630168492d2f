use Rattle.nofs_crashlaw.proofs.OnNames.NewLaws.{law-make-in-place, law-make-in-hole}
use Rattle.nofs_crashlaw.proofs.names.new_names.law_make.Goals as goal

pub returns : goal.returns
returns c = record { in_place = law-make-in-place; in_hole = law-make-in-hole }

use Rattle.nofs_crashlaw.proofs.OnNames.NewLaws.{law-link-in-place, law-link-in-hole}
use Rattle.nofs_crashlaw.proofs.names.new_names.law_link.Goals as goal

pub returns : goal.returns
returns c = record { in_place = law-link-in-place; in_hole = law-link-in-hole }

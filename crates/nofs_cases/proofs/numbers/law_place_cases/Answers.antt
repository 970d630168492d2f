use Rattle.nofs_cases.proofs.OnNames.Places.{make-in-place-case, link-in-hole-case}
use Rattle.nofs_cases.proofs.numbers.law_place_cases.Goals as goal

pub returns : goal.returns
returns c = record { make_in_place = make-in-place-case; link_in_hole = link-in-hole-case }

use Rattle.nofs_crashlaw.proofs.OnNumbers.OldEntries.{law-rename-numbers, law-drop-numbers}
use Rattle.nofs_crashlaw.proofs.OnNumbers.NewEntries.{law-link-in-place-numbers, law-link-in-hole-numbers}
use Rattle.nofs_crashlaw.proofs.OnNumbers.NewEntries.{law-make-in-place-numbers, law-make-in-hole-numbers}
use Rattle.nofs_crashlaw.proofs.numbers.law_name_numbers.Goals as goal

pub returns : goal.returns
returns c = record {
  rename = law-rename-numbers;
  drop = law-drop-numbers;
  link_in_place = law-link-in-place-numbers;
  link_in_hole = law-link-in-hole-numbers;
  make_in_place = law-make-in-place-numbers;
  make_in_hole = law-make-in-hole-numbers;
}

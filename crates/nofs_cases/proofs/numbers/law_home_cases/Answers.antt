use Rattle.nofs_cases.proofs.OnNumbers.Homes.{make-homes-case, link-homes-case, rename-homes-case}
use Rattle.nofs_cases.proofs.OnNumbers.Homes.{drop-name-homes-case, drop-file-homes-case}
use Rattle.nofs_cases.proofs.numbers.law_home_cases.Goals as goal

pub returns : goal.returns
returns c = record {
  make = make-homes-case;
  link = link-homes-case;
  rename = rename-homes-case;
  drop_name = drop-name-homes-case;
  drop_file =
      drop-file-homes-case;
}

use Rattle.nofs_cases.proofs.OnNumbers.Homes.{make-numbers-case, link-numbers-case, rename-numbers-case}
use Rattle.nofs_cases.proofs.OnNumbers.Homes.{drop-numbers-case, put-numbers-case}
use Rattle.nofs_cases.proofs.numbers.law_number_cases.Goals as goal

pub returns : goal.returns
returns c = record {
  make = make-numbers-case;
  link = link-numbers-case;
  rename = rename-numbers-case;
  drop = drop-numbers-case;
  put = put-numbers-case;
}

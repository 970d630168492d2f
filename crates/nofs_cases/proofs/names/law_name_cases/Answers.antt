use Rattle.nofs_cases.proofs.OnNames.Steps.{make-case, bare-case, rename-case, name-homes-case, link-case}
use Rattle.nofs_cases.proofs.OnNames.Steps.{drop-name-case, drop-file-case, entries-case}
use Rattle.nofs_cases.proofs.names.law_name_cases.Goals as goal

pub returns : goal.returns
returns c = record {
  make = make-case;
  bare = bare-case;
  rename = rename-case;
  homes = name-homes-case;
  link = link-case;
  drop_name =
      drop-name-case;
  drop_file = drop-file-case;
  entries = entries-case;
}

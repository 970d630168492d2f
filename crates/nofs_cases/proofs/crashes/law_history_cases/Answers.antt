use Rattle.nofs_cases.proofs.OnCrashes.Histories.{step-case, later-case, names-case, unflushed-case, rest-case}
use Rattle.nofs_cases.proofs.crashes.law_history_cases.Goals as goal

pub returns : goal.returns
returns c =
    record { step = step-case; later = later-case; names = names-case; unflushed = unflushed-case; rest = rest-case }

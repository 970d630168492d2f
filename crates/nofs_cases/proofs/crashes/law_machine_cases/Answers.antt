use Rattle.nofs_cases.proofs.OnCrashes.Machine.{fits-case, accepted-case}
use Rattle.nofs_cases.proofs.crashes.law_machine_cases.Goals as goal

pub returns : goal.returns
returns c = record { fits = fits-case; accepted = accepted-case }

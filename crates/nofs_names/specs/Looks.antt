-- What a Look leaves, and answers.
use Rattle.std.specs.Prelude.{ℕ, List, Result}
use Rattle.nofs_disk.specs.Disk.{DiskState}
use Rattle.nofs_history.specs.Claims.{no_claims}
use Rattle.nofs_history.specs.declared.machine.replies.Found.{Found}
use Rattle.nofs_history.specs.declared.machine.replies.Refusal.{Refusal}
use Rattle.nofs_history.specs.declared.machine.steps.Step.TheVariants as step
use Rattle.nofs_state.specs.Cores.Steps.{Goes}
use Rattle.nofs_state.specs.declared.books.maps.Books.{Books}
use Rattle.nofs_names.specs.Searches.Refusals.{look_answer}

abbrev pub LookGoes : DiskState → Books → DiskState → Books → ℕ → ℕ → List ℕ → Result Found Refusal → Type 0
LookGoes old k new l d g name result = Goes old k new l (step.Look d g name) no_claims (look_answer result)

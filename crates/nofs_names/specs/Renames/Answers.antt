-- What a Rename leaves, and what it stands on when it writes.
use Rattle.std.specs.Prelude.{◌≡◌, List, ℕ, IsTrue, Result}
use Rattle.nofs_disk.specs.Disk.{DiskState}
use Rattle.nofs_dirent.specs.Names.{NameOk}
use Rattle.nofs_history.specs.Claims.{no_claims}
use Rattle.nofs_history.specs.declared.machine.replies.Refusal.{Refusal}
use Rattle.nofs_history.specs.declared.machine.replies.Reply.TheVariants as reply
use Rattle.nofs_history.specs.declared.machine.steps.Step.TheVariants as step
use Rattle.nofs_agree.specs.Reads.{KnowsDirectory}
use Rattle.nofs_state.specs.Writes.Premises.{RowsPass}
use Rattle.nofs_state.specs.Cores.Steps.{Goes}
use Rattle.nofs_state.specs.declared.books.maps.Books.{Books}
use Rattle.nofs_names.specs.Searches.Slots.{KnowsPaired}
use Rattle.nofs_names.specs.Searches.Refusals.{IsThere, KnownTrue}
use Rattle.nofs_names.specs.Renames.Parts.{FoundIn, done_answer}
use Rattle.nofs_names.specs.declared.searches.pairs.NamedPair.{NamedPair}
use Rattle.nofs_names.specs.declared.searches.directories.NameIn.{NameIn}

abbrev pub RenameGoes : DiskState → Books → DiskState → Books → NameIn → List ℕ → Result (Unit {0}) Refusal → Type 0
RenameGoes old k new l at name result = Goes old k new l
    (step.Rename at.directory at.generation at.name.now name) no_claims (done_answer reply.Renamed result)

-- an entry was found that may get this name
pub record MayRename (d : DiskState) (k : Books) (q : NamedPair) (name : List ℕ) : Type 0 where
  pub directory : KnowsDirectory d k.at q.at.directory q.it.generation q.it
  pub generation : q.it.generation ≡ q.at.generation
  pub there : IsTrue d.tells → KnownTrue k d.now → IsThere q.at.directory d.now
  pub known : KnowsPaired d k.at q.found
  pub found : FoundIn d q.at.directory q.at.name.now q.found
  pub good : NameOk name
  pub rows : RowsPass d k (step.Rename q.at.directory q.at.generation q.at.name.now name)

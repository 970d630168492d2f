-- What a user's worker has done.
use Rattle.std.specs.Prelude.{◌≡◌, List, false, []}
use Rattle.nofs_history.specs.Steps.{Made}
use Rattle.nofs_client.specs.Driver.{RunsAll, RunsSome, LinesFollow}
use Rattle.nofs_workers.specs.declared.user.UserWorker.{UserWorker}

module _ {S T : Type 0} where
  -- the way of a worker to the mount
  abbrev pub steps_in : UserWorker S T → S
  steps_in worker = worker.client.steps.steps

  -- Just the steps of the commands were made and the line of each was added, and where memory was
  -- wanting, those of the first of them; none is left to be run. Lines of commands that were run are those that the
  -- replies give
  pub record WorkedAsUser (made : S → List Made) (goes : S → S → Type 0) (old new : UserWorker S T) : Type 0 where
    pub commands : new.script.commands ≡ []
    pub ran : new.out_of_memory ≡ false
        → RunsAll old.script.commands (made (steps_in old)) (made (steps_in new)) old.lines new.lines
    pub some : RunsSome old.script.commands (made (steps_in old)) (made (steps_in new)) old.lines new.lines
    pub goes_on : goes (steps_in old) (steps_in new)
    pub lines_follow : LinesFollow

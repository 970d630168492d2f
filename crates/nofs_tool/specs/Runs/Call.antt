-- All that the program's call says of a run, in one record: a program that makes its device first hands it on whole.
use Rattle.std.specs.Prelude.{◌≡◌, ◌↔◌, ◌⊎◌, ℕ, List, IfSome, Some, None}
use Rattle.std.specs.declared.option.Option.{Option}
use Rattle.nofs_disk.specs.Disk.{DiskState}
use Rattle.nofs_io.specs.Calls.{SourceState, SinkState}
use Rattle.nofs_history.specs.HistoryState.{HistoryState}
use Rattle.nofs_tool.specs.Begin.Words.{picks_in, task_in}
use Rattle.nofs_tool.specs.Runs.Complete.{IsReady, NoneRose}
use Rattle.nofs_tool.specs.Runs.Headline.{HeadlineIn}
use Rattle.nofs_tool.specs.Runs.Said.{IsUnserved, Said}
use Rattle.nofs_tool.specs.Runs.Statuses.{HoldsOfTask, IsExplained, KeepsDevice, TakesOnly}
use Rattle.nofs_tool.specs.Runs.Tool.{IsDone, IsRefusedTask}

module _ {D : Type 0} (state : D → DiskState) (words : List (List ℕ)) (source_old source_new : SourceState) (limit : ℕ)
    (sink_old sink_new : SinkState) where
  -- the clauses of `tool`, by their names
  pub record IsCall (disk last : D) (status : ℕ) (h : Option HistoryState) : Type 0 where
    pub headline : IfSome h (HeadlineIn state (task_in words) source_old source_new limit disk (state last) status)
    pub usage : status ≡ 1 ↔ task_in words ≡ None
    pub causes : IsExplained (task_in words) source_old source_new limit sink_old sink_new (state disk) (state last)
        status h
    pub kept : KeepsDevice (IsRefusedTask (task_in words) (state disk) (state last)) (task_in words) disk last status h
    pub done : status ≡ 0 → IsDone (task_in words) source_old source_new limit sink_old sink_new (state disk)
        (state last) h
    pub said : Said (task_in words) source_old source_new limit sink_old sink_new status h
    pub unserved : h ≡ None → IsUnserved state (task_in words) disk last sink_old sink_new status
    pub taken : TakesOnly (task_in words) source_old source_new limit
    pub further : HoldsOfTask (task_in words) (picks_in words) source_old source_new sink_old sink_new (state disk)
        (state last) status h
    pub complete : IsReady (task_in words) source_old limit (state disk)
        → NoneRose source_old source_new (state disk) (state last) sink_old sink_new → (status ≡ 0) ⊎ (status ≡ 7)

  -- a run that ended with this status: the call was made on a device that is so
  pub record RunsOn (IsDevice : D → Type 0) (status : ℕ) : Type 0 where
    pub disk : D
    pub is : IsDevice disk
    pub last : D
    pub history : Option HistoryState
    pub call : IsCall disk last status history

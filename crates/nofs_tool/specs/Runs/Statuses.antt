-- What each status of the program says: its cause, what it leaves of the device, and what one task alone promises.
use Rattle.std.specs.Prelude.{◌≡◌, ◌⊎◌, ℕ, ◌+◌, List, Bool, IsTrue, Some, None}
use Rattle.std.specs.declared.option.Option.{Option}
use Rattle.nofs_disk.specs.Disk.{DiskState, Rose}
use Rattle.nofs_io.specs.Calls.{SourceState, SinkState}
use Rattle.nofs_io.specs.Texts.{TakesAtMost, TakesJust}
use Rattle.nofs_history.specs.HistoryState.{HistoryState}
use Rattle.nofs_upgrade.specs.Upgrades.{StaysOrUpgrades}
use Rattle.nofs_tool.specs.declared.begin.words.Request.{Request}
use Rattle.nofs_tool.specs.declared.begin.words.Request.TheVariants.{New, Run, Scan, Drill, Upgrade, Salvage, Wire}
use Rattle.nofs_tool.specs.Session.Counts.{SaysCounts}
use Rattle.nofs_tool.specs.Visits.Salvage.{IsSalvaged, SaysWalk}
use Rattle.nofs_tool.specs.Runs.Tool.{HasFaultOf, HasSession, IsNoSession, IsFaulty, IsFaultlessIn, IsStatus}
use Rattle.nofs_tool.specs.Runs.Tool.{UnlessWire, WithText}
use Rattle.nofs_tool.specs.Visits.Wire.{WireEnds}

-- The status of a task has its cause, in what source, sink and device say after it, and in the history
pub record IsExplained (task : Option Request) (source_old source_new : SourceState) (limit : ℕ)
    (sink_old sink_new : SinkState) (old new : DiskState)
    (status : ℕ) (h : Option HistoryState) : Type 0 where
  -- it is one of nine; 7, for want of memory, has no cause here
  pub named : IsStatus status
  -- 6: the source failed
  pub source : status ≡ 6 → Rose source_old.faults source_new.faults
  -- 8: one byte more than the limit was taken
  pub too_long : status ≡ 8 → TakesJust source_old source_new (limit + 1)
  -- 2: the whole text was read, and is no session
  pub script : status ≡ 2 → UnlessWire task (WithText source_old source_new limit IsNoSession)
  -- 0, 3, 4, 5: a task that serves a session read one
  pub session : (status ≡ 0) ⊎ (status ≡ 3) ⊎ (status ≡ 4) ⊎ (status ≡ 5) → HasSession task source_old source_new limit
  -- 3: the device failed, and no mount stood or an entry has a fault
  pub device : status ≡ 3 → IsFaulty h × Rose old.faults new.faults
  -- where an entry has a fault of the device, the status is 3, or 7
  pub faulty : HasFaultOf h → UnlessWire task ((status ≡ 3) ⊎ (status ≡ 7))
  -- 5: the sink failed, and no entry has a fault of the device
  pub sink : status ≡ 5 → Rose sink_old.faults sink_new.faults × IsFaultlessIn task h

-- What a run that served nothing leaves of the device
pub record KeepsDevice {
    D : Type 0
    } (Refused : Type 0) (task : Option Request) (disk last : D) (status : ℕ) (h : Option HistoryState) : Type 0 where
  -- 1: no call of the device was made
  pub unmounted : status ≡ 1 → (last ≡ disk) × (h ≡ None)
  -- 2, 6, 8: the same
  pub untouched : (status ≡ 2) ⊎ (status ≡ 6) ⊎ (status ≡ 8) → UnlessWire task ((last ≡ disk) × (h ≡ None))
  -- 4: no mount stood, and why it was refused
  pub refused : status ≡ 4 → (h ≡ None) × Refused

-- What a task took of its source: a session and frames at most one byte more than the limit, each other task nothing
abbrev pub TakesOnly : Option Request → SourceState → SourceState → ℕ → Type 0
TakesOnly None old new limit = new ≡ old
TakesOnly (Some Scan) old new limit = new ≡ old
TakesOnly (Some (Drill start steps)) old new limit = new ≡ old
TakesOnly (Some Upgrade) old new limit = new ≡ old
TakesOnly (Some Salvage) old new limit = new ≡ old
TakesOnly (Some Run) old new limit = TakesAtMost old new (limit + 1)
TakesOnly (Some (New blocks inodes)) old new limit = TakesAtMost old new (limit + 1)
TakesOnly (Some Wire) old new limit = TakesAtMost old new (limit + 1)

-- What holds of one task alone: of an upgrade, of a scan, of a salvage of the names that are picked, and of frames
pub record HoldsOfTask (task : Option Request) (picks : List ℕ → Bool) (source_old source_new : SourceState)
    (sink_old sink_new : SinkState)
    (old new : DiskState) (status : ℕ) (h : Option HistoryState) : Type 0 where
  -- at every moment a crash leaves an image that it could leave before, or that one with version 2
  pub upgrade : task ≡ Some Upgrade → IsTrue old.tells → StaysOrUpgrades old new
  -- at status 0 the sink took the text of a walk: where the premises are met, what is lost in the world that the mount
  -- found
  pub salvage : task ≡ Some Salvage → status ≡ 0 → IsSalvaged picks old h sink_old sink_new
  -- at 3 and 5 with a history it took the line of the mount's counts, or nothing where a write failed, and the text of
  -- the walk that was made, or a part
  pub scan_told : task ≡ Some Scan → (status ≡ 3) ⊎ (status ≡ 5) → SaysCounts old new h sink_old sink_new
  pub salvage_told : task ≡ Some Salvage → (status ≡ 3) ⊎ (status ≡ 5) → SaysWalk picks old h sink_old sink_new
  -- they are served until they end, and the status is that of their end
  pub wire : task ≡ Some Wire → WireEnds old new source_old source_new sink_old sink_new status h

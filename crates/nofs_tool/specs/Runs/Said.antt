-- What a sink was told, by the status of the run.
use Rattle.std.specs.Prelude.{◌≡◌, ◌⊎◌, ℕ, List, [], Err, IfSome, Some, None}
use Rattle.std.specs.declared.option.Option.{Option}
use Rattle.nofs_disk.specs.Disk.{DiskState}
use Rattle.nofs_io.specs.Calls.{SourceState, SinkState}
use Rattle.nofs_io.specs.Texts.{AppendsAll}
use Rattle.nofs_history.specs.HistoryState.{HistoryState}
use Rattle.nofs_client.specs.declared.task.commands.Command.{Command}
use Rattle.nofs_script.specs.Session.{session_of}
use Rattle.nofs_script.specs.declared.faults.ScriptFault.{ScriptFault}
use Rattle.nofs_tool.specs.declared.begin.mounts.Cause.{Cause}
use Rattle.nofs_tool.specs.declared.begin.words.Request.{Request}
use Rattle.nofs_tool.specs.declared.begin.words.Request.TheVariants.{New, Run, Scan, Drill, Upgrade, Salvage, Wire}
use Rattle.nofs_tool.specs.Begin.Mounts.{HasNoMount, status_of}
use Rattle.nofs_tool.specs.Drill.{IsDrilled}
use Rattle.nofs_tool.specs.Session.Entries.{session_text}
use Rattle.nofs_tool.specs.Begin.Lines.{cause_line, fixed_line, script_line, upgrade_line}
use Rattle.nofs_tool.specs.declared.begin.lines.FixedLine.TheVariants.{Upgraded as UpgradedLine, Usage as UsageLine}
use Rattle.nofs_tool.specs.declared.begin.lines.FixedLine.TheVariants.{SourceFault as SourceFaultLine}
use Rattle.nofs_tool.specs.declared.begin.lines.FixedLine.TheVariants.{TooLong as TooLongLine}
use Rattle.nofs_tool.specs.Runs.Says.{Prints}
use Rattle.nofs_upgrade.specs.Upgrades.{IsUpgraded}
use Rattle.nofs_upgrade.specs.declared.fault.UpgradeFault.{UpgradeFault}
use Rattle.nofs_tool.specs.Runs.Tool.{UnlessWire, WithSession, WithText}
use Rattle.nofs_tool.specs.Upgrade.{UpgradeFails, upgrade_status}

-- the line of a text that is no session: its first bad line
abbrev pub SaysFault : SinkState → SinkState → List ℕ → Type 0
SaysFault old new text = (fault : ScriptFault) × (session_of text ≡ Err fault) × Prints old new (script_line fault)

-- there is a cause of which this is so: the status is that of this very cause, and so is the line
abbrev pub SaysCause : (Cause → Type 0) → SinkState → SinkState → ℕ → Type 0
SaysCause Why old new status =
    (cause : Cause) × Why cause × (status_of cause ≡ status) × Prints old new (cause_line cause)

-- what an upgrade did to the device, and its line: that of an upgrade, or that of its very fault
abbrev pub SaysUpgrade : DiskState → DiskState → SinkState → SinkState → ℕ → Type 0
SaysUpgrade found last old new status =
    (((status ≡ 0) ⊎ (status ≡ 5)) × IsUpgraded found last × Prints old new (fixed_line UpgradedLine))
    ⊎ ((why : UpgradeFault) × UpgradeFails found last why × (upgrade_status why ≡ status)
    × Prints old new (upgrade_line why))

-- the text of a session by its history
abbrev pub SaysSession : SinkState → SinkState → List (List Command) → Option HistoryState → Type 0
SaysSession old new session h = IfSome h (λ x. Prints old new (session_text session x.entries))

-- the line of a drill
abbrev pub SaysDrill : SinkState → SinkState → ℕ → ℕ → Option HistoryState → Type 0
SaysDrill old new start steps h =
    IfSome h (λ x. (text : List ℕ) × IsDrilled start steps x.entries text × Prints old new text)

-- the text of a run that was mounted and did not end well; that of a scan and of a salvage is in `HoldsOfTask`
abbrev pub SaysText : Option Request
    → SourceState → SourceState → ℕ → SinkState → SinkState → Option HistoryState → Type 0
SaysText None source_old source_new limit old new h = Unit {0}
SaysText (Some Upgrade) source_old source_new limit old new h = Unit {0}
SaysText (Some Wire) source_old source_new limit old new h = Unit {0}
SaysText (Some Salvage) source_old source_new limit old new h = Unit {0}
SaysText (Some Scan) source_old source_new limit old new h = Unit {0}
SaysText (Some (Drill start steps)) source_old source_new limit old new h = SaysDrill old new start steps h
SaysText (Some Run) source_old source_new limit old new h = WithText source_old source_new limit (λ text.
    WithSession text (λ session. SaysSession old new session h))
SaysText (Some (New blocks inodes)) source_old source_new limit old new h =
    WithText source_old source_new limit (λ text.
    WithSession text (λ session. SaysSession old new session h))

-- What the sink was told at each status. At 0 it took the whole text (`IsDone`), and at 7, for want of memory, nothing.
-- Where frames were served it took their replies alone, at each status (`IsWireRun`). The line of a run that was not
-- mounted is in `IsUnserved`
pub record Said (task : Option Request) (source_old source_new : SourceState) (limit : ℕ) (old new : SinkState)
    (status : ℕ) (h : Option HistoryState) : Type 0
  where
    pub usage : status ≡ 1 → Prints old new (fixed_line UsageLine)
    pub source : status ≡ 6 → UnlessWire task (Prints old new (fixed_line SourceFaultLine))
    pub too_long : status ≡ 8 → UnlessWire task (Prints old new (fixed_line TooLongLine))
    pub script : status ≡ 2 → UnlessWire task (WithText source_old source_new limit (λ text. SaysFault old new text))
    pub silent : status ≡ 7 → UnlessWire task (AppendsAll old new [])
    pub part : (status ≡ 3) ⊎ (status ≡ 5) → (x : HistoryState) → h ≡ Some x
        → SaysText task source_old source_new limit old new h

-- no session was read: the text was none, the source failed or had too much, or memory was wanting. No call of the
-- device was made
abbrev pub IsUnread : {D : Type 0} → D → D → ℕ → Type 0
IsUnread disk last status = ((status ≡ 2) ⊎ (status ≡ 6) ⊎ (status ≡ 7) ⊎ (status ≡ 8)) × (last ≡ disk)

module _ {D : Type 0} (state : D → DiskState) where
  -- Why a run of a task has no history: no session was read, or no mount stood, and then which fault format or mount
  -- had, what it left of the device, and the line. An upgrade never has one
  abbrev pub IsUnserved : Option Request → D → D → SinkState → SinkState → ℕ → Type 0
  IsUnserved None disk last old new status = status ≡ 1
  IsUnserved (Some Upgrade) disk last old new status = SaysUpgrade (state disk) (state last) old new status
  IsUnserved (Some Scan) disk last old new status = SaysCause (HasNoMount state None disk last) old new status
  IsUnserved (Some Salvage) disk last old new status = SaysCause (HasNoMount state None disk last) old new status
  IsUnserved (Some Wire) disk last old new status = SaysCause (HasNoMount state None disk last) old new status
  IsUnserved (Some (Drill start steps)) disk last old new status =
      SaysCause (HasNoMount state (Some (record { blocks = 4096; inodes = 256 })) disk last) old new status
  IsUnserved (Some Run) disk last old new status =
      IsUnread disk last status ⊎ SaysCause (HasNoMount state None disk last) old new status
  IsUnserved (Some (New blocks inodes)) disk last old new status = IsUnread disk last status
      ⊎ SaysCause (HasNoMount state (Some (record { blocks = blocks; inodes = inodes })) disk last) old new status

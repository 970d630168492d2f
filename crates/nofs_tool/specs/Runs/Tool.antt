-- What a run of the program leaves, by its status.
use Rattle.std.specs.Prelude.{◌≡◌, ◌≢◌, ◌⊎◌, ℕ, ◌<◌, List, IsTrue, true, false, Ok, Err, Some, None}
use Rattle.std.specs.declared.option.Option.{Option}
use Rattle.nofs_disk.specs.Disk.{DiskState, KeepsCells, Rose}
use Rattle.nofs_super.specs.declared.superblock.MountFault.{MountFault}
use Rattle.nofs_io.specs.Calls.{SourceState, SinkState}
use Rattle.nofs_io.specs.Texts.{IsWhole, AppendsAll}
use Rattle.nofs_history.specs.HistoryState.{HistoryState}
use Rattle.nofs_client.specs.declared.task.commands.Command.{Command}
use Rattle.nofs_script.specs.declared.faults.ScriptFault.{ScriptFault}
use Rattle.nofs_script.specs.Session.{session_of}
use Rattle.nofs_tool.specs.declared.begin.words.Request.{Request}
use Rattle.nofs_tool.specs.declared.begin.words.Request.TheVariants.{New, Run, Scan, Drill, Upgrade, Salvage, Wire}
use Rattle.nofs_tool.specs.declared.begin.mounts.Numbers.{Numbers}
use Rattle.nofs_tool.specs.Begin.Mounts.{IsMountRefusal, IsRefusedFormat}
use Rattle.nofs_history.specs.Faults.{has_fault}
use Rattle.nofs_tool.specs.Session.Entries.{session_text}
use Rattle.nofs_tool.specs.Begin.Lines.{fixed_line}
use Rattle.nofs_tool.specs.declared.begin.lines.FixedLine.TheVariants.{Upgraded as UpgradedLine}
use Rattle.nofs_tool.specs.Drill.{IsDrillDone}
use Rattle.nofs_tool.specs.Session.Counts.{IsScanned}
use Rattle.nofs_upgrade.specs.Upgrades.{IsUpgraded}
use Rattle.nofs_tool.specs.Upgrade.{IsRefusedUpgrade}

-- all that the source had left was read, within the limit, and it has P
abbrev pub WithText : SourceState → SourceState → ℕ → (List ℕ → Type 0) → Type 0
WithText old new limit P = (text : List ℕ) × IsWhole old new text limit × P text

-- the text is no session
abbrev pub IsNoSession : List ℕ → Type 0
IsNoSession text = (fault : ScriptFault) × (session_of text ≡ Err fault)

-- the text is a session, and it has P
abbrev pub WithSession : List ℕ → (List (List Command) → Type 0) → Type 0
WithSession text P = (session : List (List Command)) × (session_of text ≡ Ok session) × P session

-- a task that serves a session read one
abbrev pub HasSession : Option Request → SourceState → SourceState → ℕ → Type 0
HasSession None old new limit = ⊥
HasSession (Some Scan) old new limit = Unit {0}
HasSession (Some (Drill start steps)) old new limit = Unit {0}
HasSession (Some Upgrade) old new limit = Unit {0}
HasSession (Some Salvage) old new limit = Unit {0}
HasSession (Some Wire) old new limit = Unit {0}
HasSession (Some Run) old new limit = WithText old new limit (λ text. WithSession text (λ _. Unit {0}))
HasSession (Some (New blocks inodes)) old new limit = WithText old new limit (λ text. WithSession text (λ _. Unit {0}))

-- a session was served: no call of the device failed, and the sink took the whole text that follows from the replies in
-- the history
abbrev pub IsSessionAnswered : List (List Command) → Option HistoryState → SinkState → SinkState → Type 0
IsSessionAnswered session None old new = ⊥
IsSessionAnswered session (Some h) old new = AppendsAll old new (session_text session h.entries)
    × (has_fault h.entries ≡ false)

-- the mount stood, and no entry has a fault of the device
abbrev pub IsFaultless : Option HistoryState → Type 0
IsFaultless None = ⊥
IsFaultless (Some h) = has_fault h.entries ≡ false

-- This is said of each task but the frames', which end with status 2, 6 and 8 at a mount
abbrev pub UnlessWire : Option Request → Type 0 → Type 0
UnlessWire (Some Wire) P = Unit {0}
UnlessWire _ P = P

-- so it is of a task; an upgrade has no mount
abbrev pub IsFaultlessIn : Option Request → Option HistoryState → Type 0
IsFaultlessIn (Some Upgrade) h = h ≡ None
IsFaultlessIn _ h = IsFaultless h

-- no mount stood, or an entry has a fault of the device
abbrev pub IsFaulty : Option HistoryState → Type 0
IsFaulty None = Unit {0}
IsFaulty (Some h) = has_fault h.entries ≡ true

-- an entry has a fault of the device
abbrev pub HasFaultOf : Option HistoryState → Type 0
HasFaultOf None = ⊥
HasFaultOf (Some h) = has_fault h.entries ≡ true

-- a status of the program
abbrev pub IsStatus : ℕ → Type 0
IsStatus s = (s ≡ 0) ⊎ (s ≡ 1) ⊎ (s ≡ 2) ⊎ (s ≡ 3) ⊎ (s ≡ 4) ⊎ (s ≡ 5) ⊎ (s ≡ 6) ⊎ (s ≡ 7) ⊎ (s ≡ 8)

-- what comes of a mount that serves a session
pub record MountEnds (found new : DiskState) (sink_old sink_new : SinkState) (status : ℕ)
    (h : Option HistoryState) : Type 0 where
  pub named : (status ≡ 0) ⊎ (status ≡ 3) ⊎ (status ≡ 5) ⊎ (status ≡ 7)
  pub device : status ≡ 3 → IsFaulty h × Rose found.faults new.faults
  pub faulty : HasFaultOf h → (status ≡ 3) ⊎ (status ≡ 7)
  pub sink : status ≡ 5 → Rose sink_old.faults sink_new.faults × IsFaultless h
  pub stood : h ≢ None

-- what comes of a session
pub record SessionEnds (Refused : Type 0) (old new : DiskState) (sink_old sink_new : SinkState) (status : ℕ)
    (h : Option HistoryState) : Type 0 where
  pub named : (status ≡ 0) ⊎ (status ≡ 3) ⊎ (status ≡ 4) ⊎ (status ≡ 5) ⊎ (status ≡ 7)
  pub device : status ≡ 3 → IsFaulty h × Rose old.faults new.faults
  pub faulty : HasFaultOf h → (status ≡ 3) ⊎ (status ≡ 7)
  pub sink : status ≡ 5 → Rose sink_old.faults sink_new.faults × IsFaultless h
  pub refused : status ≡ 4 → (h ≡ None) × Refused

-- why a refusal with status 4 came, and what it leaves of the device: no write was made but those of a format. On a
-- device that tells, it is the table of a format's numbers, or that of a superblock's faults
abbrev pub IsRefusedBy : Option Numbers → DiskState → DiskState → Type 0
IsRefusedBy (Some numbers) old new =
    ((IsRefusedFormat old numbers.blocks numbers.inodes × KeepsCells old new) ⊎ (old.moment < new.moment))
    × (IsTrue old.tells → IsRefusedFormat old numbers.blocks numbers.inodes)
IsRefusedBy None old new = KeepsCells old new × ((fault : MountFault) × IsMountRefusal old fault)

abbrev pub IsRefusedTask : Option Request → DiskState → DiskState → Type 0
IsRefusedTask None old new = ⊥
IsRefusedTask (Some (New blocks inodes)) old new =
    IsRefusedBy (Some (record { blocks = blocks; inodes = inodes })) old new
IsRefusedTask (Some Run) old new = IsRefusedBy None old new
IsRefusedTask (Some Scan) old new = IsRefusedBy None old new
IsRefusedTask (Some Upgrade) old new = IsRefusedUpgrade old new
IsRefusedTask (Some Salvage) old new = IsRefusedBy None old new
IsRefusedTask (Some Wire) old new = IsRefusedBy None old new
IsRefusedTask (Some (Drill start steps)) old new = IsRefusedBy (Some (record { blocks = 4096; inodes = 256 })) old new

-- a session was read and served, or the device was scanned, or upgraded; what is said of a salvage and of frames has
-- clauses of its own
abbrev pub IsDone : Option Request
    → SourceState → SourceState → ℕ → SinkState → SinkState → DiskState → DiskState → Option HistoryState → Type 0
IsDone None source_old source_new limit old new found last h = ⊥
IsDone (Some Scan) source_old source_new limit old new found last h = IsScanned found last h old new
IsDone (Some (Drill start steps)) source_old source_new limit old new found last h = IsDrillDone start steps h old new
IsDone (Some Salvage) source_old source_new limit old new found last h = IsFaultless h
IsDone (Some Wire) source_old source_new limit old new found last h = IsFaultless h
IsDone (Some Upgrade) source_old source_new limit old new found last h = IsUpgraded found last
    × AppendsAll old new (fixed_line UpgradedLine)
IsDone (Some Run) source_old source_new limit old new found last h = WithText source_old source_new limit (λ text.
    WithSession text (λ session. IsSessionAnswered session h old new))
IsDone (Some (New blocks inodes)) source_old source_new limit old new found last h =
    WithText source_old source_new limit (λ text.
    WithSession text (λ session. IsSessionAnswered session h old new))

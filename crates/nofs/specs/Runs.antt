-- What comes of an image, on which a call was made or none.
use Rattle.std.specs.Prelude.{◌≡◌, ◌⊎◌, ℕ, List}
use Rattle.nofs_disk.specs.Disk.{DiskState}
use Rattle.nofs_io.specs.Calls.{SourceState, SinkState}
use Rattle.nofs_tool.specs.Begin.Lines.{fixed_line}
use Rattle.nofs_tool.specs.declared.begin.lines.FixedLine.TheVariants.{DeviceFault}
use Rattle.nofs_tool.specs.Runs.Call.{RunsOn}
use Rattle.nofs_tool.specs.Runs.Says.{Prints}

-- memory was wanting for the disk: nothing was taken, and nothing told
abbrev pub HasNoRoom : SourceState → SourceState → SinkState → SinkState → ℕ → Type 0
HasNoRoom source_old source_new sink_old sink_new status =
    (status ≡ 7) × (source_new ≡ source_old) × (sink_new ≡ sink_old)

-- a file could not be used: nothing was taken, and the line of a device fault was told
abbrev pub HasNoDevice : SourceState → SourceState → SinkState → SinkState → ℕ → Type 0
HasNoDevice source_old source_new sink_old sink_new status =
    (status ≡ 3) × (source_new ≡ source_old) × Prints sink_old sink_new (fixed_line DeviceFault)

-- one or the other
abbrev pub HasNoImage : SourceState → SourceState → SinkState → SinkState → ℕ → Type 0
HasNoImage source_old source_new sink_old sink_new status =
    HasNoRoom source_old source_new sink_old sink_new status
    ⊎ HasNoDevice source_old source_new sink_old sink_new status

-- a call was made on a disk behind a cache, or behind one that gathers, each of which is so; or on none
abbrev pub RunsOrNot : {C G : Type 0} → (C → DiskState) → (G → DiskState) → (C → Type 0) → (G → Type 0) → List (List ℕ)
    → SourceState → SourceState → ℕ → SinkState → SinkState → ℕ → Type 0
RunsOrNot cached gathered IsCached IsGathered words source_old source_new limit sink_old sink_new status =
    RunsOn cached words source_old source_new limit sink_old sink_new IsCached status
    ⊎ (RunsOn gathered words source_old source_new limit sink_old sink_new IsGathered status
    ⊎ HasNoImage source_old source_new sink_old sink_new status)

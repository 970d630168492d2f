-- When a run must succeed, but for want of memory.
use Rattle.std.specs.Prelude.{◌≡◌, ◌-◌, ◌^◌, ◌<◌, ◌≤◌, ℕ, List, [], ◌++◌, length, IsTrue, true, Ok, Some, None}
use Rattle.std.specs.declared.option.Option.{Option}
use Rattle.nofs_disk.specs.Disk.{DiskState, Rose}
use Rattle.nofs_super.specs.Geometry.{format_fault}
use Rattle.nofs_model.specs.Geometry.{is_mountable, super_at}
use Rattle.nofs_io.specs.Calls.{SourceState, SinkState}
use Rattle.nofs_client.specs.declared.task.commands.Command.{Command}
use Rattle.nofs_script.specs.Session.{session_of}
use Rattle.nofs_wire.specs.Frames.Split.{IsBad, rest_of}
use Rattle.nofs_tool.specs.declared.begin.words.Request.{Request}
use Rattle.nofs_tool.specs.declared.begin.words.Request.TheVariants.{New, Run, Scan, Drill, Upgrade, Salvage, Wire}

-- the source tells what it has left: a session, within the limit
pub record HoldsSession (source : SourceState) (limit : ℕ) : Type 0 where
  pub text : List ℕ
  pub told : source.left ≡ Some text
  pub short : length text ≤ limit
  pub session : List (List Command)
  pub spelled : session_of text ≡ Ok session

-- the source tells what it has left: whole frames to its end, within the limit, and none of them bad
pub record HoldsFrames (source : SourceState) (limit : ℕ) : Type 0 where
  pub text : List ℕ
  pub told : source.left ≡ Some text
  pub short : length text ≤ limit
  pub whole : rest_of text ≡ []
  pub none_bad : (front back : List ℕ) → text ≡ front ++ back → IsBad (rest_of front) → ⊥

-- the disk tells that it can be mounted once more
pub record CanBeMounted (d : DiskState) : Type 0 where
  pub tells : IsTrue d.tells
  pub size : length d.now ≡ d.blocks
  pub mountable : is_mountable d.now ≡ true
  pub mount : (super_at d.now).mount < 2 ^ 24 - 1

-- format accepts the numbers, on a disk that tells
pub record CanBeFormatted (d : DiskState) (blocks inodes : ℕ) : Type 0 where
  pub tells : IsTrue d.tells
  pub accepted : format_fault d.blocks blocks inodes ≡ None

-- the words are a command, its session is one, and its device is ready for it
abbrev pub IsReady : Option Request → SourceState → ℕ → DiskState → Type 0
IsReady None source limit d = ⊥
IsReady (Some Scan) source limit d = CanBeMounted d
IsReady (Some Salvage) source limit d = CanBeMounted d
IsReady (Some Wire) source limit d = HoldsFrames source limit × CanBeMounted d
IsReady (Some Run) source limit d = HoldsSession source limit × CanBeMounted d
IsReady (Some (Drill start steps)) source limit d = CanBeFormatted d 4096 256
IsReady (Some Upgrade) source limit d = CanBeMounted d × ((super_at d.now).version ≡ 1)
IsReady (Some (New blocks inodes)) source limit d = HoldsSession source limit × CanBeFormatted d blocks inodes

-- in this call no count of faults rose
pub record NoneRose (source_old source_new : SourceState) (disk_old disk_new : DiskState)
    (sink_old sink_new : SinkState) : Type 0 where
  pub source : Rose source_old.faults source_new.faults → ⊥
  pub disk : Rose disk_old.faults disk_new.faults → ⊥
  pub sink : Rose sink_old.faults sink_new.faults → ⊥

-- The headline: what the one history of a session says of its users, of the machine, and of every moment of the disk.
use Rattle.std.specs.Prelude.{◌≡◌, ◌≢◌, ℕ, Bool, true, false, List, [], IsTrue, Some, None}
use Rattle.std.specs.declared.option.Option.{Option}
use Rattle.nofs_disk.specs.Disk.{DiskState}
use Rattle.nofs_super.specs.Format.{IsFormatted}
use Rattle.nofs_super.specs.Raise.{raised}
use Rattle.nofs_super.specs.declared.superblock.SuperBlock.{SuperBlock}
use Rattle.nofs_model.specs.Geometry.{super_at}
use Rattle.nofs_io.specs.Calls.{SourceState}
use Rattle.nofs_history.specs.Faults.{has_fault}
use Rattle.nofs_history.specs.HistoryState.{HistoryState}
use Rattle.nofs_history.specs.declared.machine.history.Entry1.{Entry1}
use Rattle.nofs_client.specs.declared.task.commands.Command.{Command}
use Rattle.nofs_shared.specs.Mount.End.{Ends}
use Rattle.nofs_tool.specs.declared.begin.mounts.Numbers.{Numbers}
use Rattle.nofs_tool.specs.Begin.Mounts.{IsRaisedFrom}
use Rattle.nofs_tool.specs.declared.begin.words.Request.{Request}
use Rattle.nofs_tool.specs.declared.begin.words.Request.TheVariants.{New, Run, Scan, Drill, Upgrade, Salvage, Wire}
use Rattle.nofs_tool.specs.Drill.{IsDrillRun}
use Rattle.nofs_tool.specs.Session.Whole.{IsMet, IsWholeScan}
use Rattle.nofs_tool.specs.Session.Serve.{FollowsScripts, IsFlushed}
use Rattle.nofs_tool.specs.Visits.Salvage.{AreReads}
use Rattle.nofs_tool.specs.Runs.Tool.{WithText, WithSession}
use Rattle.nofs_tool.specs.Visits.Visit.{FollowsVisit}
use Rattle.nofs_tool.specs.Visits.Wire.{IsWired}

-- THE HEADLINE, of one history over the disk that the mount found. Its entries follow what was asked for (`Follows`, by
-- the numbers of the mount, and whether memory was wanting, which is so at status 7 alone); over any disk those numbers
-- are of a superblock by which it can be mounted, and where it tells, of the one in block 0. At status 0 no entry has a
-- fault, and where none has one, but at 7, the last flush was made: each block of the disk handed back may then be left
-- as a read gives it alone. Where the premises are met, `Ends` says further: the history is a run of the machine with
-- its replies; at each moment, in mid-step too, every image that a crash may leave is allowed; what is claimed was
-- free; and each image is one on which the premises are met again. At status 0 the machine knows every inode and every
-- block, and says of each what the full scan of the disk handed back says
pub record IsHeadlineOf (Follows : SuperBlock → Bool → List Entry1 → Type 0) (found last : DiskState) (status : ℕ)
    (h : HistoryState) : Type 0 where
  -- the numbers of the mount
  pub at : SuperBlock
  pub read : IsRaisedFrom found at
  pub numbers : IsMet found → at ≡ raised (super_at found.now)
  pub short : Bool
  pub early : short ≡ true → status ≡ 7
  pub follows : Follows at short h.entries
  pub faultless : status ≡ 0 → has_fault h.entries ≡ false
  pub flushed : status ≢ 7 → has_fault h.entries ≡ false → IsFlushed last h.entries
  pub ends : Ends found last 0 h
  pub whole : (q : IsMet found) → status ≡ 0 → IsWholeScan (ends.contents q).world last.now

-- the entries of a history are those of a drill
abbrev pub FollowsDrill : ℕ → ℕ → SuperBlock → Bool → List Entry1 → Type 0
FollowsDrill start steps at short H = IsDrillRun start steps at.inodes at.blocks short H

-- of a session
abbrev pub IsHeadline : List (List Command) → DiskState → DiskState → ℕ → HistoryState → Type 0
IsHeadline scripts found last status h = IsHeadlineOf (FollowsScripts scripts) found last status h

module _ {D : Type 0} (state : D → DiskState) where
  -- on a device that was formatted first: the mount found it as the format left it, and the premises are met where it
  -- tells
  pub record IsNewHeadline (blocks inodes : ℕ) (scripts : List (List Command)) (old : D) (last : DiskState) (status : ℕ)
      (h : HistoryState) : Type 0 where
    pub found : D
    pub formatted : IsFormatted blocks inodes (state old) (state found)
    pub met : IsTrue (state old).tells → IsMet (state found)
    pub headline : ∥ IsHeadline scripts (state found) last status h ∥₁

  -- of a session: where there are numbers, the device was formatted with them
  abbrev pub HeadlineOf : Option Numbers → List (List Command) → D → DiskState → ℕ → HistoryState → Type 0
  HeadlineOf None scripts old last status h = ∥ IsHeadline scripts (state old) last status h ∥₁
  HeadlineOf (Some numbers) scripts old last status h =
      IsNewHeadline numbers.blocks numbers.inodes scripts old last status h

  -- of a drill, for which the device was formatted: its users have the drawn scripts, and then PROGRAM reads their
  -- files
  pub record IsDrillHeadline (start steps : ℕ) (old : D) (last : DiskState) (status : ℕ)
      (h : HistoryState) : Type 0 where
    pub found : D
    pub formatted : IsFormatted 4096 256 (state old) (state found)
    pub met : IsTrue (state old).tells → IsMet (state found)
    pub headline : ∥ IsHeadlineOf (FollowsDrill start steps) (state found) last status h ∥₁

  -- of a task: the session is the one that its source spells, and a scan has no users; a salvage has one caller that
  -- reads, and frames have one whose steps are theirs
  abbrev pub HeadlineIn : Option Request → SourceState → SourceState → ℕ → D → DiskState → ℕ → HistoryState → Type 0
  HeadlineIn None source_old source_new limit old last status h = ⊥
  HeadlineIn (Some Upgrade) source_old source_new limit old last status h = ⊥
  HeadlineIn (Some Salvage) source_old source_new limit old last status h =
      ∥ IsHeadlineOf (FollowsVisit AreReads) (state old) last status h ∥₁
  HeadlineIn (Some Wire) source_old source_new limit old last status h =
      ∥ IsHeadlineOf (FollowsVisit (IsWired source_old.left source_new.left)) (state old) last status h ∥₁
  HeadlineIn (Some Scan) source_old source_new limit old last status h = HeadlineOf None [] old last status h
  HeadlineIn (Some (Drill start steps)) source_old source_new limit old last status h =
      IsDrillHeadline start steps old last status h
  HeadlineIn (Some Run) source_old source_new limit old last status h = WithText source_old source_new limit (λ text.
      WithSession text (λ session. HeadlineOf None session old last status h))
  HeadlineIn (Some (New blocks inodes)) source_old source_new limit old last status h =
      WithText source_old source_new limit (λ text.
      WithSession text
      (λ session. HeadlineOf (Some (record { blocks = blocks; inodes = inodes })) session old last status h))

-- Instances of the laws of a crash, by the formatted disk and a Put of one byte.
use Rattle.std.specs.Prelude.{◌≡◌, ℕ, zero, suc, ◌+◌, ◌^◌, true, false, List, [], ◌∷◌, length, IsTrue, if◌then◌else◌}
use Rattle.std.specs.Prelude.{nat_lt, ◌==◌, Contains}
use Rattle.nofs_disk.specs.Disk.{DiskState, IsDisk, Picks, StaysButFaults, cell_at}
use Rattle.nofs_disk.specs.declared.tag.Cell.{Cell}
use Rattle.nofs_model.specs.Geometry.{Image, inode}
use Rattle.nofs_ptrs.specs.Paths.{leaf, path_of}
use Rattle.nofs_history.specs.Marks.{Mark, mark_at}
use Rattle.nofs_history.specs.Machine.{Given, given_by, files_by}
use Rattle.nofs_history.specs.Since.{agreed_files, mark}
use Rattle.nofs_history.specs.Claims.{no_claims}
use Rattle.nofs_history.specs.declared.machine.history.Entry1.{Entry1}
use Rattle.nofs_history.specs.declared.machine.steps.Step.TheVariants as step
use Rattle.nofs_history.specs.declared.machine.replies.Reply.TheVariants as reply
use Rattle.nofs_history.specs.Allowed.{HasVersions, IsAllowed}
use Rattle.nofs_history.specs.Steady.{SteadyRest}
use Rattle.nofs_crashlaw.specs.Images.Reasons.{IsMark}
use Rattle.nofs_crashlaw.specs.Images.Moments.{during, AllExplained, IsTracked, OnlyProper}
use Rattle.nofs_crashlaw.specs.Files.Growth.{Grows}
use Rattle.nofs_crashlaw.specs.Files.Writes.{ContentLies, PointersLie, RecordLies}
use Rattle.nofs_crashlaw.specs.Histories.Laws.{StepUnderWay, AllLater, SparesRest}
use Rattle.nofs_crashlaw.specs.Histories.Stage.{Lasts, IsLeftByMount, IsStep, AddsProper, HasFiles, IsFlush}
use Rattle.nofs_cases.specs.Disks.Images.{blank, image_of, first_table, first_image, put_image, put_block}
use Rattle.nofs_cases.specs.Disks.Worlds.{put_files, entry_of_step, block_two}
use Rattle.nofs_cases.specs.Steps.Leaf.{leaf_image, leaf_places}
use Rattle.nofs_cases.specs.Steps.Maps.{put_entry, alone, put_may}
use Rattle.nofs_cases.specs.Lives.Runs.{disk}

-- it is the formatted disk of the instances of lives
abbrev pub SameDisk : Type 0
SameDisk = first_image ≡ disk

-- the mark that its mount makes
abbrev pub first_mark : Mark
first_mark = mark_at first_image [] 1 first_image (2 ^ 40)

-- what the Put gives
abbrev pub put_gives : Given
put_gives = given_by (agreed_files first_image) put_entry

-- the new content without the new record, as a crash may leave it
abbrev pub torn_image : Image
torn_image = image_of first_table (put_block 7) blank

-- A mark all of whose members are explained, and a pick of them that has one of the two writes alone.
abbrev pub ImagesCase : Type 0
ImagesCase = IsMark (during first_mark put_gives) × AllExplained (during first_mark put_gives) put_may
    × Picks put_may (length first_image) torn_image

-- What holds before the Put, and its proper writes.
abbrev pub MomentCase : Type 0
MomentCase = IsMark first_mark × Picks (alone first_image) (length first_image) first_image
    × IsTracked first_mark first_image × AllExplained first_mark
    (alone first_image)
    × OnlyProper (during first_mark put_gives) first_image (alone first_image) put_may

-- A settled disk.
abbrev pub FlushCase : Type 0
FlushCase = IsMark first_mark × ((b : ℕ) (c : Cell) → Contains (alone first_image b) c → c ≡ cell_at first_mark.image b)

-- The two writes of the Put.
abbrev pub WritesCase : Type 0
WritesCase = ContentLies first_mark put_gives first_image put_image 2 2 0 (block_two 0) (put_block 7)
    × RecordLies first_mark put_gives first_image 2
    (inode put_image 2)

-- The leaf of a Put to slot 8, on the way to its block.
abbrev pub PointersCase : Type 0
PointersCase = Grows (2 ^ 40) first_image leaf_image 2 (path_of 8) leaf_places
    × PointersLie first_mark first_image leaf_image 2 leaf 0 (path_of 8) leaf_places

-- The step under way, from moment 1 to moment 3 of its four.
abbrev pub StepCase : Type 0
StepCase = StepUnderWay first_image [] put_entry 1 3 first_image (2 ^ 40) (alone first_image) put_may first_image

-- The base is allowed at moment 0, and the Put comes later.
abbrev pub LaterCase : Type 0
LaterCase = AllLater (put_entry ∷ []) 0 × IsAllowed first_image [] 0 first_image

abbrev pub NamesCase : Type 0
NamesCase = HasVersions first_image [] 0 first_image

abbrev pub UnflushedCase : Type 0
UnflushedCase = mark (put_entry ∷ []) 3 ≡ 0

-- The Put touches the label file alone.
abbrev pub RestCase : Type 0
RestCase = SteadyRest first_image [] first_image
    × SparesRest first_image [] put_entry (2 ^ 40) (λ j. j == 2) first_image put_image put_files

-- States of a disk

-- it tells what it holds, and may hold nothing else
abbrev pub still : ℕ → ℕ → DiskState
still moment spare = record {
  blocks = 16;
  moment = moment;
  spare = spare;
  faults = 0;
  tells = true;
  now = first_image;
  may = λ b. if nat_lt b 16 then alone first_image b else [];
  was = λ m. first_image;
  left = λ m X. X ≡ first_image;
  dirty = [];
  holds_back = false;
}

-- what the Put may leave
abbrev pub may_after_put : ℕ → List Cell
may_after_put b = if nat_lt b 16 then put_may b else []

-- what a crash may leave at a moment: the disk before the Put, and from its first write on any pick
abbrev pub left_after : ℕ → Image → Type 0
left_after zero X = X ≡ first_image
left_after (suc m) X = Picks may_after_put 16 X

-- after the Put
abbrev pub put_state : DiskState
put_state = record (still 4 6) { now = put_image; may = may_after_put; left = left_after }

-- After a mount.
abbrev pub FirstStageCase : Type 0
FirstStageCase = IsLeftByMount (still 0 8) (2 ^ 40)

-- The Put, from one state of the disk to the next.
abbrev pub StageCase : Type 0
StageCase = IsStep first_image [] put_entry first_image (2 ^ 40) 0 (2 ^ 40) (still 0 8) put_state
    × AddsProper first_image [] put_entry first_image (2 ^ 40) (still 0 8) put_state
    × HasFiles put_state (files_by (agreed_files first_image) put_entry) (2 ^ 40 + 1)

-- A look at block 2, which changes nothing.
abbrev pub see_block_entry : Entry1
see_block_entry = entry_of_step (step.SeeBlock 2) (reply.Seen false) no_claims 0 0

abbrev pub IdleStageCase : Type 0
IdleStageCase = IsStep first_image [] see_block_entry first_image (2 ^ 40) 0 (2 ^ 40) (still 0 8) (still 0 8)
    × StaysButFaults (still 0 8) (still 0 8)
    × (files_by (agreed_files first_image) see_block_entry ≡ agreed_files first_image)

-- The formatted disk after a mount: all is steady on it.
abbrev pub SteadyCase : Type 0
SteadyCase = IsDisk (still 0 8) × IsTrue (still 0 8).tells × Lasts first_image [] first_image (2 ^ 40) 0 (still 0 8)
    × SteadyRest first_image [] first_image

-- A flush right after the mount.
abbrev pub FlushStageCase : Type 0
FlushStageCase = IsFlush first_image [] first_image (2 ^ 40) 0 (2 ^ 40) (still 0 8) (still 2 7)

-- The states of the disk around a Put of one byte.
use Rattle.std.proofs.Common.{◌≡◌, ℕ, zero, suc, ◌+◌, ◌^◌, ◌<◌, ◌≤◌, inl, inr, [], ◌∷◌, false}
use Rattle.std.proofs.Common.{length, refl, ap, subst, arith, Contains}
use Rattle.nofs_disk.specs.Disk.{DiskState}
use Rattle.nofs_disk.specs.Adds.{WasOr}
use Rattle.nofs_disk.specs.declared.tag.Cell.{Cell}
use Rattle.nofs_inode.specs.declared.inode.Record.{Record}
use Rattle.nofs_disk.specs.Pointer.{null}
use Rattle.nofs_inode.specs.InodeRecords.{free_record}
use Rattle.nofs_model.specs.Geometry.{Image, inode}
use Rattle.nofs_disk.specs.Disk.{cell_at}
use Rattle.nofs_model.specs.Slots.{value}
use Rattle.nofs_model.specs.Sound.{CellBelow}
use Rattle.nofs_history.specs.Machine.{gives, files_by}
use Rattle.nofs_history.specs.Since.{agreed_files, is_flushed}
use Rattle.nofs_history.specs.declared.machine.history.Entry1.{Entry1}
use Rattle.nofs_crashlaw.specs.Images.Moments.{during}
use Rattle.nofs_crashlaw.proofs.OnFiles.Puts.{law-put-files}
use Rattle.nofs_crashlaw.specs.Histories.Stage.{AddsProper, HasFiles, IsStep}
use Rattle.nofs_disk.specs.Chains.{StaysButFaults-refl}
use Rattle.nofs_crashlaw.proofs.OnHistories.FlushStage.{files-stay}
use Rattle.nofs_crashlaw.proofs.OnHistories.Unflushed.{self-match}
use Rattle.nofs_cases.specs.Disks.Images.{blank, first_table, first_image, put_table, put_image, put_block}
use Rattle.nofs_cases.specs.Disks.Worlds.{block_two}
use Rattle.nofs_cases.specs.Steps.Files.{put_places}
use Rattle.nofs_cases.specs.Steps.Maps.{put_entry, alone, put_may}
use Rattle.nofs_cases.proofs.OnDisks.Images.{root_record, label_record, mountable, first-records, put-records, put-tag}
use Rattle.nofs_cases.proofs.OnDisks.Below.{tag-low, record-low, no-links-low, free-low, table-cell, blank-low}
use Rattle.nofs_cases.proofs.OnDisks.Below.{cells-low}
use Rattle.nofs_cases.proofs.OnSteps.Files.{first-inode, put-lies-of}
use Rattle.nofs_cases.proofs.OnSteps.Maps.{first-low, one-of}
use Rattle.nofs_cases.specs.Crashes.Put.{still, may_after_put, left_after, put_state}
use Rattle.nofs_cases.specs.Crashes.Put.{see_block_entry, StageCase, IdleStageCase, SteadyCase, FlushStageCase}
use Rattle.nofs_cases.proofs.OnCrashes.Put.{inside, within, still-disk, still-settled, first-stage, first-rest, size-is}
use Rattle.nofs_cases.proofs.OnCrashes.Put.{no-value, label_now, label-now}
use Rattle.nofs_cases.proofs.OnCrashes.Writes.{IsProperWrite, only-proper}

-- The states of the disk

adds-cells : (b : ℕ) (c : Cell) → Contains (may_after_put b) c → WasOr IsProperWrite (still 0 8) b c
adds-cells b c has =
    let i = inside put_may b c has in
    elim (only-proper b c i.1) [
      | inl old ↦ inl (within (alone first_image) b c i.0 old)
      | inr new ↦ inr new
    ]

pub put-adds : AddsProper first_image [] put_entry first_image (2 ^ 40) (still 0 8) put_state
put-adds = record {
  disk = record { blocks = refl; tells = refl; holds_back = refl; faults = omega arith };
  past = record { was = λ m low. refl; no_more = more; no_less = less };
  later = omega arith;
  cells = adds-cells;
  left = λ m X low high l. left m X low l;
}
  where
    more : (m : ℕ) (X : Image) → m ≤ 0 → left_after m X → X ≡ first_image
    more zero X le l = l
    more (suc m) X le l = absurd (omega (arith, le))

    less : (m : ℕ) (X : Image) → m ≤ 0 → X ≡ first_image → left_after m X
    less zero X le l = l
    less (suc m) X le l = absurd (omega (arith, le))

    left : (m : ℕ) (X : Image) → 0 < m → left_after m X
        → (length X ≡ 16) × ((b : ℕ) → b < 16 → WasOr IsProperWrite (still 0 8) b (cell_at X b))
    left zero X low l = absurd (omega (arith, low))
    left (suc m) X low l = (l.len, λ b lt. adds-cells b (cell_at X b) (l.each b lt))

-- each number on the disk after the Put
put-low : (b : ℕ) → b < 16 → CellBelow (2 ^ 40 + 1) put_image b (cell_at put_image b)
put-low = cells-low (2 ^ 40 + 1) put_table (put_block 7) blank put_table (put_block 7) blank (omega arith)
    (table-cell (2 ^ 40 + 1) put_table (put_block 7) blank put_table (root_record null)
    (label_record 1 (block_two 0)) free_record (omega arith)
    refl put-records (record {
      one = record-low (2 ^ 40 + 1) (root_record null) null refl (omega arith)
          (no-links-low (2 ^ 40 + 1) (omega arith)) (omega arith);
      two = record-low (2 ^ 40 + 1) (label_record 1 (block_two 0)) (block_two 0) refl (omega arith)
          (no-links-low (2 ^ 40 + 1) (omega arith)) (omega arith);
      three = free-low (2 ^ 40 + 1) (omega arith);
    }))
    (tag-low (2 ^ 40 + 1) (put_block 7) _ (put-tag 7) (omega arith) (omega arith) (λ e. cc e) (λ e. cc e))
    (blank-low (2 ^ 40 + 1) (omega arith))

-- and on the one before it
before-low : (b : ℕ) → b < 16 → CellBelow (2 ^ 40 + 1) put_image b (cell_at first_image b)
before-low = cells-low (2 ^ 40 + 1) put_table (put_block 7) blank first_table blank blank (omega arith)
    (table-cell (2 ^ 40 + 1) put_table (put_block 7) blank first_table (root_record null)
    (label_record 0 null) free_record (omega arith) refl first-records
    (first-low (2 ^ 40 + 1) (omega arith)))
    (blank-low (2 ^ 40 + 1) (omega arith)) (blank-low (2 ^ 40 + 1) (omega arith))

pub put-files : HasFiles put_state (files_by (agreed_files first_image) put_entry) (2 ^ 40 + 1)
unfolding gives label_now
put-files = record {
  files = law-put-files (agreed_files first_image) first_image put_image 2 2 0 0 (7 ∷ []) label_now (2 ^ 40) put_places
      (put-lies-of (agreed_files first_image) label_now (self-match first_image) (record {
        is = label-now;
        generation = ap (λ (r : Record). r.generation) (first-inode 2);
        kind = refl;
        size = size-is;
        value = no-value;
      }));
  positive = omega arith;
  fresh = λ b c lt has.
      let i = inside put_may b c has in
      elim (one-of (cell_at first_image b) (cell_at put_image b) c i.1) [
        | inl e ↦ subst (CellBelow (2 ^ 40 + 1) put_image b) e (before-low b i.0)
        | inr e ↦ subst (CellBelow (2 ^ 40 + 1) put_image b) e (put-low b i.0)
      ];
}

-- the first step after a mount
first-step : (e : Entry1) (new : DiskState) → e.from ≡ (still 0 8).moment → e.to ≡ new.moment
    → is_flushed e.reply ≡ false → IsStep first_image [] e first_image (2 ^ 40) 0 (2 ^ 40) (still 0 8) new
first-step e new at to unflushed = record {
  stage = first-stage;
  disk = still-disk 0 8 (omega arith);
  tells = refl;
  from = at;
  to = to;
  no_flush = unflushed;
}

pub stage-case : StageCase
stage-case = (
  first-step put_entry put_state refl refl refl,
  put-adds,
  put-files,
)

pub flush-stage-case : FlushStageCase
flush-stage-case = record {
  stage = first-stage;
  before = still-disk 0 8 (omega arith);
  after = still-disk 2 7 (omega arith);
  tells = refl;
  no_fault = tt;
  rest = first-rest;
  flushes = record {
    disk = record { blocks = refl; tells = refl; holds_back = refl; faults = omega arith };
    past = record { was = λ m low. refl; no_more = λ m X low l. l; no_less = λ m X low l. l };
    moment = refl;
    spare = refl;
    now = refl;
    may = λ b c lt has. has;
    settled = still-settled 2 7;
    was = refl;
    clean = refl;
    err = tt;
    dirty = λ b h. h;
    during = λ X l. (still-disk 0 8 (omega arith)).at_rest X l;
    cause = tt;
    no_fault = refl;
  };
  mountable = mountable first_table blank blank;
}

pub idle-stage-case : IdleStageCase
unfolding gives
idle-stage-case = (
  first-step see_block_entry (still 0 8) refl refl refl,
  StaysButFaults-refl (still 0 8),
  files-stay (agreed_files first_image),
)

pub steady-case : SteadyCase
steady-case = (still-disk 0 8 (omega arith), refl, first-stage.lasts, first-rest)

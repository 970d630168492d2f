-- A Resize to the size 0.
use Rattle.std.proofs.Common.{◌∷◌, ℕ, ◌+◌, ◌^◌, ◌<◌, refl, ap, arith}
use Rattle.nofs_super.specs.declared.superblock.SuperBlock.{SuperBlock}
use Rattle.nofs_inode.specs.InodeRecords.{free_record}
use Rattle.nofs_disk.specs.Pointer.{null}
use Rattle.nofs_disk.specs.Disk.{cell_at}
use Rattle.nofs_model.specs.Sound.{CellBelow, IsBelow}
use Rattle.nofs_history.specs.Claims.{NoInode, Unclaimed}
use Rattle.nofs_model.specs.declared.image.value.Value.TheVariants.{Bytes}
use Rattle.nofs_cases.specs.Disks.Images.{z, blank, first_table, put_table, put_block, put_image}
use Rattle.nofs_cases.specs.Disks.Worlds.{put_files, block_two}
use Rattle.nofs_cases.proofs.OnDisks.Images.{root_record, label_record, first-records, put-records, numbers-are}
use Rattle.nofs_cases.proofs.OnDisks.Images.{mountable, put-tag}
use Rattle.nofs_cases.proofs.OnDisks.Below.{tag-low, record-low, no-links-low, free-low, RecordsLow, table-cell}
use Rattle.nofs_cases.proofs.OnDisks.Below.{blank-low, cells-low}
use Rattle.nofs_cases.proofs.OnSteps.Files.{put-holds, put-match, put-old, cut-lies, cut-pointers}
use Rattle.nofs_cases.specs.Steps.Cut.{CutCase, CutSlotCase}

-- each number on the disk after the Put
put-low : (s : ℕ) → 2 ^ 40 < s → RecordsLow s (root_record null) (label_record 1 (block_two 0)) free_record
put-low s lt = record {
  one = record-low s (root_record null) null refl (omega (arith, lt)) (no-links-low s (omega (arith, lt)))
      (omega (arith, lt));
  two = record-low s (label_record 1 (block_two 0)) (block_two 0) refl (omega (arith, lt))
      (no-links-low s (omega (arith, lt))) lt;
  three = free-low s (omega (arith, lt));
}

put-cells : (b : ℕ) → b < 16 → CellBelow (2 ^ 40 + 1) put_image b (cell_at put_image b)
put-cells = cells-low (2 ^ 40 + 1) put_table (put_block 7) blank put_table (put_block 7) blank (omega arith)
    (table-cell (2 ^ 40 + 1) put_table (put_block 7) blank put_table (root_record null)
    (label_record 1 (block_two 0)) free_record (omega arith)
    refl put-records (put-low (2 ^ 40 + 1) (omega arith)))
    (tag-low (2 ^ 40 + 1) (put_block 7) _ (put-tag 7) (omega arith) (omega arith) (λ e. cc e) (λ e. cc e))
    (blank-low (2 ^ 40 + 1) (omega arith))

put-below : IsBelow (2 ^ 40 + 1) put_image
put-below b low = put-cells b
    (let n = ap (λ (q : SuperBlock). q.blocks) (numbers-are put_table (put_block 7) blank) in omega (arith, n, low))

pub cut-case : CutCase
cut-case = (
  cut-lies put_files put_table (put_block 7) blank first_table 1 0 (2 ^ 40 + 1) (block_two 0)
      (Bytes (7 ∷ z 1023)) put-records first-records refl put-match refl
      put-old,
  record { inode = NoInode refl refl; cell = Unclaimed refl; leaf = Unclaimed refl; top = Unclaimed refl; apart = tt },
  record { positive = omega arith; mountable = mountable put_table (put_block 7) blank; below = put-below },
)

pub cut-slot-case : CutSlotCase
cut-slot-case = (
  put-holds 7,
  refl,
  cut-pointers put_files put_table (put_block 7) blank first_table 1 0 (2 ^ 40 + 1) (block_two 0)
      (Bytes (7 ∷ z 1023)) put-records first-records refl 0,
)

-- Homes after steps on names, and the numbers before them and before a Put.
use Rattle.std.proofs.Common.{◌≡◌, ℕ, ◌+◌, ◌^◌, ◌<◌, ◌++◌, Option, Some, IfSome, All, List, true, get_or, refl, sym, ap}
use Rattle.std.proofs.Common.{subst, arith}
use Rattle.nofs_inode.specs.declared.inode.FileKind.TheVariants.{File}
use Rattle.nofs_disk.specs.declared.tag.Cell.{Cell}
use Rattle.nofs_inode.specs.declared.inode.Record.{Record}
use Rattle.nofs_disk.specs.declared.tag.Kind.TheVariants.{Directory, Leaf}
use Rattle.nofs_disk.specs.declared.tag.Tag.{Tag}
use Rattle.nofs_super.specs.declared.superblock.SuperBlock.{SuperBlock}
use Rattle.nofs_disk.specs.Number.{number_at}
use Rattle.nofs_ptrs.specs.Cells.{pointer_at}
use Rattle.nofs_dirent.specs.Entries.{entry_in, entry_of, entry_fields}
use Rattle.nofs_disk.specs.Pointer.{null}
use Rattle.nofs_dirent.specs.Names.{is_name}
use Rattle.nofs_ptrs.specs.Paths.{path_of}
use Rattle.nofs_model.specs.Sound.{TagBelow, IsBelow}
use Rattle.nofs_history.specs.Search.{least_from}
use Rattle.nofs_history.specs.Machine.{first_dead, place_for}
use Rattle.nofs_history.specs.Claims.{IsClaim, ClaimedInode, NoInode, Claimed, Unclaimed, no_claims}
use Rattle.nofs_history.specs.declared.machine.steps.Step.TheVariants as step
use Rattle.nofs_crashlaw.specs.Numbers.Cells.{OldNumbers}
use Rattle.nofs_crashlaw.specs.Machine.Examples.{a, b}
use Rattle.nofs_cases.specs.Disks.Images.{z, blank, image_of, first_table, first_image}
use Rattle.nofs_cases.specs.Disks.Worlds.{first_files, first_world, block_two}
use Rattle.nofs_cases.proofs.OnDisks.Numbers.{each-number, all_below, none-of}
use Rattle.nofs_cases.proofs.OnDisks.Images.{root_record, label_record, HasRecords, numbers-are, mountable}
use Rattle.nofs_cases.proofs.OnDisks.Below.{record-low, no-links-low, RecordsLow, table-cell, blank-low, cells-low}
use Rattle.nofs_cases.proofs.OnSteps.Files.{put-lies, put-placed}
use Rattle.nofs_cases.proofs.OnSteps.Maps.{first-is-below}
use Rattle.nofs_cases.specs.Names.Disks.{short_entry_bytes, root_block, name_table, name_image, one_link, name_files}
use Rattle.nofs_cases.specs.Names.Disks.{name_world}
use Rattle.nofs_cases.specs.Names.Steps.{make_claims}
use Rattle.nofs_cases.proofs.OnNames.Roots.{file_record, name-records, root-tag}
use Rattle.nofs_cases.proofs.OnDisks.Entries.{is_low, entries-low}
use Rattle.nofs_cases.proofs.OnNames.Steps.{make-case, rename-case, link-case, drop-name-case, drop-file-case}
use Rattle.nofs_cases.specs.Numbers.Homes.{MakeHomesCase, LinkHomesCase, RenameHomesCase, DropNameHomesCase}
use Rattle.nofs_cases.specs.Numbers.Homes.{DropFileHomesCase, MakeNumbersCase}
use Rattle.nofs_cases.specs.Numbers.Homes.{LinkNumbersCase, RenameNumbersCase, DropNumbersCase, PutNumbersCase}

-- Places

make-place : place_for first_files 1 a ≡ Some 0
unfolding place_for first_dead least_from
make-place = refl

link-place : place_for name_files 1 b ≡ Some 1
unfolding place_for first_dead least_from entry_of entry_fields number_at is_name
link-place = refl

-- Claims

make-claim : IsClaim first_world (step.Make 1 1 a File) make_claims
unfolding place_for first_dead least_from path_of
make-claim = record {
  inode = ClaimedInode refl (omega arith) (omega arith) refl;
  cell = Claimed refl (omega arith) refl;
  leaf = Unclaimed refl;
  top = Unclaimed refl;
  apart = ((λ y c. absurd (none-of c)), tt);
}

link-claim : IsClaim name_world (step.Link 1 1 b 3 (2 ^ 40)) no_claims
unfolding place_for first_dead least_from path_of entry_of entry_fields number_at is_name
link-claim =
    record { inode = NoInode refl refl; cell = Unclaimed refl; leaf = Unclaimed refl; top = Unclaimed refl; apart = tt }

pub make-homes-case : MakeHomesCase
make-homes-case = (make-case, record { place = make-place; cell = refl; leaf = λ e. cc e }, make-claim)

pub link-homes-case : LinkHomesCase
link-homes-case = (link-case, link-place, link-claim)

pub rename-homes-case : RenameHomesCase
rename-homes-case = (
  rename-case,
  record { inode = NoInode refl refl; cell = Unclaimed refl; leaf = Unclaimed refl; top = Unclaimed refl; apart = tt },
)

pub drop-name-homes-case : DropNameHomesCase
drop-name-homes-case = (
  drop-name-case,
  record { inode = NoInode refl refl; cell = Unclaimed refl; leaf = Unclaimed refl; top = Unclaimed refl; apart = tt },
)

pub drop-file-homes-case : DropFileHomesCase
drop-file-homes-case = (
  drop-file-case,
  record { inode = NoInode refl refl; cell = Unclaimed refl; leaf = Unclaimed refl; top = Unclaimed refl; apart = tt },
)

-- Numbers

pub first-numbers : OldNumbers first_world first_image
first-numbers = record {
  positive = omega arith;
  mountable = mountable first_table blank blank;
  below = first-is-below (2 ^ 40) (omega arith);
}

one-link-low : (s : ℕ) → 2 ^ 40 + 1 < s → All (λ l. l.generation < s) one_link
one-link-low s lt n d low = each-number (λ k. k < 4 → (get_or one_link k d).generation < s) (λ below. omega (arith, lt))
    (λ below. omega (arith, lt))
    (λ below. omega (arith, lt)) (λ below. omega (arith, lt)) (λ k below. absurd (omega (arith, below))) n low

pub name-low : (s : ℕ)
    → 2 ^ 40 + 1 < s → RecordsLow s (root_record (block_two 1)) (label_record 0 null) (file_record one_link)
name-low s lt = record {
  one = record-low s (root_record (block_two 1)) (block_two 1) refl (omega (arith, lt))
      (no-links-low s (omega (arith, lt))) lt;
  two = record-low s (label_record 0 null) null refl (omega (arith, lt)) (no-links-low s (omega (arith, lt)))
      (omega (arith, lt));
  three = record-low s (file_record one_link) null refl (omega (arith, lt)) (one-link-low s lt) (omega (arith, lt));
}

-- a disk whose root has one block of entries, each below the bound

cell-low : (bytes : List ℕ) → ((j : ℕ) → j < 16 → IfSome (entry_in bytes j) (λ e. e.generation < 2 ^ 40 + 2))
    → TagBelow (2 ^ 40 + 2) (root_block bytes)
cell-low bytes entries = record {
  own = subst (λ (o : Option Tag). IfSome o (λ t. (t.generation < 2 ^ 40 + 2) × (t.stamp < 2 ^ 40 + 2)))
      (sym (root-tag bytes)) (omega arith, omega arith);
  entries = subst (λ (o : Option Tag). IfSome o
      (λ t. t.kind ≡ Directory → (j : ℕ) → j < 16 → IfSome (entry_in bytes j) (λ e. e.generation < 2 ^ 40 + 2)))
      (sym (root-tag bytes)) (λ k j lt. entries j lt);
  pointers = subst (λ (o : Option Tag). IfSome o
      (λ t. t.kind ≡ Leaf → (j : ℕ) → j < 64 → (pointer_at bytes j).stamp < 2 ^ 40 + 2)) (sym (root-tag bytes))
      (λ k. cc k);
}

pub disk-below : (t : Cell) (bytes : List ℕ) (c : Record)
    → t.tag ≡ name_table.tag → HasRecords t (root_record (block_two 1)) (label_record 0 null) c
    → RecordsLow (2 ^ 40 + 2) (root_record (block_two 1)) (label_record 0 null) c
    → ((j : ℕ) → j < 16 → IfSome (entry_in bytes j) (λ e. e.generation < 2 ^ 40 + 2))
    → IsBelow (2 ^ 40 + 2) (image_of t (root_block bytes) blank)
disk-below t bytes c tag records low entries p lt =
    cells-low (2 ^ 40 + 2) t (root_block bytes) blank t (root_block bytes) blank (omega arith)
    (table-cell (2 ^ 40 + 2) t (root_block bytes) blank t (root_record (block_two 1)) (label_record 0 null) c
    (omega arith) tag records low)
    (cell-low bytes entries) (blank-low (2 ^ 40 + 2) (omega arith)) p
    (let n = ap (λ (q : SuperBlock). q.blocks) (numbers-are t (root_block bytes) blank) in omega (arith, n, lt))

-- the cell has the entry a alone
name-entries : all_below (λ j. is_low (2 ^ 40 + 2) (entry_in (short_entry_bytes 97 ++ z 960) j)) 16 ≡ true
unfolding all_below is_low entry_of entry_fields number_at is_name
name-entries = refl

pub name-below : IsBelow (2 ^ 40 + 2) name_image
name-below = disk-below name_table (short_entry_bytes 97 ++ z 960) (file_record one_link) refl name-records
    (name-low (2 ^ 40 + 2) (omega arith))
    (entries-low (2 ^ 40 + 2) (short_entry_bytes 97 ++ z 960) name-entries)

pub name-numbers : OldNumbers name_world name_image
name-numbers = record {
  positive = omega arith;
  mountable = mountable name_table (root_block (short_entry_bytes 97 ++ z 960)) blank;
  below = name-below;
}

pub make-numbers-case : MakeNumbersCase
make-numbers-case = (first-numbers, make-homes-case)

pub link-numbers-case : LinkNumbersCase
link-numbers-case = (name-numbers, link-case)

pub rename-numbers-case : RenameNumbersCase
rename-numbers-case = (name-numbers, rename-case)

pub drop-numbers-case : DropNumbersCase
drop-numbers-case = (name-numbers, drop-file-case)

pub put-numbers-case : PutNumbersCase
put-numbers-case = (first-numbers, put-lies, put-placed)

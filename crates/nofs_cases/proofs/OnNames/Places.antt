-- A Make in the block that the directory has, and a Link for which it gets a second block.
use Rattle.std.proofs.Common.{◌≡◌, ◌≢◌, ℕ, zero, suc, ◌+◌, ◌^◌, ◌<◌, inl, inr, true, false, [], ◌∷◌, ◌++◌, Option, Some}
use Rattle.std.proofs.Common.{None, IfSome, refl, sym, ap, subst, arith}
use Rattle.nofs_disk.specs.Number.{put_number, put_bytes, zeros, number_at}
use Rattle.nofs_inode.specs.declared.inode.FileKind.TheVariants.{File, Directory as Folder}
use Rattle.nofs_disk.specs.declared.tag.Kind.TheVariants.{Directory}
use Rattle.nofs_dirent.specs.declared.entry.Entry.{Entry}
use Rattle.nofs_inode.specs.declared.inode.Record.{Record}
use Rattle.nofs_disk.specs.Tag.{tag_of}
use Rattle.nofs_disk.specs.Pointer.{null, pointer_in}
use Rattle.nofs_inode.specs.InodeRecords.{free_record, record_of, record_at, fields_in, link_in}
use Rattle.nofs_dirent.specs.EntryLaws.{Spells}
use Rattle.nofs_dirent.specs.Names.{is_name}
use Rattle.nofs_dirent.specs.Entries.{entry_in, entry_of, entry_fields, spelled_entry}
use Rattle.nofs_disk.specs.Disk.{cell_at}
use Rattle.nofs_model.specs.Geometry.{inode}
use Rattle.nofs_ptrs.specs.Paths.{Path, InRecord, path_of, slot_of}
use Rattle.nofs_model.specs.Slots.{tag_for, find, record_pointer}
use Rattle.nofs_model.specs.Owners.{IsFree}
use Rattle.nofs_model.specs.declared.image.path.PathAnswer.TheVariants as answer
use Rattle.nofs_model.specs.declared.image.value.Value.TheVariants.{Hole, Bytes}
use Rattle.nofs_history.specs.Search.{least_from}
use Rattle.nofs_history.specs.Machine.{first_dead, place_for, with_entry, is_paired}
use Rattle.nofs_history.specs.History.{FilesMatch}
use Rattle.nofs_history.specs.Claims.{IsClaim, ClaimedInode, NoInode, Claimed, Unclaimed}
use Rattle.nofs_history.specs.declared.machine.steps.Step.TheVariants as step
use Rattle.nofs_crashlaw.specs.Names.NewEntries.{HoleInRecord, Direct}
use Rattle.nofs_crashlaw.specs.Numbers.Cells.{OldNumbers}
use Rattle.nofs_crashlaw.specs.Machine.Examples.{a, b}
use Rattle.nofs_cases.specs.Disks.Images.{z, blank}
use Rattle.nofs_cases.specs.Disks.Worlds.{root_file, label_file, block_two}
use Rattle.nofs_cases.proofs.OnDisks.Images.{plain, nth, root_record, label_record, HasRecords, inode-is, mountable}
use Rattle.nofs_cases.proofs.OnDisks.Images.{data-three}
use Rattle.nofs_cases.proofs.OnDisks.Numbers.{each-number, all_below, none-of}
use Rattle.nofs_cases.proofs.OnDisks.Slots.{ArePlain, pick, slot-is, free-is}
use Rattle.nofs_cases.proofs.OnDisks.Steps.{each-block, tag-is}
use Rattle.nofs_cases.proofs.OnDisks.Matches.{same-empty, same-first, same-none, files-match}
use Rattle.nofs_cases.proofs.OnDisks.Below.{record-low, no-links-low, free-low}
use Rattle.nofs_cases.specs.Names.Disks.{short_entry_bytes, root_block, name_table, drop_table, drop_image, one_link}
use Rattle.nofs_cases.specs.Names.Steps.{entry_named}
use Rattle.nofs_cases.proofs.OnNames.Roots.{file_record, name-records, drop-records, root-inode, root-plain}
use Rattle.nofs_cases.proofs.OnNames.Roots.{root-holds, one-agreed, two-agreed, root-old, root-match}
use Rattle.nofs_cases.proofs.OnDisks.Entries.{is_low, entries-low, no-entries}
use Rattle.nofs_cases.proofs.OnNames.RootSteps.{in-place, hole-in-record, make-lies, link-lies}
use Rattle.nofs_cases.proofs.OnNames.Steps.{spells-b, drop-inode}
use Rattle.nofs_cases.specs.Names.Places.{drop_files, drop_world, again_claims, again_bytes, again_table, again_image}
use Rattle.nofs_cases.specs.Names.Places.{MakeInPlaceCase, full_cell}
use Rattle.nofs_cases.specs.Names.Places.{full_image, full_files, full_world, third_block, hole_claims, hole_table}
use Rattle.nofs_cases.specs.Names.Places.{second_block, hole_image, far_links, LinkInHoleCase}
use Rattle.nofs_cases.proofs.OnNumbers.Homes.{name-low, disk-below}

-- Make in place

drop-match : FilesMatch drop_files drop_image
drop-match = files-match drop_image (root_file (Bytes (z 1024))) (label_file 0 Hole) None
    (ap (λ (r : Record). r.kind) (drop-inode 0))
    (same-first drop_image 1 (root_record (block_two 1)) Folder (block_two 1) (drop-inode 1) refl
    (root-plain drop_table (z 1024) free_record drop-records refl 1)
    (one-agreed drop_table (z 1024) free_record drop-records refl)
    (root-holds drop_table (z 1024) free_record drop-records refl))
    (same-empty drop_image 2 (label_record 0 null) File (drop-inode 2) refl
    (root-plain drop_table (z 1024) free_record drop-records refl 2)
    (two-agreed drop_table (z 1024) free_record drop-records refl))
    (same-none drop_image 3 (ap (λ (r : Record). r.kind) (drop-inode 3)))
    (λ n. ap (λ (r : Record). r.kind) (drop-inode (suc (suc (suc (suc n))))))

abbrev again_record : Record
again_record = plain (2 ^ 40 + 2) (Some File) one_link 0 null

again-records : HasRecords again_table (root_record (block_two 1)) (label_record 0 null) again_record
unfolding record_at record_of fields_in link_in pointer_in number_at
again-records = record { one = refl; two = refl; three = refl; four = refl }

again-inode : (i : ℕ) → inode again_image i ≡ nth (root_record (block_two 1)) (label_record 0 null) again_record i
again-inode i = root-inode again_table (again_bytes ++ z 960) again_record again-records refl i

spells-again : Spells (spelled_entry 3 (2 ^ 40 + 2) a) (record { inode = 3; generation = 2 ^ 40 + 2; name = a })
unfolding spelled_entry put_number put_bytes zeros entry_of entry_fields number_at is_name
spells-again = record { short = refl; reads = refl }

written-again : with_entry (Bytes (z 1024)) 0 (spelled_entry 3 (2 ^ 40 + 2) a) ≡ Bytes (again_bytes ++ z 960)
unfolding with_entry spelled_entry put_number put_bytes zeros
written-again = refl

again-place : place_for drop_files 1 a ≡ Some 0
unfolding place_for first_dead least_from entry_of entry_fields number_at is_name
again-place = refl

again-unpaired : is_paired drop_files 1 0 ≡ false
unfolding entry_of entry_fields number_at is_name
again-unpaired = refl

again-claim : IsClaim drop_world (step.Make 1 1 a File) again_claims
unfolding place_for first_dead least_from path_of entry_of entry_fields number_at is_name
again-claim = record {
  inode = ClaimedInode refl (omega arith) (omega arith) refl;
  cell = Unclaimed refl;
  leaf = Unclaimed refl;
  top = Unclaimed refl;
  apart = tt;
}

drop-numbers : OldNumbers drop_world drop_image
drop-numbers = record {
  positive = omega arith;
  mountable = mountable drop_table (root_block (z 1024)) blank;
  below = disk-below drop_table (z 1024) free_record refl drop-records (record {
    one = record-low (2 ^ 40 + 2) (root_record (block_two 1)) (block_two 1) refl (omega arith)
        (no-links-low (2 ^ 40 + 2) (omega arith)) (omega arith);
    two = record-low (2 ^ 40 + 2) (label_record 0 null) null refl (omega arith)
        (no-links-low (2 ^ 40 + 2) (omega arith)) (omega arith);
    three = free-low (2 ^ 40 + 2) (omega arith);
  }) (λ j lt. subst (λ (o : Option Entry). IfSome o (λ e. e.generation < 2 ^ 40 + 2)) (sym (no-entries j lt)) tt);
}

pub make-in-place-case : MakeInPlaceCase
unfolding path_of
make-in-place-case = (
  make-lies drop_files drop_image again_image (Bytes (z 1024)) 0 (2 ^ 40 + 2) (record {
    files = drop-match;
    root = refl;
    old = root-old drop_table (z 1024) free_record drop-records refl;
  }) (2 ^ 40 + 2) null null refl (omega arith) again-unpaired (omega arith) spells-again (again-inode 3),
  in-place drop_table again_table (z 1024)
      (again_bytes ++ z 960) free_record again_record drop-records again-records refl 0 (spelled_entry 3 (2 ^ 40 + 2) a)
      refl
      refl (sym written-again),
  again-place,
  again-claim,
  drop-numbers,
)

-- Link in a hole

-- each entry of the cell has the generation of inode 3
full-entries : all_below (λ j. is_low (2 ^ 40 + 2) (entry_in full_cell j)) 16 ≡ true
unfolding all_below is_low entry_of entry_fields number_at is_name
full-entries = refl

full-first : entry_in full_cell 0 ≡ Some (entry_named a)
unfolding entry_of entry_fields number_at is_name
full-first = refl

full-match : FilesMatch full_files full_image
full-match = root-match name_table full_cell one_link name-records (0, omega arith, refl) full-first

full-inode : (i : ℕ)
    → inode full_image i ≡ nth (root_record (block_two 1)) (label_record 0 null) (file_record one_link) i
full-inode i = root-inode name_table full_cell (file_record one_link) name-records refl i

-- the root with two blocks
abbrev wide_record : Record
wide_record =
    record (root_record (block_two 1)) {
      direct = block_two 1 ∷ third_block ∷ null ∷ null ∷ null ∷ null ∷ null ∷ null ∷ [];
    }

hole-records : HasRecords hole_table wide_record (label_record 0 null) (file_record far_links)
unfolding record_at record_of fields_in link_in pointer_in number_at
hole-records = record { one = refl; two = refl; three = refl; four = refl }

hole-inode : (i : ℕ) → inode hole_image i ≡ nth wide_record (label_record 0 null) (file_record far_links) i
hole-inode i = inode-is hole_table (root_block full_cell) second_block wide_record (label_record 0 null)
    (file_record far_links) hole-records i

second-tag : tag_of second_block.tag
    ≡ Some (record { kind = Directory; inode = 1; generation = 1; slot = 1; stamp = 2 ^ 40 + 2 })
unfolding tag_of number_at
second-tag = refl

second-slot : tag_of second_block.tag ≡ Some (tag_for hole_image 1 (InRecord 1) (2 ^ 40 + 2))
unfolding slot_of
second-slot = tag-is hole_image 1 (InRecord 1) wide_record second_block (2 ^ 40 + 2) (hole-inode 1) second-tag

linked-far : with_entry Hole 16 (spelled_entry 3 (2 ^ 40) b) ≡ Bytes (short_entry_bytes 98 ++ z 960)
unfolding with_entry spelled_entry put_number put_bytes zeros
linked-far = refl

hole-unpaired : is_paired full_files 1 16 ≡ false
unfolding entry_of entry_fields number_at is_name
hole-unpaired = refl

hole-place : place_for full_files 1 b ≡ Some 16
unfolding place_for first_dead least_from entry_of entry_fields number_at is_name
hole-place = refl

hole-claim : IsClaim full_world (step.Link 1 1 b 3 (2 ^ 40)) hole_claims
unfolding place_for first_dead least_from path_of entry_of entry_fields number_at is_name
hole-claim = record {
  cell = Claimed refl (omega arith) refl;
  leaf = Unclaimed refl;
  top = Unclaimed refl;
  apart = ((λ y c. absurd (none-of c)), tt);
  inode = NoInode refl refl;
}

full-plain : ArePlain full_image (pick (block_two 1) null null)
full-plain = root-plain name_table full_cell (file_record one_link) name-records refl

-- slot 1 of the root is empty
second-empty : find full_image 1 (InRecord 1) ≡ answer.Hole
second-empty = elim (slot-is full_image 1 (block_two 1) (full-plain 1) (InRecord 1) (omega arith)) [
  | inl e ↦ absurd (first e)
  | inr hole ↦ hole
]
  where
    place : Path → ℕ
    place (InRecord n) = n
    place _ = 0

    first : InRecord 1 ≡ InRecord 0 → ⊥
    first e = let n : 1 ≡ 0 = ap place e in omega (arith, n)

block-three-free : IsFree full_image 3
block-three-free = free-is full_image (pick (block_two 1) null null) 3 full-plain
    (each-number (λ i. (pick (block_two 1) null null i).block ≡ 3 → pick (block_two 1) null null i ≡ null) (λ e. refl)
    (λ e. absurd (omega (arith, e)))
    (λ e. refl) (λ e. refl) (λ n e. refl))

far-hole : HoleInRecord (2 ^ 40 + 2) full_image hole_image 1 3 1 third_block
far-hole = hole-in-record name_table (root_block full_cell) blank hole_table (root_block full_cell) second_block
    (root_record (block_two 1)) wide_record
    (file_record one_link) (file_record far_links) name-records hole-records (2 ^ 40 + 2) 1 third_block refl
    (record {
      free = block-three-free;
      area = data-three name_table (root_block full_cell) blank;
      fresh = omega arith;
      tag = second-slot;
    })
    (each-block (λ p. p ≢ 3 → cell_at hole_image p ≡ cell_at full_image p) name_table (root_block full_cell) blank
    (λ ne. refl) (λ ne. absurd (ne refl))
    (λ n ne. refl))
    refl pointers
  where
    pointers : (n : ℕ) → n ≢ 1 → record_pointer wide_record n ≡ record_pointer (root_record (block_two 1)) n
    pointers zero ne = refl
    pointers (suc zero) ne = absurd (ne refl)
    pointers (suc (suc m)) ne = refl

full-numbers : OldNumbers full_world full_image
full-numbers = record {
  positive = omega arith;
  mountable = mountable name_table (root_block full_cell) blank;
  below = disk-below name_table full_cell (file_record one_link) refl name-records (name-low (2 ^ 40 + 2) (omega arith))
      (entries-low (2 ^ 40 + 2) full_cell full-entries);
}

pub link-in-hole-case : LinkInHoleCase
unfolding path_of
link-in-hole-case = (
  link-lies full_files full_image hole_image (Bytes full_cell) 16 (2 ^ 40 + 2) (record {
    files = full-match;
    root = refl;
    old = root-old name_table full_cell (file_record one_link) name-records refl;
  }) spells-b refl (omega arith) hole-unpaired (full-inode 3) (hole-inode 3),
  record { empty = second-empty; claimed = Direct (omega arith) far-hole; content = sym linked-far },
  record { place = hole-place; cell = refl; leaf = λ e. cc e },
  hole-claim,
  full-numbers,
)

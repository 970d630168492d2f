-- The numbers in the cells that a Put, a Make, a Link and a Drop write.
use Rattle.std.proofs.Common.{◌≡◌, ℕ, zero, suc, ◌+◌, ◌-◌, ◌%◌, ◌^◌, ◌<◌, ◌≤◌, inl, true, List, [], ◌∷◌, ◌++◌, Option}
use Rattle.std.proofs.Common.{Some, IfSome, Contains, refl, sym, ap, ◌∙◌, subst, arith}
use Rattle.nofs_disk.specs.declared.tag.Cell.{Cell}
use Rattle.nofs_dirent.specs.declared.entry.Entry.{Entry}
use Rattle.nofs_disk.specs.declared.tag.Pointer.{Pointer}
use Rattle.nofs_inode.specs.declared.inode.BackLink.{BackLink}
use Rattle.nofs_inode.specs.declared.inode.Record.{Record}
use Rattle.nofs_inode.specs.InodeRecords.{record_at, is_live, free_record}
use Rattle.nofs_disk.specs.Tag.{tag_of}
use Rattle.nofs_disk.specs.Pointer.{null}
use Rattle.nofs_model.specs.Geometry.{Image, inode, is_inode}
use Rattle.nofs_ptrs.specs.Paths.{InRecord}
use Rattle.nofs_model.specs.Slots.{tag_for, kind_in, pointer, record_pointer}
use Rattle.nofs_history.specs.World.{World}
use Rattle.nofs_history.specs.Claims.{no_claims}
use Rattle.nofs_history.specs.declared.machine.history.Claims.{Claims}
use Rattle.nofs_crashlaw.specs.Maps.Fresh.{Numbered, Old}
use Rattle.nofs_crashlaw.specs.Maps.Pieces.{PointerFrom, Before, Claimed, Empty}
use Rattle.nofs_crashlaw.specs.Numbers.Cells.{Held, Zeros, RecordWritten, AsBefore, Changed, Made, Freed}
use Rattle.nofs_cases.specs.Disks.Images.{z, blank, first_table, first_image, put_table, put_block, image_of}
use Rattle.nofs_cases.specs.Disks.Worlds.{first_world, block_two}
use Rattle.nofs_cases.specs.Steps.Files.{put_claims}
use Rattle.nofs_cases.proofs.OnDisks.Images.{root_record, label_record, HasRecords, put-records, data-two, table-tag}
use Rattle.nofs_cases.proofs.OnDisks.Slots.{IsPlain, others-null, no-pointers}
use Rattle.nofs_cases.proofs.OnDisks.Matches.{first-tag}
use Rattle.nofs_cases.proofs.OnDisks.Below.{range-is}
use Rattle.nofs_cases.proofs.OnSteps.Files.{first-inode, put-slot, put-inode}
use Rattle.nofs_cases.specs.Names.Disks.{short_entry_bytes, root_block, name_table, name_image, name_world}
use Rattle.nofs_cases.specs.Names.Disks.{drop_table, one_link}
use Rattle.nofs_cases.specs.Names.Steps.{make_claims}
use Rattle.nofs_cases.proofs.OnNames.Roots.{file_record, name-records, drop-records, root-tag}
use Rattle.nofs_cases.proofs.OnNames.Steps.{spells-a, spells-b, written-a, linked, name-inode, name-holds, entries-case}
use Rattle.nofs_cases.specs.Numbers.Cells.{ContentCellCase, EntryInHoleCase, EntryInPlaceCase, TableChangedCase}
use Rattle.nofs_cases.specs.Numbers.Cells.{TableMadeCase, TableFreedCase}
use Rattle.nofs_cases.proofs.OnNumbers.Homes.{first-numbers, name-numbers}

-- A claimed block is one of the step's
only : (x : Pointer) → Contains (x ∷ []) x
only x = (0, omega arith, refl)

-- Content

put-tag-first : tag_of (put_block 7).tag ≡ Some (tag_for first_image 2 (InRecord 0) (2 ^ 40))
put-tag-first = put-slot 7 ∙ ap Some
    (first-tag (image_of put_table (put_block 7) blank) 2 (label_record 1 (block_two 0)) (2 ^ 40) (put-inode 7 2))
    ∙ sym (ap Some (first-tag first_image 2 (label_record 0 null) (2 ^ 40) (first-inode 2)))

pub content-cell-case : ContentCellCase
content-cell-case = (
  first-numbers,
  record {
    live = ap is_live (first-inode 2);
    slot = omega arith;
    area = data-two first_table blank blank;
    tag = put-tag-first;
    from = Claimed (only (block_two 0));
  },
  ap (λ (r : Record). kind_in r (InRecord 0)) (first-inode 2),
)

-- A directory's cell

make-tag : tag_of (root_block (short_entry_bytes 97 ++ z 960)).tag ≡ Some
    (tag_for first_image 1 (InRecord 0) (2 ^ 40 + 1))
make-tag = root-tag (short_entry_bytes 97 ++ z 960)
    ∙ sym (ap Some (first-tag first_image 1 (root_record null) (2 ^ 40 + 1) (first-inode 1)))

pub entry-in-hole-case : EntryInHoleCase
entry-in-hole-case = (
  first-numbers,
  record {
    live = ap is_live (first-inode 1);
    slot = omega arith;
    area = data-two first_table blank blank;
    tag = make-tag;
    from = Claimed (only (block_two 1));
  },
  ap (λ (r : Record). kind_in r (InRecord 0)) (first-inode 1),
  record { before = Zeros refl; whole = spells-a.short; content = sym written-a; number = entries-case.3 },
)

link-tag : tag_of (root_block (short_entry_bytes 97 ++ short_entry_bytes 98 ++ z 896)).tag ≡ Some
    (tag_for name_image 1 (InRecord 0) (2 ^ 40 + 1))
link-tag = root-tag (short_entry_bytes 97 ++ short_entry_bytes 98 ++ z 896)
    ∙ sym (ap Some (first-tag name_image 1 (root_record (block_two 1)) (2 ^ 40 + 1) (name-inode 1)))

name-pointer : pointer name_image 1 (InRecord 0) ≡ block_two 1
name-pointer = ap (λ (r : Record). record_pointer r 0) (name-inode 1)

pub entry-in-place-case : EntryInPlaceCase
entry-in-place-case = (
  name-numbers,
  record {
    from = Before name-pointer;
    live = ap is_live (name-inode 1);
    slot = omega arith;
    area = data-two name_table (root_block (short_entry_bytes 97 ++ z 960)) blank;
    tag = link-tag;
  },
  ap (λ (r : Record). kind_in r (InRecord 0)) (name-inode 1),
  record {
    before = Held (block_two 1) name-holds refl refl;
    whole = spells-b.short;
    content = sym linked;
    number = subst (λ (o : Option Entry). IfSome o (λ (n : Entry). Numbered name_world no_claims n.generation))
        (sym spells-b.reads) (Old (omega arith));
  },
)

-- Tables

-- each record of the one cell of the table is written or as before
table-written : (W : World) (c : Claims) (X : Image) (t : Cell) (p q r : Record) → HasRecords t p q r
    → (x y u : Cell) → X ≡ image_of u x y
    → RecordWritten W c X 1 p → RecordWritten W c X 2 q → RecordWritten W c X 3 r → (j : ℕ) → is_inode X j ≡ true
    → RecordWritten W c X j (record_at t.payload ((j - 1) % 4))
table-written W c X t p q r h x y u e one two three j range =
    go j (range-is u x y j (subst (λ (Z : Image). is_inode Z j ≡ true) e range))
  where
    go : (j : ℕ) → (1 ≤ j) × (j ≤ 4) → RecordWritten W c X j (record_at t.payload ((j - 1) % 4))
    go zero n = absurd (omega (arith, n))
    go (suc zero) n = subst (RecordWritten W c X 1) (sym h.one) one
    go (suc (suc zero)) n = subst (RecordWritten W c X 2) (sym h.two) two
    go (suc (suc (suc zero))) n = subst (RecordWritten W c X 3) (sym h.three) three
    go (suc (suc (suc (suc zero)))) n = subst (RecordWritten W c X 4) (sym h.four) (Freed refl)
    go (suc (suc (suc (suc (suc m))))) n = absurd (omega (arith, n))

-- a record whose first pointer is claimed, and which has no other
grown : (W : World) (c : Claims) (X : Image) (j : ℕ) (r : Record) (x : Pointer) → IsPlain r x
    → is_live (inode X j) ≡ true
    → r.generation ≡ (inode X j).generation → r.links ≡ (inode X j).links → PointerFrom c X j (InRecord 0) x
    → RecordWritten W c X j r
grown W c X j r x is live gen links first = Changed (record {
  live = live;
  generation = gen;
  links = λ l has. inl (subst (λ (ls : List BackLink). Contains ls l) links has);
  pointers = each;
})
  where
    each : (n : ℕ) → n < 10 → PointerFrom c X j (InRecord n) (record_pointer r n)
    each zero lt = subst (PointerFrom c X j (InRecord 0)) (sym (ap (λ (q : Record). record_pointer q 0) is)) first
    each (suc m) lt = Empty (others-null r x is m)

pub table-changed-case : TableChangedCase
table-changed-case = (
  first-numbers,
  table-tag,
  λ j range e. table-written first_world put_claims first_image put_table (root_record null)
      (label_record 1 (block_two 0)) free_record put-records blank
      blank first_table refl
      (AsBefore (sym (first-inode 1)))
      (grown first_world put_claims first_image 2 (label_record 1 (block_two 0)) (block_two 0) refl
      (ap is_live (first-inode 2))
      (sym (ap (λ (r : Record). r.generation) (first-inode 2))) (sym (ap (λ (r : Record). r.links) (first-inode 2)))
      (Claimed (only (block_two 0))))
      (Freed refl) j range,
)

-- the links of the new record lead to the root
new-links : (l : BackLink) → Contains one_link l → Numbered first_world make_claims l.generation
new-links l (zero, lt, e) = Old (let g : 1 ≡ l.generation = ap (λ (q : BackLink). q.generation) e in omega (arith, g))
new-links l (suc zero, lt, e) =
    Old (let g : 0 ≡ l.generation = ap (λ (q : BackLink). q.generation) e in omega (arith, g))
new-links l (suc (suc zero), lt, e) =
    Old (let g : 0 ≡ l.generation = ap (λ (q : BackLink). q.generation) e in omega (arith, g))
new-links l (suc (suc (suc zero)), lt, e) =
    Old (let g : 0 ≡ l.generation = ap (λ (q : BackLink). q.generation) e in omega (arith, g))
new-links l (suc (suc (suc (suc k))), lt, e) = absurd (omega (arith, lt))

pub table-made-case : TableMadeCase
table-made-case = (
  first-numbers,
  table-tag,
  λ j range e. table-written first_world make_claims first_image name_table (root_record (block_two 1))
      (label_record 0 null) (file_record one_link)
      name-records blank blank first_table refl
      (grown first_world make_claims first_image 1 (root_record (block_two 1)) (block_two 1) refl
      (ap is_live (first-inode 1))
      (sym (ap (λ (r : Record). r.generation) (first-inode 1))) (sym (ap (λ (r : Record). r.links) (first-inode 1)))
      (Claimed (only (block_two 1))))
      (AsBefore (sym (first-inode 2)))
      (Made (record {
        claimed = λ e. omega (arith, e);
        generation = refl;
        links = new-links;
        pointers = λ n lt. no-pointers (file_record one_link) refl n;
      })) j
      range,
)

pub table-freed-case : TableFreedCase
table-freed-case = (
  name-numbers,
  table-tag,
  λ j range e. table-written name_world no_claims name_image drop_table (root_record (block_two 1))
      (label_record 0 null) free_record drop-records
      (root_block (short_entry_bytes 97 ++ z 960)) blank name_table refl
      (AsBefore (sym (name-inode 1))) (AsBefore (sym (name-inode 2))) (Freed refl) j range,
)

-- The disk with one name: its slots, and the machine's files on it.
use Rattle.std.proofs.Common.{◌≡◌, ◌≢◌, ℕ, zero, suc, ◌+◌, ◌-◌, ◌*◌, ◌^◌, ◌<◌, ◌≤◌, inl, inr, true, false, eqb, ltb}
use Rattle.std.proofs.Common.{lt-ltb, le-ltb, ◌++◌, Some, None, refl, sym, ap, ◌∙◌, subst, arith}
use Rattle.std.proofs.lemmas.Bool.{cases_lt}
use Rattle.nofs_inode.specs.declared.inode.FileKind.TheVariants.{File, Directory as Folder}
use Rattle.nofs_disk.specs.Disk.{IsSizedCell}
use Rattle.nofs_inode.specs.declared.inode.FileKind.{FileKind}
use Rattle.nofs_disk.specs.declared.tag.Pointer.{Pointer}
use Rattle.nofs_inode.specs.declared.inode.Record.{Record}
use Rattle.nofs_super.specs.declared.superblock.SuperBlock.{SuperBlock}
use Rattle.nofs_disk.specs.Pointer.{null}
use Rattle.nofs_ptrs.specs.Paths.{slot_limit, InRecord, Under, child, path_of, slot_of}
use Rattle.nofs_model.specs.Geometry.{super_at, inode}
use Rattle.nofs_model.specs.Slots.{record_pointer, find, value, value_in}
use Rattle.nofs_model.specs.Files.{node_in, FileState, Files, files_in, agreed}
use Rattle.nofs_model.specs.Sound.{IsBelow}
use Rattle.nofs_model.specs.declared.image.path.PathAnswer.{PathAnswer}
use Rattle.nofs_model.specs.declared.image.path.PathAnswer.TheVariants as answer
use Rattle.nofs_model.specs.declared.image.value.Value.{Value}
use Rattle.nofs_model.specs.declared.image.value.Value.TheVariants.{Hole, Bytes}
use Rattle.nofs_model.proofs.OnSlots.Find.{judged-built-null}
use Rattle.nofs_ptrs.specs.PathLaws.{path_of-slot, slot_of-path_of}
use Rattle.nofs_history.specs.Since.{agreed_files}
use Rattle.nofs_crashlaw.specs.Runs.Bases.{IsBase}
use Rattle.nofs_crashlaw.specs.Machine.Worlds.{first_slot}
use Rattle.nofs_cases.specs.Disks.Images.{z, blank}
use Rattle.nofs_cases.specs.Disks.Worlds.{three_files, block_two}
use Rattle.nofs_cases.proofs.OnDisks.Images.{root_record, label_record, numbers-are, mountable}
use Rattle.nofs_cases.proofs.OnDisks.Slots.{IsPlain, pick, ArePlain, others-null, slot-is, empty-value}
use Rattle.nofs_cases.proofs.OnDisks.Matches.{agreed-file, none-is, first-value}
use Rattle.nofs_cases.specs.Names.Disks.{short_entry_bytes, root_block, name_table, name_image, one_link}
use Rattle.nofs_cases.proofs.OnNames.Roots.{file_record, name-records, root-plain, root-holds, one-agreed, two-agreed}
use Rattle.nofs_cases.proofs.OnNames.Roots.{three-agreed, first-entry}
use Rattle.nofs_cases.proofs.OnNames.Steps.{name-inode}
use Rattle.nofs_cases.proofs.OnNumbers.Homes.{name-below}
use Rattle.nofs_cases.proofs.OnCrashes.Put.{sized-cell, sized-image}

-- The base

sized-table : IsSizedCell name_table
sized-table = sized-cell name_table refl refl refl refl

sized-entries : IsSizedCell (root_block (short_entry_bytes 97 ++ z 960))
sized-entries = sized-cell (root_block (short_entry_bytes 97 ++ z 960)) refl refl refl refl

mount-is : (super_at name_image).mount ≡ 1
mount-is = ap (λ (n : SuperBlock). n.mount) (numbers-are name_table (root_block (short_entry_bytes 97 ++ z 960)) blank)

pub name-base : IsBase name_image 2
name-base = record {
  mountable = mountable name_table (root_block (short_entry_bytes 97 ++ z 960)) blank;
  sized = λ c lt. sized-image name_table (root_block (short_entry_bytes 97 ++ z 960)) sized-table sized-entries c lt;
  mount = omega (arith, mount-is);
  serial = omega arith;
  positive = omega (arith, mount-is);
  below = subst (λ (n : ℕ). IsBelow (n * 2 ^ 40 + 2) name_image) (sym mount-is) name-below;
}

-- Its files, whatever number a slot has

plain : ArePlain name_image (pick (block_two 1) null null)
plain = root-plain name_table (short_entry_bytes 97 ++ z 960) (file_record one_link) name-records refl

past : (k : ℕ) → slot_limit ≤ k → k < 2 ^ 32 + 2 → path_of k ≡ InRecord (8 + (k - 2 ^ 32))
unfolding path_of
past k low high =
    rw (le-ltb k 8 (omega arith), le-ltb k 72 (omega arith), le-ltb k slot_limit low, lt-ltb k (2 ^ 32 + 2) high)

beyond : (k : ℕ) → 2 ^ 32 + 2 ≤ k → path_of k ≡ child (k - (2 ^ 32 + 2))
unfolding path_of
beyond k low = rw
    (le-ltb k 8 (omega arith), le-ltb k 72 (omega arith), le-ltb k slot_limit (omega arith), le-ltb k (2 ^ 32 + 2) low)

first-alone : (k : ℕ) → k < slot_limit → path_of k ≡ InRecord 0 → k ≡ 0
unfolding slot_of
first-alone k lt e = sym (slot_of-path_of k lt) ∙ ap slot_of e

-- nothing stands under a slot that is empty
below-empty : (i n j : ℕ)
    → find name_image i (InRecord n) ≡ answer.Hole → find name_image i (Under (InRecord n) j) ≡ answer.Hole
below-empty i n j e = rw (e, find) refl

module _ (i : ℕ) (x : Pointer) (is : IsPlain (inode name_image i) x) where
  in-record : (n : ℕ) → n ≢ 0 → find name_image i (InRecord n) ≡ answer.Hole
  in-record zero ne = absurd (ne refl)
  in-record (suc m) ne = judged-built-null name_image i (InRecord (suc m)) (record_pointer (inode name_image i) (suc m))
      (others-null (inode name_image i) x is m)

  -- a slot other than slot 0 is empty
  empty-slot : (k : ℕ) → k ≢ 0 → find name_image i (path_of k) ≡ answer.Hole
  empty-slot k ne = elim (cases_lt k slot_limit) [
    | inl lt ↦ elim (slot-is name_image i x is (path_of k) (path_of-slot k lt))
        [ inl e ↦ absurd (ne (first-alone k lt e)) | inr hole ↦ hole ]
    | inr low ↦ elim (cases_lt k (2 ^ 32 + 2)) [
      | inl high ↦ ap (find name_image i) (past k low high) ∙ in-record (8 + (k - 2 ^ 32)) (λ e. omega (arith, e))
      | inr far ↦ ap (find name_image i) (beyond k far)
          ∙ below-empty i 9 (k - (2 ^ 32 + 2)) (in-record 9 (λ e. omega (arith, e)))
    ]
  ]

  any-value : (v : Value) → value name_image i 0 ≡ v → (k : ℕ) → value name_image i k ≡ first_slot v k
  any-value v e zero = e
  any-value v e (suc m) = ap (λ (f : PathAnswer). value_in name_image f) (empty-slot (suc m) (λ q. omega (arith, q)))
      ∙ rw (not-first m) refl
    where
      not-first : (m : ℕ) → eqb (suc m) 0 ≡ false
      not-first m = grind arith

-- a file of this disk, with a value in slot 0
abbrev pub file_here : ℕ → Record → FileKind → Value → FileState
file_here i r kind v = record {
  generation = r.generation;
  kind = kind;
  size = r.size;
  links = r.links;
  values = first_slot v;
  nodes = λ p. node_in (find name_image i p);
}

here-is : (i : ℕ) (x : Pointer) (r : Record) (kind : FileKind) (v : Value) → IsPlain (inode name_image i) x
    → inode name_image i ≡ r → r.kind ≡ Some kind
    → agreed (files_in name_image) i ≡ true → value name_image i 0 ≡ v
    → agreed_files name_image i ≡ Some (file_here i r kind v)
here-is i x r kind v is e k agreed first =
    agreed-file name_image i kind (ap (λ (q : Record). q.kind) e ∙ k) agreed
    ∙ (λ j. Some (record {
      generation = (e j).generation;
      kind = kind;
      size = (e j).size;
      links = (e j).links;
      values = λ n. any-value i x is v first n j;
      nodes = λ p. node_in (find name_image i p);
    }))

-- the root, the label file, and inode 3
abbrev pub move_files : Files
move_files = three_files (file_here 1 (root_record (block_two 1)) Folder (Bytes (short_entry_bytes 97 ++ z 960)))
    (file_here 2 (label_record 0 null) File Hole)
    (Some (file_here 3 (file_record one_link) File Hole))

empty-first : (i : ℕ) → IsPlain (inode name_image i) null → value name_image i 0 ≡ Hole
empty-first i is = empty-value name_image i is 0 (omega arith)

pub each-file : (i : ℕ) → agreed_files name_image i ≡ move_files i
each-file zero = none-is name_image 0 (ap (λ (r : Record). r.kind) (name-inode 0))
each-file (suc zero) = here-is 1 (block_two 1) (root_record (block_two 1)) Folder
    (Bytes (short_entry_bytes 97 ++ z 960)) (plain 1) (name-inode 1) refl
    (one-agreed name_table (short_entry_bytes 97 ++ z 960) (file_record one_link) name-records refl)
    (sym (first-value name_image 1 (block_two 1) (plain 1)
    (root-holds name_table (short_entry_bytes 97 ++ z 960) (file_record one_link) name-records refl) 0
    (omega arith)))
each-file (suc (suc zero)) = here-is 2 null (label_record 0 null) File Hole (plain 2) (name-inode 2) refl
    (two-agreed name_table (short_entry_bytes 97 ++ z 960) (file_record one_link) name-records refl)
    (empty-first 2 (plain 2))
each-file (suc (suc (suc zero))) = here-is 3 null (file_record one_link) File Hole (plain 3) (name-inode 3) refl
    (three-agreed name_table (short_entry_bytes 97 ++ z 960) one_link name-records (0, omega arith, refl) first-entry)
    (empty-first 3 (plain 3))
each-file (suc (suc (suc (suc n)))) =
    none-is name_image (suc (suc (suc (suc n)))) (ap (λ (r : Record). r.kind) (name-inode (suc (suc (suc (suc n))))))
    ∙ sym (no-file n)
  where
    apart : (n k : ℕ) → k < 4 → eqb (suc (suc (suc (suc n)))) k ≡ false
    apart n k lt = grind (arith, lt)

    no-file : (n : ℕ) → move_files (suc (suc (suc (suc n)))) ≡ None
    no-file n = rw (apart n 1 (omega arith), apart n 2 (omega arith), apart n 3 (omega arith)) refl

pub files-are : agreed_files name_image ≡ move_files
files-are = λ j i. each-file i j

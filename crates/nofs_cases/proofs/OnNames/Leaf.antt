-- A Make with a claimed block and a claimed leaf.
use Rattle.std.proofs.Common.{◌≡◌, ◌≢◌, ℕ, ◌+◌, ◌^◌, ◌++◌, Some, refl, sym, ap, ◌∙◌, arith}
use Rattle.nofs_disk.specs.Number.{put_number, put_bytes, zeros, number_at}
use Rattle.nofs_disk.specs.declared.tag.Kind.TheVariants.{Directory, Leaf}
use Rattle.nofs_inode.specs.declared.inode.Record.{Record}
use Rattle.nofs_disk.specs.Tag.{tag_of}
use Rattle.nofs_disk.specs.Pointer.{null, pointer_in}
use Rattle.nofs_ptrs.specs.Cells.{pointer_at}
use Rattle.nofs_inode.specs.InodeRecords.{record_of, record_at, fields_in, link_in, free_record}
use Rattle.nofs_dirent.specs.Entries.{spelled_entry}
use Rattle.nofs_disk.specs.Disk.{cell_at}
use Rattle.nofs_model.specs.Geometry.{inode}
use Rattle.nofs_ptrs.specs.Paths.{Under, leaf, path_of, slot_of}
use Rattle.nofs_model.specs.Slots.{tag_for, record_pointer}
use Rattle.nofs_model.specs.declared.image.value.Value.TheVariants.{Hole, Bytes}
use Rattle.nofs_history.specs.Machine.{with_entry}
use Rattle.nofs_crashlaw.specs.Names.NewEntries.{HoleWithLeaf, WithLeaf, first_links}
use Rattle.nofs_crashlaw.specs.Machine.Examples.{a}
use Rattle.nofs_cases.specs.Disks.Images.{z, blank, first_table, first_image}
use Rattle.nofs_cases.specs.Disks.Worlds.{first_files, block_two}
use Rattle.nofs_cases.proofs.OnDisks.Images.{nth, root_record, label_record, HasRecords, inode-is, data-two, data-three}
use Rattle.nofs_cases.proofs.OnDisks.Steps.{each-block, tag-is, but-one-and-three, but-leaf, same-meta}
use Rattle.nofs_cases.proofs.OnDisks.Leaves.{other-pointer}
use Rattle.nofs_cases.proofs.OnSteps.Files.{first-inode, first-empty, first-free}
use Rattle.nofs_cases.specs.Names.Disks.{short_entry_bytes}
use Rattle.nofs_cases.proofs.OnNames.Roots.{file_record}
use Rattle.nofs_cases.proofs.OnNames.RootSteps.{make-lies}
use Rattle.nofs_cases.proofs.OnNames.Steps.{spells-a, first-ready}
use Rattle.nofs_cases.specs.Names.Leaf.{deep_table, deep_entries, root_leaf, deep_image, leaf_pointer, DeepMakeCase}

-- The disk

abbrev deep_root : Record
deep_root = record (root_record null) { leaf = leaf_pointer }

abbrev deep_file : Record
deep_file = file_record (first_links 1 128 1)

deep-records : HasRecords deep_table deep_root (label_record 0 null) deep_file
unfolding record_at record_of fields_in link_in pointer_in number_at
deep-records = record { one = refl; two = refl; three = refl; four = refl }

deep-inode : (i : ℕ) → inode deep_image i ≡ nth deep_root (label_record 0 null) deep_file i
deep-inode i = inode-is deep_table deep_entries root_leaf deep_root (label_record 0 null) deep_file deep-records i

entries-tag : tag_of deep_entries.tag
    ≡ Some (record { kind = Directory; inode = 1; generation = 1; slot = 8; stamp = 2 ^ 40 + 1 })
unfolding tag_of number_at
entries-tag = refl

entries-slot : tag_of deep_entries.tag ≡ Some (tag_for deep_image 1 (Under leaf 0) (2 ^ 40 + 1))
unfolding slot_of
entries-slot = tag-is deep_image 1 (Under leaf 0) deep_root deep_entries (2 ^ 40 + 1) (deep-inode 1) entries-tag

leaf-tag : tag_of root_leaf.tag
    ≡ Some (record { kind = Leaf; inode = 1; generation = 1; slot = 2 ^ 32; stamp = 2 ^ 40 + 2 })
unfolding tag_of number_at
leaf-tag = refl

leaf-slot : tag_of root_leaf.tag ≡ Some (tag_for deep_image 1 leaf (2 ^ 40 + 2))
unfolding slot_of
leaf-slot = tag-is deep_image 1 leaf deep_root root_leaf (2 ^ 40 + 2) (deep-inode 1) leaf-tag

-- The pointers of the leaf

first-pointer : pointer_at root_leaf.payload 0 ≡ block_two 1
unfolding pointer_at pointer_in number_at
first-pointer = refl

-- The hole

with-leaf : HoleWithLeaf (2 ^ 40) first_image deep_image 1 3 0 (block_two 1) leaf_pointer
with-leaf = record {
  super = refl;
  records = λ j n1 n3. deep-inode j ∙ but-one-and-three deep_root (root_record null)
      (label_record 0 null) deep_file free_record j n1 n3 ∙ sym (first-inode j);
  empty = first-empty 1 leaf (omega arith);
  cell =
      record { free = first-free 2; area = data-two first_table blank blank; fresh = omega arith; tag = entries-slot };
  above =
      record { free = first-free 3; area = data-three first_table blank blank; fresh = omega arith; tag = leaf-slot };
  blocks = each-block (λ p. p ≢ 2 → p ≢ 3 → cell_at deep_image p ≡ cell_at first_image p) first_table blank blank
      (λ n2 n3. absurd (n2 refl))
      (λ n2 n3. absurd (n3 refl)) (λ n n2 n3. refl);
  meta = same-meta first_image deep_image 1 (root_record null) deep_root (first-inode 1) (deep-inode 1) refl;
  leaf_is = ap (λ (r : Record). record_pointer r 8) (deep-inode 1);
  others = λ m ne. ap (λ (r : Record). record_pointer r m) (deep-inode 1)
      ∙ but-leaf (root_record null) leaf_pointer m ne
      ∙ sym (ap (λ (r : Record). record_pointer r m) (first-inode 1));
  pointer = first-pointer;
  pointers = other-pointer 1;
}

-- The Make

written-a : with_entry Hole 128 (spelled_entry 3 (2 ^ 40) a) ≡ Bytes (short_entry_bytes 97 ++ z 960)
unfolding with_entry spelled_entry put_number put_bytes zeros
written-a = refl

pub deep-make-case : DeepMakeCase
unfolding path_of
deep-make-case = (
  make-lies first_files first_image deep_image Hole 128 (2 ^ 40) first-ready (2 ^ 40) (block_two 1) leaf_pointer refl
      (omega arith) refl (omega arith) spells-a
      (deep-inode 3),
  record {
    empty = first-empty 1 (Under leaf 0) (refl, omega arith, omega arith);
    claimed = WithLeaf (omega arith) (omega arith) with-leaf;
    content =
        sym written-a;
  },
)

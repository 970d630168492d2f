-- A Put with a claimed block and a claimed leaf.
use Rattle.std.proofs.Common.{◌≡◌, ℕ, ◌+◌, ◌^◌, ◌⊎◌, inl, inr, true, false, eqb, [], ◌∷◌, Some, refl, sym, ap, ◌∙◌}
use Rattle.std.proofs.Common.{subst, arith}
use Rattle.nofs_disk.specs.Number.{put_bytes, number_at}
use Rattle.nofs_disk.specs.declared.tag.Kind.TheVariants.{Content, Leaf}
use Rattle.nofs_disk.specs.declared.tag.Pointer.{Pointer}
use Rattle.nofs_inode.specs.declared.inode.Record.{Record}
use Rattle.nofs_disk.specs.Tag.{tag_of}
use Rattle.nofs_disk.specs.Pointer.{null, is_null, pointer_in}
use Rattle.nofs_ptrs.specs.Cells.{pointer_at}
use Rattle.nofs_inode.specs.InodeRecords.{record_of, record_at, fields_in, link_in, free_record}
use Rattle.nofs_disk.specs.Disk.{cell_at}
use Rattle.nofs_model.specs.Geometry.{is_data_block, inode}
use Rattle.nofs_ptrs.specs.Paths.{Path, InRecord, Under, leaf, path_of, slot_of, IsSlot}
use Rattle.nofs_model.specs.Slots.{tag_for, record_pointer, find}
use Rattle.nofs_model.specs.declared.image.path.PathAnswer.TheVariants as answer
use Rattle.nofs_model.specs.declared.image.value.Value.TheVariants.{Hole}
use Rattle.nofs_history.specs.Machine.{put_content, trimmed}
use Rattle.nofs_history.specs.Claims.{IsClaim, NoInode, Claimed, Unclaimed}
use Rattle.nofs_crashlaw.specs.Untouched.Frames.{Touches}
use Rattle.nofs_crashlaw.specs.Files.Growth.{Grows, IsPlaced}
use Rattle.nofs_crashlaw.specs.Maps.Moves.{IsClaimed}
use Rattle.nofs_crashlaw.proofs.OnMaps.Fresh.{sole-is}
use Rattle.nofs_crashlaw.specs.Files.Puts.{PutLies, ClaimsPlaced}
use Rattle.nofs_cases.specs.Disks.Images.{z, blank, first_table, first_image}
use Rattle.nofs_cases.specs.Disks.Worlds.{label_file, first_files, first_world, block_two}
use Rattle.nofs_cases.specs.Steps.Leaf.{leaf_table, deep_block, leaf_block, leaf_image, block_three, leaf_places}
use Rattle.nofs_cases.specs.Steps.Leaf.{leaf_claims, leaf_step, LeafCase}
use Rattle.nofs_cases.proofs.OnDisks.Numbers.{none-of}
use Rattle.nofs_cases.proofs.OnDisks.Images.{nth, root_record, label_record, HasRecords, inode-is, first-records}
use Rattle.nofs_cases.proofs.OnDisks.Images.{data-two, data-three}
use Rattle.nofs_cases.proofs.OnDisks.Steps.{stamp-is, tag-is, but-leaf, same-names, label-touches}
use Rattle.nofs_cases.proofs.OnDisks.Leaves.{other-pointer}
use Rattle.nofs_cases.proofs.OnSteps.Files.{first-inode, first-empty, first-free, first-match, first-old, no-holds}

abbrev pub leaf_record : Record
leaf_record = record (label_record 8193 null) { leaf = block_three }

leaf-records : HasRecords leaf_table (root_record null) leaf_record free_record
unfolding record_at record_of fields_in link_in pointer_in number_at
leaf-records = record { one = refl; two = refl; three = refl; four = refl }

pub leaf-inode : (i : ℕ) → inode leaf_image i ≡ nth (root_record null) leaf_record free_record i
leaf-inode i = inode-is leaf_table deep_block leaf_block (root_record null) leaf_record free_record leaf-records i

deep-tag : tag_of deep_block.tag ≡ Some (record { kind = Content; inode = 2; generation = 2; slot = 8; stamp = 2 ^ 40 })
unfolding tag_of number_at
deep-tag = refl

leaf-tag : tag_of leaf_block.tag
    ≡ Some (record { kind = Leaf; inode = 2; generation = 2; slot = 2 ^ 32; stamp = 2 ^ 40 + 1 })
unfolding tag_of number_at
leaf-tag = refl

-- The pointers of the leaf

first-pointer : pointer_at leaf_block.payload 0 ≡ block_two 0
unfolding pointer_at pointer_in number_at
first-pointer = refl

-- What the Put touches

leaf-touches : Touches (2 ^ 40) (λ j. eqb j 2) first_image leaf_image
leaf-touches = label-touches (2 ^ 40) first_table blank blank leaf_table deep_block leaf_block
    (label_record 0 null) leaf_record first-records leaf-records
    (inr (inl (first-free 2, stamp-is (2 ^ 40) deep_block _ deep-tag (omega arith))))
    (inr (inl (first-free 3, stamp-is (2 ^ 40) leaf_block _ leaf-tag (omega arith))))

-- Its path: the leaf, and slot 8 under it

abbrev OnPath : Path → Type 0
OnPath a = (a ≡ Under leaf 0) ⊎ (a ≡ leaf)

by-path : (P : Path → Type 0) → P (Under leaf 0) → P leaf → (a : Path) → OnPath a → P a
by-path P u l a (inl e) = subst P (sym e) u
by-path P u l a (inr e) = subst P (sym e) l

deep-slot : tag_of deep_block.tag ≡ Some (tag_for leaf_image 2 (Under leaf 0) (2 ^ 40))
unfolding slot_of
deep-slot = tag-is leaf_image 2 (Under leaf 0) leaf_record deep_block (2 ^ 40) (leaf-inode 2) deep-tag

leaf-slot : tag_of leaf_block.tag ≡ Some (tag_for leaf_image 2 leaf (2 ^ 40 + 1))
unfolding slot_of
leaf-slot = tag-is leaf_image 2 leaf leaf_record leaf_block (2 ^ 40 + 1) (leaf-inode 2) leaf-tag

pub leaf-grows : Grows (2 ^ 40) first_image leaf_image 2 (path_of 8) leaf_places
unfolding path_of
leaf-grows = record {
  placed = by-path (λ a. IsPlaced leaf_image 2 leaf_places a) first-pointer
      (ap (λ (r : Record). record_pointer r 8) (leaf-inode 2));
  not_null = by-path (λ a. is_null (leaf_places a) ≡ false) refl refl;
  area = by-path (λ a. is_data_block leaf_image (leaf_places a).block ≡ true)
      (data-two leaf_table deep_block leaf_block)
      (data-three leaf_table deep_block leaf_block);
  tag = by-path (λ a. tag_of (cell_at leaf_image (leaf_places a).block).tag ≡ Some
      (tag_for leaf_image 2 a (leaf_places a).stamp)) deep-slot leaf-slot;
  record_stays = λ n off. ap (λ (r : Record). record_pointer r n) (leaf-inode 2)
      ∙ but-leaf (label_record 0 null) block_three n (λ e. off (inr (ap InRecord e)))
      ∙ sym (ap (λ (r : Record). record_pointer r n) (first-inode 2));
  beside = λ b n slot on off. by-path
      (λ b. IsSlot (Under b n) → (OnPath (Under b n) → ⊥)
      → ((find first_image 2 b ≡ answer.Holds (leaf_places b)) ×
      (pointer_at (cell_at leaf_image (leaf_places b).block).payload n
      ≡ pointer_at (cell_at first_image (leaf_places b).block).payload n))
      ⊎ ((find first_image 2 b ≡ answer.Hole)
      × (is_null (pointer_at (cell_at leaf_image (leaf_places b).block).payload n) ≡ true)))
      (λ slot off. absurd (not-pointers slot.0))
      (λ slot off. inr (first-empty 2 leaf (omega arith), other-pointer 0 n (λ e. off (inl (ap (Under leaf) e)))))
      b on slot (λ o. off (widen n b o));
  apart = λ b y slot off h. absurd (no-holds 2 b y slot h);
}
  where
    not-pointers : false ≡ true → ⊥
    not-pointers e = cc e

    widen : (n : ℕ) (b : Path) → OnPath (Under b n) → (Under b n ≡ Under leaf 0) ⊎ (Under b n ≡ leaf)
    widen n b o = o

leaf-content : put_content Hole 0 8 0 (7 ∷ []) ≡ 7 ∷ z 1023
unfolding put_content trimmed put_bytes
leaf-content = refl

leaf-lies : PutLies first_files first_image leaf_image 2 2 8 0 (7 ∷ []) (label_file 0 Hole) (2 ^ 40) leaf_places
unfolding path_of
leaf-lies = record {
  files = first-match;
  is = refl;
  generation = refl;
  file = refl;
  range = omega arith;
  touches = leaf-touches;
  names = same-names first_image leaf_image 2 (label_record 0 null) leaf_record (first-inode 2) (leaf-inode 2) refl;
  size = ap (λ (r : Record). r.size) (leaf-inode 2);
  grows = leaf-grows;
  content = sym leaf-content;
  old = λ j some. first-old (2 ^ 40) (omega arith) j;
}

pub deep-empty : (x : Pointer) → find first_image 2 (Under leaf 0) ≡ answer.Holds x → ⊥
deep-empty x h = no-holds 2 (Under leaf 0) x (refl, omega arith, omega arith) h

leaf-placed : ClaimsPlaced leaf_claims first_image 2 8 leaf_places
unfolding path_of
leaf-placed = record {
  cell = λ e. refl;
  leaf = λ e. (inr refl, refl);
  top = λ e. cc e;
  each = by-path (λ a. (find first_image 2 a ≡ answer.Holds (leaf_places a)) ⊎
      (IsClaimed leaf_claims (leaf_places a) × ((x : Pointer) → find first_image 2 a ≡ answer.Holds x → ⊥)))
      (inr ((refl, inl refl), deep-empty)) (inr ((refl, inr (inl refl)), λ x h. no-holds 2 leaf x (omega arith) h));
}

leaf-claim : IsClaim first_world leaf_step leaf_claims
unfolding path_of
leaf-claim = record {
  inode = NoInode refl refl;
  cell = Claimed refl (omega arith) refl;
  leaf = Claimed refl (omega arith) refl;
  top = Unclaimed refl;
  apart = (
    (λ y c e. let s : 3 ≡ y.block = ap (λ (q : Pointer). q.block) (sole-is block_three y c) in omega (arith, s, e)),
    ((λ y c. absurd (none-of c)), tt),
  );
}

pub leaf-case : LeafCase
leaf-case = (leaf-lies, leaf-placed, leaf-claim)

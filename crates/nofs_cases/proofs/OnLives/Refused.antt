-- A slot with the bytes of another file is refused.
use Rattle.std.proofs.Common.{◌≡◌, ℕ, ◌+◌, ◌^◌, inl, inr, List, [], ◌∷◌, ◌++◌, Some, refl, sym, ap, ◌∙◌, subst, arith}
use Rattle.std.proofs.Common.{Contains}
use Rattle.nofs_disk.specs.declared.tag.Kind.TheVariants.{Content}
use Rattle.nofs_inode.specs.declared.inode.Record.{Record}
use Rattle.nofs_disk.specs.Tag.{tag_of}
use Rattle.nofs_disk.specs.Number.{number_at}
use Rattle.nofs_disk.specs.Pointer.{null, pointer_in}
use Rattle.nofs_inode.specs.InodeRecords.{is_live, record_of, record_at, fields_in, link_in}
use Rattle.nofs_model.specs.Geometry.{inode}
use Rattle.nofs_ptrs.specs.Paths.{InRecord}
use Rattle.nofs_model.specs.Slots.{tag_for, find, value}
use Rattle.nofs_model.specs.declared.image.path.PathAnswer.TheVariants as answer
use Rattle.nofs_model.specs.declared.image.value.Value.{Value}
use Rattle.nofs_model.specs.declared.image.value.Value.TheVariants.{Hole, Bytes, Lost}
use Rattle.nofs_history.specs.Meta.{MayRead}
use Rattle.nofs_history.specs.Since.{since}
use Rattle.nofs_history.specs.Allowed.{IsAllowed}
use Rattle.nofs_crashlaw.proofs.OnMaps.Fresh.{sole-is}
use Rattle.nofs_crashlaw.proofs.OnHistories.Unflushed.{law-unflushed}
use Rattle.nofs_cases.specs.Disks.Images.{z}
use Rattle.nofs_cases.specs.Disks.Worlds.{block_two}
use Rattle.nofs_cases.proofs.OnDisks.Images.{nth, root_record, label_record, HasRecords, inode-is, data-two, data-three}
use Rattle.nofs_cases.proofs.OnDisks.Slots.{ArePlain, pick, plain-image}
use Rattle.nofs_cases.proofs.OnDisks.Matches.{first-tag, first-holds, first-value}
use Rattle.nofs_cases.specs.Names.Disks.{short_entry_bytes, root_block, one_link}
use Rattle.nofs_cases.proofs.OnNames.Roots.{file_record, root-tag}
use Rattle.nofs_cases.specs.Lives.Refused.{two_table, label_pointer, label_cell, two_with, two_image, leaked_image}
use Rattle.nofs_cases.specs.Lives.Refused.{RefusedCase}
use Rattle.nofs_cases.proofs.OnLives.Paths.{base-since}

two-records : HasRecords two_table (root_record (block_two 1)) (label_record 1 label_pointer) (file_record one_link)
unfolding record_at record_of fields_in link_in pointer_in number_at
two-records = record { one = refl; two = refl; three = refl; four = refl }

label-tag : (bytes : List ℕ) → tag_of (label_cell bytes).tag ≡ Some
    (record { kind = Content; inode = 2; generation = 2; slot = 0; stamp = 2 ^ 40 + 2 })
unfolding tag_of number_at
label-tag bytes = refl

module _ (bytes : List ℕ) where
  two-inode : (i : ℕ) → inode (two_with bytes) i ≡ nth (root_record (block_two 1)) (label_record 1 label_pointer)
      (file_record one_link) i
  two-inode i = inode-is two_table (root_block (short_entry_bytes 97 ++ z 960)) (label_cell bytes)
      (root_record (block_two 1)) (label_record 1 label_pointer)
      (file_record one_link) two-records i

  two-plain : ArePlain (two_with bytes) (pick (block_two 1) label_pointer null)
  two-plain = plain-image two_table (root_block (short_entry_bytes 97 ++ z 960)) (label_cell bytes)
      (root_record (block_two 1)) (label_record 1 label_pointer)
      (file_record one_link) (block_two 1) label_pointer null two-records refl refl refl

  label-slot : tag_of (label_cell bytes).tag ≡ Some (tag_for (two_with bytes) 2 (InRecord 0) (2 ^ 40 + 2))
  label-slot = label-tag bytes
      ∙ sym (ap Some (first-tag (two_with bytes) 2 (label_record 1 label_pointer) (2 ^ 40 + 2) (two-inode 2)))

  label-holds : find (two_with bytes) 2 (InRecord 0) ≡ answer.Holds label_pointer
  label-holds = first-holds (two_with bytes) 2 label_pointer (two-plain 2) (ap is_live (two-inode 2))
      (data-three two_table (root_block (short_entry_bytes 97 ++ z 960)) (label_cell bytes)) label-slot refl

  -- the label file's slot reads as what stands there
  label-value : value (two_with bytes) 2 0 ≡ Bytes bytes
  label-value = sym (first-value (two_with bytes) 2 label_pointer (two-plain 2) label-holds 0 (omega arith))

  root-slot : tag_of (root_block (short_entry_bytes 97 ++ z 960)).tag ≡ Some
      (tag_for (two_with bytes) 1 (InRecord 0) (2 ^ 40 + 1))
  root-slot = root-tag (short_entry_bytes 97 ++ z 960)
      ∙ sym (ap Some (first-tag (two_with bytes) 1 (root_record (block_two 1)) (2 ^ 40 + 1) (two-inode 1)))

  root-holds : find (two_with bytes) 1 (InRecord 0) ≡ answer.Holds (block_two 1)
  root-holds = first-holds (two_with bytes) 1 (block_two 1) (two-plain 1) (ap is_live (two-inode 1))
      (data-two two_table (root_block (short_entry_bytes 97 ++ z 960)) (label_cell bytes)) root-slot refl

  root-value : value (two_with bytes) 1 0 ≡ Bytes (short_entry_bytes 97 ++ z 960)
  root-value = sym (first-value (two_with bytes) 1 (block_two 1) (two-plain 1) root-holds 0 (omega arith))

abbrev own : List ℕ
own = 7 ∷ z 1023

abbrev other : List ℕ
other = short_entry_bytes 97 ++ z 960

abbrev first_byte : Value → ℕ
first_byte (Bytes []) = 0
first_byte (Bytes (b ∷ bs)) = b
first_byte Hole = 0
first_byte Lost = 0

-- the only version is the file's own content
refused : (m : ℕ) → IsAllowed two_image [] m leaked_image → ⊥
refused m a =
    let may : MayRead (since two_image [] m 2 2 0) (value leaked_image 2 0) =
    subst (λ (g : ℕ). MayRead (since two_image [] m 2 g 0) (value leaked_image 2 0))
    (ap (λ (r : Record). r.generation) (two-inode other 2))
    (a.versions.values 2 0 (ap is_live (two-inode other 2)) (omega arith)) in
    elim may [
      | inl lost ↦ let v = label-value other in cc (lost, v)
      | inr has ↦
          let one : since two_image [] m 2 2 0 ≡ value two_image 2 0 ∷ [] =
          base-since two_image 2 2 0 (label_record 1 label_pointer) (two-inode own 2) refl refl in
          let same : value two_image 2 0 ≡ value leaked_image 2 0 =
          sole-is (value two_image 2 0) (value leaked_image 2 0)
          (subst (λ (vs : List Value). Contains vs (value leaked_image 2 0)) one has) in
          let e : 7 ≡ 3 = ap first_byte (sym (label-value own) ∙ same ∙ label-value other) in
          absurd (omega (arith, e))
    ]

pub refused-case : RefusedCase
refused-case m =
    (label-value own, label-value other ∙ sym (root-value own), law-unflushed two_image [] m refl, refused m)

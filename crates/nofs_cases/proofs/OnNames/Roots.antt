-- Disks on which the root has one block of entries.
use Rattle.std.proofs.Common.{◌≡◌, ℕ, suc, ◌+◌, ◌^◌, ◌<◌, true, List, ◌++◌, Some, refl, sym, ap, ◌∙◌, subst, arith}
use Rattle.std.proofs.Common.{Contains}
use Rattle.nofs_inode.specs.declared.inode.FileKind.TheVariants.{File, Directory as Folder}
use Rattle.nofs_dirent.specs.Names.{is_name}
use Rattle.nofs_disk.specs.declared.tag.Cell.{Cell}
use Rattle.nofs_disk.specs.declared.tag.Kind.TheVariants.{Directory}
use Rattle.nofs_inode.specs.declared.inode.BackLink.{BackLink}
use Rattle.nofs_inode.specs.declared.inode.Record.{Record}
use Rattle.nofs_disk.specs.Tag.{tag_of}
use Rattle.nofs_disk.specs.Number.{number_at}
use Rattle.nofs_disk.specs.Pointer.{null, pointer_in}
use Rattle.nofs_inode.specs.InodeRecords.{is_live, free_record, record_of, record_at, fields_in, link_in}
use Rattle.nofs_dirent.specs.Entries.{entry_in, entry_of, entry_fields}
use Rattle.nofs_model.specs.Geometry.{inode}
use Rattle.nofs_ptrs.specs.Paths.{InRecord, path_of}
use Rattle.nofs_model.specs.Slots.{tag_for, find}
use Rattle.nofs_model.specs.Files.{files_in, agreed}
use Rattle.nofs_model.specs.declared.image.path.PathAnswer.TheVariants as answer
use Rattle.nofs_model.specs.declared.image.value.Value.TheVariants.{Hole, Bytes}
use Rattle.nofs_model.specs.Definitions.{IsPair, IsEntry, named, the_root}
use Rattle.nofs_model.proofs.OnSlots.Meanings.{find-holds}
use Rattle.nofs_model.proofs.OnFiles.Meanings.{fact-agreed}
use Rattle.nofs_history.specs.Machine.{link_to}
use Rattle.nofs_history.specs.History.{FilesMatch}
use Rattle.nofs_crashlaw.specs.Untouched.Frames.{OldPointers}
use Rattle.nofs_crashlaw.specs.Machine.Examples.{a}
use Rattle.nofs_cases.specs.Disks.Images.{z, blank, image_of}
use Rattle.nofs_cases.specs.Disks.Worlds.{root_file, label_file, block_two}
use Rattle.nofs_cases.specs.Names.Disks.{short_entry_bytes, root_block, name_table, link_table, drop_table}
use Rattle.nofs_cases.specs.Names.Disks.{third_file, one_link, two_links, files_with}
use Rattle.nofs_cases.specs.Names.Steps.{entry_named}
use Rattle.nofs_cases.proofs.OnDisks.Numbers.{each-number}
use Rattle.nofs_cases.proofs.OnDisks.Images.{plain, nth, root_record, label_record, HasRecords, inode-is, data-two}
use Rattle.nofs_cases.proofs.OnDisks.Slots.{IsPlain, ArePlain, pick, plain-image, old-pointers}
use Rattle.nofs_cases.proofs.OnDisks.Matches.{root-agreed, label-agreed, first-tag, first-holds, same-empty}
use Rattle.nofs_cases.proofs.OnDisks.Matches.{same-first, files-match}

-- Tables and tags

abbrev pub file_record : List BackLink → Record
file_record links = plain (2 ^ 40) (Some File) links 0 null

pub name-records : HasRecords name_table (root_record (block_two 1)) (label_record 0 null) (file_record one_link)
unfolding record_at record_of fields_in link_in pointer_in number_at
name-records = record { one = refl; two = refl; three = refl; four = refl }

pub link-records : HasRecords link_table (root_record (block_two 1)) (label_record 0 null) (file_record two_links)
unfolding record_at record_of fields_in link_in pointer_in number_at
link-records = record { one = refl; two = refl; three = refl; four = refl }

pub drop-records : HasRecords drop_table (root_record (block_two 1)) (label_record 0 null) free_record
unfolding record_at record_of fields_in link_in pointer_in number_at
drop-records = record { one = refl; two = refl; three = refl; four = refl }

pub root-tag : (bytes : List ℕ) → tag_of (root_block bytes).tag ≡ Some
    (record { kind = Directory; inode = 1; generation = 1; slot = 0; stamp = 2 ^ 40 + 1 })
unfolding tag_of number_at
root-tag bytes = refl

-- Such a disk

module _ (t : Cell) (bytes : List ℕ) (c : Record) (h : HasRecords t (root_record (block_two 1)) (label_record 0 null) c)
    (is : IsPlain c null) where
  pub root-inode : (i : ℕ)
      → inode (image_of t (root_block bytes) blank) i ≡ nth (root_record (block_two 1)) (label_record 0 null) c i
  root-inode i = inode-is t (root_block bytes) blank (root_record (block_two 1)) (label_record 0 null) c h i

  pub root-plain : ArePlain (image_of t (root_block bytes) blank) (pick (block_two 1) null null)
  root-plain = plain-image t (root_block bytes) blank (root_record (block_two 1)) (label_record 0 null) c
      (block_two 1) null null h refl refl is

  pub root-slot
      : tag_of (root_block bytes).tag ≡ Some (tag_for (image_of t (root_block bytes) blank) 1 (InRecord 0) (2 ^ 40 + 1))
  root-slot = root-tag bytes ∙ sym (ap Some
      (first-tag (image_of t (root_block bytes) blank) 1 (root_record (block_two 1)) (2 ^ 40 + 1) (root-inode 1)))

  pub root-holds : find (image_of t (root_block bytes) blank) 1 (InRecord 0) ≡ answer.Holds (block_two 1)
  root-holds =
      first-holds (image_of t (root_block bytes) blank) 1 (block_two 1) (root-plain 1) (ap is_live (root-inode 1))
      (data-two t (root_block bytes) blank) root-slot refl

  pub one-agreed : agreed (files_in (image_of t (root_block bytes) blank)) 1 ≡ true
  one-agreed = root-agreed (image_of t (root_block bytes) blank) (ap (λ (r : Record). r.kind) (root-inode 1))
      (ap (λ (r : Record). r.generation) (root-inode 1))

  pub two-agreed : agreed (files_in (image_of t (root_block bytes) blank)) 2 ≡ true
  two-agreed = label-agreed (image_of t (root_block bytes) blank) (ap (λ (r : Record). r.kind) (root-inode 2))
      (ap (λ (r : Record). r.generation) (root-inode 2))

  pub root-old : (i : ℕ) → OldPointers (2 ^ 40 + 2) (image_of t (root_block bytes) blank) i
  root-old i =
      old-pointers (image_of t (root_block bytes) blank) i (pick (block_two 1) null null i) (root-plain i) (2 ^ 40 + 2)
      (each-number (λ n. (pick (block_two 1) null null n).stamp < 2 ^ 40 + 2) (omega arith) (omega arith) (omega arith)
      (omega arith) (λ n. omega arith) i)

-- A disk on which entry 0 of the root names inode 3

module _ (t : Cell) (bytes : List ℕ) (links : List BackLink)
    (h : HasRecords t (root_record (block_two 1)) (label_record 0 null) (file_record links))
    (linked : Contains links (link_to 1 0 1)) (entry : entry_in bytes 0 ≡ Some (entry_named a)) where
  here : IsEntry (image_of t (root_block bytes) blank) 1 0 (entry_named a)
  unfolding path_of
  here = record {
    directory = ap (λ (r : Record). r.kind) (root-inode t bytes (file_record links) h refl 1);
    range = omega arith;
    pointer = block_two 1;
    holds = find-holds (image_of t (root_block bytes) blank) 1 (InRecord 0) (block_two 1)
        (root-holds t bytes (file_record links) h refl);
    spelled = entry;
  }

  pub pair : IsPair (image_of t (root_block bytes) blank) 3 (link_to 1 0 1)
  pair = record {
    live = ap is_live (root-inode t bytes (file_record links) h refl 3);
    generation = ap (λ (r : Record). r.generation) (root-inode t bytes (file_record links) h refl 1);
    entry = entry_named a;
    there = here;
    names_inode = refl;
    names_generation = sym (ap (λ (r : Record). r.generation) (root-inode t bytes (file_record links) h refl 3));
    older = λ k. let f = ap (λ (r : Record). r.kind) (root-inode t bytes (file_record links) h refl 3) in
        absurd (not-folder (sym f ∙ k));
  }
    where
      not-folder : Some File ≡ Some Folder → ⊥
      not-folder e = cc e

  pub three-agreed : agreed (files_in (image_of t (root_block bytes) blank)) 3 ≡ true
  three-agreed = fact-agreed (image_of t (root_block bytes) blank) 3
      (named (link_to 1 0 1) (λ e. omega (arith, e)) (λ e. omega (arith, e))
      (subst (λ (r : Record). Contains r.links (link_to 1 0 1))
      (sym (root-inode t bytes (file_record links) h refl 3)) linked) pair
      (the_root (ap (λ (r : Record). r.kind) (root-inode t bytes (file_record links) h refl 1))
      (ap (λ (r : Record). r.generation) (root-inode t bytes (file_record links) h refl 1))))

  pub root-match : FilesMatch (files_with bytes links) (image_of t (root_block bytes) blank)
  root-match = files-match (image_of t (root_block bytes) blank) (root_file (Bytes bytes)) (label_file 0 Hole)
      (Some (third_file links))
      (ap (λ (r : Record). r.kind) (root-inode t bytes (file_record links) h refl 0))
      (same-first (image_of t (root_block bytes) blank) 1 (root_record (block_two 1)) Folder (block_two 1)
      (root-inode t bytes (file_record links) h refl 1)
      refl (root-plain t bytes (file_record links) h refl 1)
      (one-agreed t bytes (file_record links) h refl) (root-holds t bytes (file_record links) h refl))
      (same-empty (image_of t (root_block bytes) blank) 2 (label_record 0 null) File
      (root-inode t bytes (file_record links) h refl 2) refl
      (root-plain t bytes (file_record links) h refl 2) (two-agreed t bytes (file_record links) h refl))
      (same-empty (image_of t (root_block bytes) blank) 3 (file_record links) File
      (root-inode t bytes (file_record links) h refl 3) refl
      (root-plain t bytes (file_record links) h refl 3) three-agreed)
      (λ n. ap (λ (r : Record). r.kind) (root-inode t bytes (file_record links) h refl (suc (suc (suc (suc n))))))

-- the entry a stands first
pub first-entry : entry_in (short_entry_bytes 97 ++ z 960) 0 ≡ Some (entry_named a)
unfolding entry_of entry_fields number_at is_name
first-entry = refl

pub first-of-two : entry_in (short_entry_bytes 97 ++ short_entry_bytes 98 ++ z 896) 0 ≡ Some (entry_named a)
unfolding entry_of entry_fields number_at is_name
first-of-two = refl

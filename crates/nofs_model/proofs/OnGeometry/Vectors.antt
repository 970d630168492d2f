-- The formats, at bytes that stand in their document.
use Rattle.std.proofs.Common.{◌≡◌, ℕ, ◌+◌, ◌^◌, List, [], ◌∷◌, ◌++◌, Some, replicate, refl, true}
use Rattle.nofs_inode.specs.InodeRecords.{no_link, fields_in, record_at, record_of, link_in}
use Rattle.nofs_inode.specs.declared.inode.FileKind.{FileKind}
use Rattle.nofs_inode.specs.declared.inode.Record.{Record}
use Rattle.nofs_disk.specs.Number.{number_at}
use Rattle.nofs_disk.specs.declared.tag.Cell.{Cell}
use Rattle.nofs_disk.specs.declared.tag.Kind.TheVariants.{Content}
use Rattle.nofs_inode.specs.declared.inode.FileKind.TheVariants.{File}
use Rattle.nofs_disk.specs.Tag.{tag_of}
use Rattle.nofs_ptrs.specs.Cells.{pointer_at}
use Rattle.nofs_disk.specs.Pointer.{pointer_in, null}
use Rattle.nofs_dirent.specs.Entries.{entry_of, entry_fields}
use Rattle.nofs_super.specs.Super.{is_super, super_in}
use Rattle.nofs_super.specs.Geometry.{is_geometry, format_fault}
use Rattle.nofs_model.specs.Geometry.{Image, inode, super_at, is_mountable}
use Rattle.nofs_model.specs.Slots.{find, value}
use Rattle.nofs_ptrs.specs.Paths.{InRecord, path_of, slot_of}
use Rattle.nofs_model.specs.Files.{files_in, agreed}
use Rattle.nofs_model.specs.Owners.{owner, home_at}
use Rattle.nofs_model.specs.declared.image.value.Value.TheVariants.{Lost}
use Rattle.nofs_model.specs.declared.image.path.PathAnswer.TheVariants as answer
use Rattle.nofs_dirent.specs.Names.{is_name}

-- the record of an empty file with no names
abbrev pub new_record : ℕ → FileKind → Record
new_record g kind = record {
  generation = g;
  kind = Some kind;
  links = no_link ∷ no_link ∷ no_link ∷ no_link ∷ [];
  size = 0;
  direct =
      null ∷ null ∷ null ∷ null ∷ null ∷ null ∷ null ∷ null ∷ [];
  leaf = null;
  top = null;
}

abbrev pub z : ℕ → List ℕ
z n = replicate n 0

tag_vector : tag_of (1 ∷ 0 ∷ 0 ∷ 0 ∷ 2 ∷ 0 ∷ 0 ∷ 0 ∷ 2 ∷ z 7 ++ z 8 ++ z 5 ++ 1 ∷ 0 ∷ 0 ∷ []) ≡ Some
    (record { kind = Content; inode = 2; generation = 2; slot = 0; stamp = 2 ^ 40 })
unfolding tag_of number_at
tag_vector = refl

pointer_vector : pointer_in 0 (5 ∷ z 7 ++ 9 ∷ z 4 ++ 1 ∷ 0 ∷ 0 ∷ []) ≡ record { block = 5; stamp = 2 ^ 40 + 9 }
unfolding pointer_in number_at
pointer_vector = refl

record_vector : record_of 0 (2 ∷ z 7 ++ 1 ∷ z 3 ++ z 4 ++ 3 ∷ z 7 ++ z 8 ++ z 224) ≡ Some
    (record (new_record 2 File) { size = 3 })
unfolding record_of record_at pointer_at number_at pointer_in link_in fields_in
record_vector = refl

entry_vector : entry_of (3 ∷ 0 ∷ 0 ∷ 0 ∷ 1 ∷ 0 ∷ 0 ∷ 0 ∷ z 5 ++ 1 ∷ 0 ∷ 0 ∷ 97 ∷ z 47)
    ≡ Some (record { inode = 3; generation = 2 ^ 40; name = 97 ∷ [] })
unfolding entry_of entry_fields is_name number_at
entry_vector = refl

-- a disk of 16 blocks: the root has one directory cell, and inode 3 is named there
abbrev pub table : List ℕ
table = (1 ∷ z 7 ++ 2 ∷ z 3 ++ z 4 ++ z 8 ++ z 8 ++ z 64 ++ 6 ∷ z 7 ++ z 5 ++ 1 ∷ 0 ∷ 0 ∷ z 112 ++ z 32)
    ++ (2 ∷ z 7 ++ 1 ∷ z 3 ++ z 4 ++ z 8 ++ z 8 ++ z 224)
    ++ (1 ∷ z 4 ++ 1 ∷ 0 ∷ 0 ∷ 1 ∷ z 3 ++ 1 ∷ z 3 ++ 1 ∷ z 7 ++ z 8 ++ 1 ∷ z 3 ++ z 4 ++ 1 ∷ z 7 ++ z 48 ++ 7 ∷ z 7
    ++ 2 ∷ z 4 ++ 1 ∷ 0 ∷ 0 ∷ z 112 ++ z 32)
    ++ z 256

abbrev pub cell : List ℕ → List ℕ → Cell
cell payload tag = record { payload = payload; tag = tag }

abbrev pub blank : Cell
blank = cell (z 1024) (z 32)

abbrev pub image : ℕ → Image
image stamp = cell (78 ∷ 111 ∷ 70 ∷ 83 ∷ 118 ∷ 48 ∷ 48 ∷ 49 ∷ 1 ∷ z 3 ++ z 4 ++ 16 ∷ z 7 ++ 4 ∷ z 7 ++ 1 ∷ z 7
    ++ z 984) (5 ∷ z 31)
    ∷ cell table (4 ∷ z 3 ++ z 4 ++ z 8 ++ 1 ∷ z 7 ++ z 8)
    ∷ blank ∷ blank ∷ blank ∷ blank
    ∷ cell (3 ∷ z 3 ++ 1 ∷ z 3 ++ 1 ∷ z 4 ++ 1 ∷ 0 ∷ 0 ∷ 97 ∷ z 47 ++ z 960)
    (2 ∷ z 3 ++ 1 ∷ z 3 ++ 1 ∷ z 7 ++ z 8 ++ z 5 ++ 1 ∷ 0 ∷ 0 ∷ [])
    ∷ cell (111 ∷ 108 ∷ 100 ∷ z 1021)
    (1 ∷ z 3 ++ 3 ∷ z 3 ++ 1 ∷ z 4 ++ 1 ∷ 0 ∷ 0 ∷ z 8 ++ stamp ∷ z 4 ++ 1 ∷ 0 ∷ 0 ∷ [])
    ∷ blank ∷ blank ∷ blank ∷ blank ∷ blank ∷ blank ∷ blank ∷ blank ∷ []

mountable : is_mountable (image 2) ≡ true
unfolding super_at super_in is_super is_geometry format_fault number_at
mountable = refl

-- its stamp agrees: the slot holds
holds : find (image 2) 3 (InRecord 0) ≡ answer.Holds (record { block = 7; stamp = 2 ^ 40 + 2 })
unfolding super_at super_in inode record_of record_at pointer_at tag_of slot_of number_at pointer_in link_in fields_in
holds = refl

-- all but the stamp agree: the slot is lost
lost : value (image 3) 3 0 ≡ Lost
unfolding super_at super_in inode record_of record_at pointer_at tag_of slot_of path_of number_at pointer_in
    link_in fields_in
lost = refl

named : agreed (files_in (image 2)) 3 ≡ true
unfolding super_at super_in inode record_of record_at pointer_at tag_of slot_of path_of agreed entry_of entry_fields
    is_name number_at pointer_in link_in
    fields_in
named = refl

owned : owner (image 2) 7 ≡ Some (home_at 3 0)
unfolding super_at super_in inode record_of record_at pointer_at tag_of slot_of path_of agreed entry_of entry_fields
    is_name owner number_at pointer_in
    link_in fields_in
owned = refl

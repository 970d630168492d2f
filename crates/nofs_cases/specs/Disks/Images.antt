-- Images of a disk of 16 blocks and 4 inodes: as it was formatted, and after a few steps.
use Rattle.std.specs.Prelude.{ℕ, List, ◌∷◌, ◌++◌, replicate}
use Rattle.nofs_disk.specs.declared.tag.Cell.{Cell}
use Rattle.nofs_model.specs.Geometry.{Image}

-- this many zeros
abbrev pub z : ℕ → List ℕ
z n = replicate n 0

abbrev pub blank : Cell
blank = record { payload = z 1024; tag = z 32 }

-- the superblock of 16 blocks and 4 inodes, version 1, mount number 1
abbrev pub super_block : Cell
super_block = record {
  payload = 78 ∷ 111 ∷ 70 ∷ 83 ∷ 118 ∷ 48 ∷ 48 ∷ 49 ∷ 1 ∷ z 3 ++ z 4 ++ 16 ∷ z 7 ++ 4 ∷ z 7 ++ 1 ∷ z 7 ++ z 984;
  tag = 5 ∷ z 31;
}

-- a disk with this inode table and these two blocks behind it
abbrev pub image_of : Cell → Cell → Cell → Image
image_of t x y = super_block ∷ t ∷ x ∷ y ∷ replicate 12 blank

-- 2 ^ 40 + n
abbrev pub stamp_bytes : ℕ → List ℕ
stamp_bytes n = n ∷ z 4 ++ 1 ∷ z 2

-- a pointer to block b with the stamp 2 ^ 40 + n
abbrev pub pointer_bytes : ℕ → ℕ → List ℕ
pointer_bytes b n = b ∷ z 7 ++ stamp_bytes n

-- the record of the root, with this pointer in slot 0
abbrev pub root_bytes : List ℕ → List ℕ
root_bytes pointer = 1 ∷ z 7 ++ 2 ∷ z 3 ++ z 84 ++ pointer ++ z 144

-- the record of the label file, with these bytes of its size, and this pointer in slot 0
abbrev pub label_bytes : List ℕ → List ℕ → List ℕ
label_bytes size pointer = 2 ∷ z 7 ++ 1 ∷ z 3 ++ z 4 ++ size ++ z 72 ++ pointer ++ z 144

-- an inode table with these four records
abbrev pub table_of : List ℕ → List ℕ → List ℕ → List ℕ → Cell
table_of a b c d = record { payload = a ++ b ++ c ++ d; tag = 4 ∷ z 15 ++ 1 ∷ z 15 }

-- the formatted disk
abbrev pub first_table : Cell
first_table = table_of (root_bytes (z 16)) (label_bytes (z 8) (z 16)) (z 256) (z 256)

abbrev pub first_image : Image
first_image = image_of first_table blank blank

-- a Put of one byte, 7, to slot 0 of the label file: it has block 2
abbrev pub put_table : Cell
put_table = table_of (root_bytes (z 16)) (label_bytes (1 ∷ z 7) (pointer_bytes 2 0)) (z 256) (z 256)

-- the block of slot 0 of the label file, with this byte first
abbrev pub put_block : ℕ → Cell
put_block byte = record { payload = byte ∷ z 1023; tag = 1 ∷ z 3 ++ 2 ∷ z 3 ++ 2 ∷ z 7 ++ z 8 ++ stamp_bytes 0 }

abbrev pub put_image : Image
put_image = image_of put_table (put_block 7) blank

-- a Resize of the empty label file to 5,000 bytes
abbrev pub resize_table : Cell
resize_table = table_of (root_bytes (z 16)) (label_bytes (136 ∷ 19 ∷ z 6) (z 16)) (z 256) (z 256)

abbrev pub resize_image : Image
resize_image = image_of resize_table blank blank

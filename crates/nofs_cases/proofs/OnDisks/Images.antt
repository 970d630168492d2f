-- What the images say: their numbers, records and tags.
use Rattle.std.proofs.Common.{◌≡◌, ℕ, zero, suc, ◌+◌, ◌/◌, ◌^◌, true, false, leb, ltb, ◌&&◌, List, [], ◌∷◌, Option}
use Rattle.std.proofs.Common.{Some, refl, ap, arith}
use Rattle.nofs_super.specs.Geometry.{format_fault, is_geometry}
use Rattle.nofs_inode.specs.declared.inode.FileKind.TheVariants as file
use Rattle.nofs_disk.specs.declared.tag.Cell.{Cell}
use Rattle.nofs_disk.specs.declared.tag.Kind.TheVariants.{Content, Nothing, Table, Super}
use Rattle.nofs_disk.specs.declared.tag.Pointer.{Pointer}
use Rattle.nofs_inode.specs.declared.inode.FileKind.{FileKind}
use Rattle.nofs_inode.specs.declared.inode.BackLink.{BackLink}
use Rattle.nofs_inode.specs.declared.inode.Record.{Record}
use Rattle.nofs_super.specs.declared.superblock.SuperBlock.{SuperBlock}
use Rattle.nofs_inode.specs.InodeRecords.{free_record, record_of, record_at, fields_in, link_in}
use Rattle.nofs_disk.specs.Pointer.{null, pointer_in}
use Rattle.nofs_disk.specs.Number.{number_at}
use Rattle.nofs_disk.specs.Tag.{tag_of}
use Rattle.nofs_model.specs.Geometry.{is_mountable, super_at, is_data_block, inode}
use Rattle.nofs_super.specs.Super.{super_in, is_super}
use Rattle.nofs_cases.specs.Disks.Worlds.{block_two}
use Rattle.nofs_cases.proofs.OnDisks.Numbers.{one_of}
use Rattle.nofs_cases.specs.Disks.Images.{blank, super_block, image_of, first_table, put_table, put_block, resize_table}
use Rattle.nofs_crashlaw.specs.Machine.Worlds.{no_links}

-- Numbers

abbrev pub numbers : SuperBlock
numbers = record { version = 1; blocks = 16; inodes = 4; mount = 1 }

pub numbers-are : (t x y : Cell) → super_at (image_of t x y) ≡ numbers
unfolding super_at super_in number_at
numbers-are t x y = refl

pub mountable : (t x y : Cell) → is_mountable (image_of t x y) ≡ true
unfolding super_at super_in is_super is_geometry format_fault number_at
mountable t x y = refl

-- Records: what a table says of each inode

-- a record with one pointer at most, in slot 0
abbrev pub plain : ℕ → Option FileKind → List BackLink → ℕ → Pointer → Record
plain g kind links size x = record {
  generation = g;
  kind = kind;
  links = links;
  size = size;
  direct = x ∷ null ∷ null ∷ null ∷ null ∷ null ∷ null ∷ null ∷ [];
  leaf = null;
  top = null;
}

abbrev pub root_record : Pointer → Record
root_record x = plain 1 (Some file.Directory) no_links 0 x

abbrev pub label_record : ℕ → Pointer → Record
label_record size x = plain 2 (Some file.File) no_links size x

-- inodes 1 to 3 have these records, and no other is live
abbrev pub nth : Record → Record → Record → ℕ → Record
nth a b c = one_of free_record a b c

pub record HasRecords (t : Cell) (a b c : Record) : Type 0 where
  pub one : record_at t.payload 0 ≡ a
  pub two : record_at t.payload 1 ≡ b
  pub three : record_at t.payload 2 ≡ c
  pub four : record_at t.payload 3 ≡ free_record

above : (n : ℕ) → leb (suc (suc (suc (suc (suc n))))) 4 ≡ false
above n = grind arith

counted : (n : ℕ) → leb 1 (suc (suc (suc (suc (suc n))))) ≡ true
counted n = grind arith

pub inode-is : (t x y : Cell) (a b c : Record) → HasRecords t a b c → (i : ℕ) → inode (image_of t x y) i ≡ nth a b c i
unfolding inode super_at super_in number_at
inode-is t x y a b c h zero = refl
inode-is t x y a b c h (suc zero) = h.one
inode-is t x y a b c h (suc (suc zero)) = h.two
inode-is t x y a b c h (suc (suc (suc zero))) = h.three
inode-is t x y a b c h (suc (suc (suc (suc zero)))) = h.four
inode-is t x y a b c h (suc (suc (suc (suc (suc n))))) = rw (counted n, above n) refl

pub first-records : HasRecords first_table (root_record null) (label_record 0 null) free_record
unfolding record_at record_of fields_in link_in pointer_in number_at
first-records = record { one = refl; two = refl; three = refl; four = refl }

pub put-records : HasRecords put_table (root_record null) (label_record 1 (block_two 0)) free_record
unfolding record_at record_of fields_in link_in pointer_in number_at
put-records = record { one = refl; two = refl; three = refl; four = refl }

pub resize-records : HasRecords resize_table (root_record null) (label_record 5000 null) free_record
unfolding record_at record_of fields_in link_in pointer_in number_at
resize-records = record { one = refl; two = refl; three = refl; four = refl }

-- Tags

pub blank-tag : tag_of blank.tag ≡ Some (record { kind = Nothing; inode = 0; generation = 0; slot = 0; stamp = 0 })
unfolding tag_of number_at
blank-tag = refl

pub put-tag : (byte : ℕ) → tag_of (put_block byte).tag ≡ Some
    (record { kind = Content; inode = 2; generation = 2; slot = 0; stamp = 2 ^ 40 })
unfolding tag_of number_at
put-tag byte = refl

pub super-tag : tag_of super_block.tag ≡ Some (record { kind = Super; inode = 0; generation = 0; slot = 0; stamp = 0 })
unfolding tag_of number_at
super-tag = refl

pub table-tag : tag_of first_table.tag ≡ Some (record { kind = Table; inode = 0; generation = 0; slot = 1; stamp = 0 })
unfolding tag_of number_at
table-tag = refl

-- The data area

pub data-two : (t x y : Cell) → is_data_block (image_of t x y) 2 ≡ true
data-two t x y = ap (λ (n : SuperBlock). leb (1 + n.inodes / 4) 2 && ltb 2 n.blocks) (numbers-are t x y)

pub data-three : (t x y : Cell) → is_data_block (image_of t x y) 3 ≡ true
data-three t x y = ap (λ (n : SuperBlock). leb (1 + n.inodes / 4) 3 && ltb 3 n.blocks) (numbers-are t x y)

pub not-data-one : (t x y : Cell) → is_data_block (image_of t x y) 1 ≡ false
not-data-one t x y = ap (λ (n : SuperBlock). leb (1 + n.inodes / 4) 1 && ltb 1 n.blocks) (numbers-are t x y)

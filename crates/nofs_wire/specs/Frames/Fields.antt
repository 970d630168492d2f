-- The fields of a body: numbers, kinds, truths and names (docs/FORMAT.md, "Frames").
use Rattle.std.specs.Prelude.{ℕ, List, ◌∷◌, length, Bool, true, false}
use Rattle.byteorder.specs.Endian.{little_bytes}
use Rattle.nofs_inode.specs.declared.inode.FileKind.{FileKind}
use Rattle.nofs_inode.specs.declared.inode.FileKind.TheVariants.{File, Directory}

-- a number in so many bytes, the lowest first
unfoldable pub number_bytes : ℕ → ℕ → List ℕ
number_bytes n x = little_bytes n x

abbrev pub kind_byte : FileKind → ℕ
kind_byte File = 1
kind_byte Directory = 2

abbrev pub truth_byte : Bool → ℕ
truth_byte false = 0
truth_byte true = 1

-- the length of a name in one byte, and its bytes
abbrev pub name_bytes : List ℕ → List ℕ
name_bytes name = length name ∷ name

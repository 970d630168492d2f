-- What is marked of the inodes of an image: whether each is agreed, a byte an inode.
use Rattle.std.specs.Prelude.{◌≡◌, ℕ, ◌+◌, ◌<◌, ◌==◌, Bool, true, false, List, length, slice_index, if◌then◌else◌}
use Rattle.std.specs.Prelude.{Option, Some, None, IfSome}
use Rattle.nofs_inode.specs.declared.inode.FileKind.TheVariants.{Directory}
use Rattle.nofs_model.specs.Files.{agreed, files_in}
use Rattle.nofs_model.specs.Geometry.{Image, inode}
use Rattle.nofs_reader.specs.declared.marks.Way.{Way}
use Rattle.nofs_reader.specs.declared.marks.Way.TheVariants as way

-- what a byte says: 0 nothing, 1 that the inode is agreed, and any other that it is not
abbrev pub mark_of : ℕ → Option Bool
mark_of byte = if byte == 0 then None else if byte == 1 then Some true else Some false

-- what is marked of each inode is true. The first byte is that of inode 1
abbrev pub AreMarks : Image → List ℕ → Type 0
AreMarks X marks =
    (k : ℕ) → k < length marks → IfSome (mark_of (slice_index marks k)) (λ a. agreed (files_in X) (k + 1) ≡ a)

-- as many marks as before, and they are true
pub record KeepsMarks (X : Image) (old new : List ℕ) : Type 0 where
  pub len : length new ≡ length old
  pub marks : AreMarks X new

-- a live directory
abbrev pub IsDirectory : Image → ℕ → Type 0
IsDirectory X d = (inode X d).kind ≡ Some Directory

-- an older directory that is agreed exactly where this one is
pub record IsAbove (X : Image) (d parent : ℕ) : Type 0 where
  pub directory : IsDirectory X parent
  pub older : (inode X parent).generation < (inode X d).generation
  pub same : agreed (files_in X) d ≡ agreed (files_in X) parent

-- whether a directory is agreed: it is known, or one above it tells
abbrev pub IsWay : Image → ℕ → Way → Type 0
IsWay X d (way.Ends is) = is ≡ agreed (files_in X) d
IsWay X d (way.Up parent) = IsAbove X d parent

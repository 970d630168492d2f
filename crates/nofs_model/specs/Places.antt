-- Places of slots, as the program keeps them, and what the program has read of an image.
use Rattle.std.specs.Prelude.{◌≡◌, ℕ, ◌+◌, ◌-◌, ◌/◌, ◌<◌, ◌≤◌, Bool, true, false, ◌&&◌, List, length, Some, nat_le}
use Rattle.std.specs.Prelude.{slice_get, unwrap_or}
use Rattle.nofs_inode.specs.declared.inode.Record.{Record}
use Rattle.nofs_super.specs.declared.superblock.SuperBlock.{SuperBlock}
use Rattle.nofs_model.specs.Geometry.{Image, super_at, inode}
use Rattle.nofs_super.specs.Geometry.{IsGeometry}
use Rattle.nofs_ptrs.specs.Paths.{Path, InRecord, Under, child}
use Rattle.nofs_model.specs.Files.{files_in, agreed}
use Rattle.nofs_model.specs.declared.image.place.Place.{Place}
use Rattle.nofs_model.specs.declared.image.place.Place.TheVariants as place
use Rattle.nofs_model.specs.declared.image.path.PathAnswer.{PathAnswer}
use Rattle.nofs_model.specs.declared.image.path.PathAnswer.TheVariants as answer

-- the slot with this place
abbrev pub place_path : Place → Path
place_path (place.InRecord n) = InRecord n
place_path (place.UnderRecord n j) = Under (InRecord n) j
place_path (place.UnderChild j q) = Under (child j) q

-- a place that a slot can have
abbrev pub IsPlace : Place → Type 0
IsPlace (place.InRecord n) = n < 10
IsPlace (place.UnderRecord n j) = (8 ≤ n) × (n < 10) × (j < 64)
IsPlace (place.UnderChild j q) = (j < 64) × (q < 64)

-- the numbers are those of a mountable image
pub record IsRead (X : Image) (at : SuperBlock) : Type 0 where
  pub geometry : IsGeometry (length X) at.blocks at.inodes
  pub same : super_at X ≡ at

-- the record is that of the inode
pub record IsRecord (X : Image) (at : SuperBlock) (i : ℕ) (r : Record) : Type 0 where
  pub numbers : IsRead X at
  pub same : inode X i ≡ r

-- the block that was found lies in the data area
abbrev pub InArea : SuperBlock → PathAnswer → Type 0
InArea at answer.Hole = Unit {0}
InArea at (answer.Holds x) = (1 + at.inodes / 4 ≤ x.block) × (x.block < at.blocks)
InArea at answer.Lost = Unit {0}

-- an inode is among those that were found to be agreed: place k of the list is inode k + 1
abbrev pub is_known : List Bool → ℕ → Bool
is_known known i = nat_le 1 i && unwrap_or (slice_get known (i - 1)) false

-- those that were found are agreed
abbrev pub AreAgreed : Image → List Bool → Type 0
AreAgreed X known = (i : ℕ) → is_known known i ≡ true → agreed (files_in X) i ≡ true

-- the first n inodes were looked at
pub record AreFound (X : Image) (n : ℕ) (known : List Bool) : Type 0 where
  pub len : length known ≡ n
  pub each : (k : ℕ) → k < n → slice_get known k ≡ Some (agreed (files_in X) (k + 1))

-- Instances of the laws of a mount's beginning: the formatted disk, raised and upgraded.
use Rattle.std.specs.Prelude.{ℕ, ◌^◌, ◌<◌, ◌∷◌, ◌++◌, replicate}
use Rattle.nofs_disk.specs.declared.tag.Cell.{Cell}
use Rattle.nofs_model.specs.Geometry.{Image, super_at}
use Rattle.nofs_model.specs.Sound.{IsSound}
use Rattle.nofs_crashlaw.specs.Lives.{Raised, Upgraded, HasSuperCell}
use Rattle.nofs_cases.specs.Disks.Images.{z, blank, first_table, first_image}

-- the superblock of a version and a mount number
abbrev pub super_with : ℕ → ℕ → Cell
super_with version mount = record {
  payload = 78 ∷ 111 ∷ 70 ∷ 83 ∷ 118 ∷ 48 ∷ 48 ∷ 49 ∷ version ∷ z 3 ++ z 4 ++ 16 ∷ z 7 ++ 4 ∷ z 7
      ++ mount ∷ z 7 ++ z 984;
  tag = 5 ∷ z 31;
}

-- the formatted disk with these numbers
abbrev pub first_with : ℕ → ℕ → Image
first_with version mount = super_with version mount ∷ first_table ∷ replicate 14 blank

-- The next mount raises the mount number to 2.
abbrev pub BeginCase : Type 0
BeginCase = IsSound first_image × Raised first_image (first_with 1 2) × HasSuperCell (first_with 1 2)
    × ((super_at (first_with 1 2)).mount < 2 ^ 24)

-- An upgrade to version 2, and the mount after it.
abbrev pub UpgradeCase : Type 0
UpgradeCase = Upgraded first_image (first_with 2 1) × HasSuperCell (first_with 2 1)
    × Raised (first_with 2 1) (first_with 2 2)

-- An instance of the laws of a Put at depth: to slot 8 of the empty label file, with its leaf.
use Rattle.std.specs.Prelude.{ℕ, ◌+◌, ◌^◌, [], ◌∷◌, ◌++◌}
use Rattle.nofs_disk.specs.declared.tag.Cell.{Cell}
use Rattle.nofs_disk.specs.declared.tag.Pointer.{Pointer}
use Rattle.nofs_disk.specs.Pointer.{null}
use Rattle.nofs_model.specs.Geometry.{Image}
use Rattle.nofs_ptrs.specs.Paths.{Path, InRecord, Under}
use Rattle.nofs_model.specs.declared.image.value.Value.TheVariants.{Hole}
use Rattle.nofs_history.specs.Claims.{IsClaim}
use Rattle.nofs_history.specs.declared.machine.history.Claims.{Claims}
use Rattle.nofs_history.specs.declared.machine.steps.Step.{Step}
use Rattle.nofs_history.specs.declared.machine.steps.Step.TheVariants as step
use Rattle.nofs_crashlaw.specs.Files.Puts.{PutLies, ClaimsPlaced}
use Rattle.nofs_cases.specs.Disks.Images.{z, image_of, first_image, pointer_bytes, root_bytes, stamp_bytes, table_of}
use Rattle.nofs_cases.specs.Disks.Worlds.{label_file, first_files, first_world, block_two}

-- the label file has 8,193 bytes, and its leaf is block 3
abbrev pub leaf_table : Cell
leaf_table = table_of (root_bytes (z 16))
    (2 ∷ z 7 ++ 1 ∷ z 3 ++ z 4 ++ 1 ∷ 32 ∷ z 6 ++ z 72 ++ z 128 ++ pointer_bytes 3 1 ++ z 16) (z 256) (z 256)

-- the block of slot 8
abbrev pub deep_block : Cell
deep_block = record { payload = 7 ∷ z 1023; tag = 1 ∷ z 3 ++ 2 ∷ z 3 ++ 2 ∷ z 7 ++ 8 ∷ z 7 ++ stamp_bytes 0 }

-- a leaf of inode i of generation i with stamp 2 ^ 40 + s, whose first pointer leads to block 2 with stamp 2 ^ 40 + p
abbrev pub leaf_of : ℕ → ℕ → ℕ → Cell
leaf_of i p s = record {
  payload = pointer_bytes 2 p ++ z 1008;
  tag = 3 ∷ z 3 ++ i ∷ z 3 ++ i ∷ z 7 ++ z 4 ++ 1 ∷ z 3 ++ stamp_bytes s;
}

-- the leaf, whose first pointer leads there
abbrev pub leaf_block : Cell
leaf_block = leaf_of 2 0 1

abbrev pub leaf_image : Image
leaf_image = image_of leaf_table deep_block leaf_block

-- block 3, with the stamp 2 ^ 40 + 1
abbrev pub block_three : Pointer
block_three = record { block = 3; stamp = 2 ^ 40 + 1 }

-- the leaf has block 3, and the slot under it block 2
abbrev pub leaf_places : Path → Pointer
leaf_places (InRecord n) = block_three
leaf_places (Under b n) = block_two 0

abbrev pub leaf_claims : Claims
leaf_claims = record { inode = 0; generation = 0; cell = block_two 0; leaf = block_three; top = null }

abbrev pub leaf_step : Step
leaf_step = step.Put 2 2 8 0 (7 ∷ [])

-- A Put with a claimed block and a claimed leaf above it.
abbrev pub LeafCase : Type 0
LeafCase = PutLies first_files first_image leaf_image 2 2 8 0 (7 ∷ []) (label_file 0 Hole) (2 ^ 40) leaf_places
    × ClaimsPlaced leaf_claims first_image 2 8 leaf_places
    × IsClaim first_world leaf_step leaf_claims

-- Instances of the laws of steps on files.
use Rattle.std.specs.Prelude.{◌≡◌, ◌+◌, ◌^◌, true, [], ◌∷◌, ◌==◌}
use Rattle.nofs_ptrs.specs.Paths.{Path, path_of}
use Rattle.nofs_model.specs.Files.{agreed, files_in}
use Rattle.nofs_model.specs.Geometry.{inode}
use Rattle.nofs_inode.specs.InodeRecords.{is_live}
use Rattle.nofs_disk.specs.declared.tag.Pointer.{Pointer}
use Rattle.nofs_model.specs.declared.image.value.Value.TheVariants.{Hole, Bytes}
use Rattle.nofs_history.specs.Claims.{IsClaim, no_claims}
use Rattle.nofs_history.specs.declared.machine.steps.Step.{Step}
use Rattle.nofs_history.specs.declared.machine.steps.Step.TheVariants as step
use Rattle.nofs_history.specs.declared.machine.history.Claims.{Claims}
use Rattle.nofs_crashlaw.specs.Untouched.Frames.{Touches, Rewrites, SameIdentity, OldPointers}
use Rattle.nofs_crashlaw.specs.Files.Growth.{Grows}
use Rattle.nofs_crashlaw.specs.Files.Puts.{PutLies, PutHeld, ClaimsPlaced}
use Rattle.nofs_crashlaw.specs.Files.Resizes.{ResizeLies}
use Rattle.nofs_cases.specs.Disks.Images.{z, image_of, first_image, put_image, put_table, put_block, blank}
use Rattle.nofs_cases.specs.Disks.Images.{resize_image}
use Rattle.nofs_cases.specs.Disks.Worlds.{label_file, first_files, put_files, first_world, block_two, cell_claim}

-- the Put of the byte 7
abbrev pub put_step : Step
put_step = step.Put 2 2 0 0 (7 ∷ [])

-- slot 0 of the label file gets block 2
abbrev pub put_places : Path → Pointer
put_places a = block_two 0

abbrev pub put_claims : Claims
put_claims = cell_claim (block_two 0)

-- A Put to an empty slot, with a claimed block.
abbrev pub PutCase : Type 0
PutCase = PutLies first_files first_image put_image 2 2 0 0 (7 ∷ []) (label_file 0 Hole) (2 ^ 40) put_places
    × ClaimsPlaced put_claims first_image 2 0 put_places
    × IsClaim first_world put_step put_claims

-- A Put in place: the byte becomes 9.
abbrev pub PutHeldCase : Type 0
PutHeldCase = PutHeld put_files put_image (image_of put_table (put_block 9) blank) 2 2 0 0 (9 ∷ [])
    (label_file 1 (Bytes (7 ∷ z 1023))) (2 ^ 40 + 1)
    (block_two 0)

-- A Resize of the empty label file to 5,000 bytes, which claims nothing.
abbrev pub ResizeCase : Type 0
ResizeCase = ResizeLies first_files first_image resize_image 2 2 5000 (label_file 0 Hole) (2 ^ 40)
    × IsClaim first_world (step.Resize 2 2 5000) no_claims

-- the Put does not touch the root
abbrev pub UntouchedCase : Type 0
UntouchedCase = Touches (2 ^ 40) (λ j. j == 2) first_image put_image
    × (agreed (files_in first_image) 1 ≡ true) × OldPointers (2 ^ 40) first_image 1
    × (is_live (inode first_image 1) ≡ true)

-- and slot 0 of the label file gets its block
abbrev pub GrownCase : Type 0
GrownCase = Rewrites (2 ^ 40) first_image put_image × (agreed (files_in first_image) 2 ≡ true)
    × SameIdentity first_image put_image 2 × OldPointers (2 ^ 40)
    first_image 2
    × Grows (2 ^ 40) first_image put_image 2 (path_of 0) put_places

-- An instance of the laws of a Resize that cuts: the file of one block gets the size 0.
use Rattle.std.specs.Prelude.{◌≡◌, ◌+◌, ◌^◌, true, ◌∷◌, Some, None, if◌then◌else◌, ◌==◌}
use Rattle.nofs_disk.specs.Pointer.{is_null}
use Rattle.nofs_model.specs.Geometry.{Image, inode}
use Rattle.nofs_ptrs.specs.Paths.{InRecord}
use Rattle.nofs_model.specs.Slots.{find, record_pointer}
use Rattle.nofs_model.specs.Owners.{home_at}
use Rattle.nofs_model.specs.declared.image.path.PathAnswer.TheVariants as answer
use Rattle.nofs_model.specs.declared.image.value.Value.TheVariants.{Bytes}
use Rattle.nofs_history.specs.World.{World}
use Rattle.nofs_history.specs.Claims.{IsClaim, no_claims}
use Rattle.nofs_history.specs.declared.machine.steps.Step.TheVariants as step
use Rattle.nofs_crashlaw.specs.Files.Resizes.{is_cut, cut_at, ResizeLies}
use Rattle.nofs_crashlaw.specs.Numbers.Cells.{OldNumbers}
use Rattle.nofs_cases.specs.Disks.Images.{z, blank, image_of, first_table, put_block, put_image}
use Rattle.nofs_cases.specs.Disks.Worlds.{label_file, put_files, world, block_two}

-- after the Put of the byte 7: block 2 is that of slot 0 of the label file
abbrev pub put_home_world : World
put_home_world = world put_files (λ p. if p == 2 then Some (home_at 2 0) else None) 1

-- the record has no block any more, and the cell stays as it was
abbrev pub cut_image : Image
cut_image = image_of first_table (put_block 7) blank

-- A Resize of the label file to the size 0, which claims nothing; each number on the disk is below the next one.
abbrev pub CutCase : Type 0
CutCase = ResizeLies put_home_world.files put_image cut_image 2 2 0 (label_file 1 (Bytes (7 ∷ z 1023))) (2 ^ 40 + 1)
    × IsClaim put_home_world (step.Resize 2 2 0) no_claims
    × OldNumbers put_home_world put_image

-- Slot 0 held a block, is cut, and its pointer is null.
abbrev pub CutSlotCase : Type 0
CutSlotCase = (find put_image 2 (InRecord 0) ≡ answer.Holds (block_two 0))
    × (is_cut (cut_at (label_file 1 (Bytes (7 ∷ z 1023))) 0) (InRecord 0) ≡ true)
    × (is_null (record_pointer (inode cut_image 2) 0) ≡ true)

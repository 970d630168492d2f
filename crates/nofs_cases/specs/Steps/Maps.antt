-- Instances of the laws of the maps and of the stamps, by the Put of one byte.
use Rattle.std.specs.Prelude.{◌≡◌, ◌==◌, ℕ, ◌%◌, ◌^◌, ◌≤◌, ◌<◌, ◌⊎◌, true, false, List, [], ◌∷◌, Some, Contains}
use Rattle.nofs_disk.specs.declared.tag.Cell.{Cell}
use Rattle.nofs_inode.specs.InodeRecords.{is_live}
use Rattle.nofs_disk.specs.declared.tag.Pointer.{Pointer}
use Rattle.nofs_model.specs.Geometry.{Image, super_at, is_mountable, inode}
use Rattle.nofs_disk.specs.Disk.{cell_at}
use Rattle.nofs_ptrs.specs.Paths.{InRecord, path_of, Path, IsSlot}
use Rattle.nofs_model.specs.Slots.{find, IsAbove}
use Rattle.nofs_model.specs.Files.{files_in, agreed}
use Rattle.nofs_model.specs.Owners.{Home}
use Rattle.nofs_model.specs.Sound.{IsBelow}
use Rattle.nofs_model.specs.declared.image.path.PathAnswer.TheVariants as answer
use Rattle.nofs_history.specs.declared.machine.history.Entry1.{Entry1}
use Rattle.nofs_history.specs.declared.machine.replies.Reply.TheVariants as reply
use Rattle.nofs_history.specs.Machine.{is_write_fault}
use Rattle.nofs_history.specs.History.{FilesMatch}
use Rattle.nofs_history.specs.World.{World}
use Rattle.nofs_history.specs.Claims.{cell_slot, next_stamp, IsClaim}
use Rattle.nofs_history.specs.Next.{Next}
use Rattle.nofs_history.specs.Good.{IsFresh}
use Rattle.nofs_crashlaw.specs.Untouched.Frames.{Touches, OldPointers}
use Rattle.nofs_crashlaw.specs.Maps.Homes.{HomesMatch, HomesMove, GoodMaps}
use Rattle.nofs_crashlaw.specs.Maps.Fresh.{OnlyNumbered}
use Rattle.nofs_crashlaw.specs.Maps.Moves.{ClaimsStand, HeldMove, IsClaimed}
use Rattle.nofs_crashlaw.specs.Maps.Pieces.{PointerFrom}
use Rattle.nofs_crashlaw.specs.Files.Resizes.{is_cut}
use Rattle.nofs_crashlaw.specs.Machine.Worlds.{world_after}
use Rattle.nofs_cases.specs.Disks.Images.{first_image, put_image}
use Rattle.nofs_cases.specs.Disks.Worlds.{first_world, entry_of_step, block_two}
use Rattle.nofs_cases.specs.Steps.Files.{put_step, put_claims, put_places}

-- the entry of the Put, two writes long
abbrev pub put_entry : Entry1
put_entry = entry_of_step put_step reply.Stored put_claims 0 4

abbrev pub put_world : World
put_world = world_after first_world put_step put_claims

-- each block may hold its present cell alone
abbrev pub alone : Image → ℕ → List Cell
alone X b = cell_at X b ∷ []

-- or the one after the Put, too
abbrev pub put_may : ℕ → List Cell
put_may b = cell_at first_image b ∷ cell_at put_image b ∷ []

-- The homes of the disk before the Put, and what it moves.
abbrev pub HomesCase : Type 0
HomesCase = HomesMatch first_world first_image × FilesMatch first_world.files first_image
    × HomesMove first_world.files put_step put_claims first_image
    put_image
    × FilesMatch put_world.files put_image

-- The step of the machine, and the maps before it.
abbrev pub GoodCase : Type 0
GoodCase = Next first_world put_entry put_world × (is_write_fault put_entry.reply ≡ false)
    × GoodMaps first_world first_image × (cell_at put_image 0 ≡ cell_at first_image 0)

-- What the Put touches, and where its claimed block stands.
abbrev pub MovesCase : Type 0
MovesCase = IsClaim first_world put_step put_claims × Touches (2 ^ 40) (λ j. j == 2) first_image put_image
    × ((j : ℕ) → agreed (files_in first_image) j ≡ true → OldPointers (2 ^ 40) first_image j)
    × ((at : Home) → cell_slot first_world.files put_step ≡ Some at → ClaimsStand put_claims put_image at)
    × ((j : ℕ) → (j == 2) ≡ false → agreed (files_in put_image) j ≡ true → agreed (files_in first_image) j ≡ true)
    × ((j : ℕ) → (j == 2) ≡ true → HeldMove put_claims first_image put_image j)

-- Slot 0 gets its block, and each other slot stays.
abbrev pub GrowCase : Type 0
GrowCase = (agreed (files_in first_image) 2 ≡ true)
    × ((p : Path) → IsAbove p (path_of 0) → find put_image 2 p ≡ answer.Holds (put_places p))
    × ((p : Path) → IsSlot p → (IsAbove p (path_of 0) → ⊥) → find put_image 2 p ≡ find first_image 2 p)
    × ((p : Path) → IsAbove p (path_of 0) → (find first_image 2 p ≡ answer.Holds (put_places p)) ⊎
    (IsClaimed put_claims (put_places p) × ((x : Pointer) → find first_image 2 p ≡ answer.Holds x → ⊥)))

-- A Resize to the size 0 of the file with one block, which is cut off.
abbrev pub ShrinkCase : Type 0
ShrinkCase = (agreed (files_in put_image) 2 ≡ true) × ((p : Path) → IsSlot p
    → (is_cut 0 p ≡ true → find first_image 2 p ≡ answer.Hole)
    × (is_cut 0 p ≡ false → find first_image 2 p ≡ find put_image 2 p))

-- Each number on the disk is below the next one, and the Put writes only those that it claims.
abbrev pub FreshCase : Type 0
FreshCase = ((super_at first_image).inodes % 4 ≡ 0) × IsFresh first_world first_image (alone first_image)
    × OnlyNumbered first_world put_claims first_image
    (alone first_image) put_may
    × (first_world.serial ≤ 2 ^ 40)

-- A pick of fresh cells, and the pointer that the Put writes.
abbrev pub PiecesCase : Type 0
PiecesCase = (first_world.blocks ≡ (super_at first_image).blocks)
    × ((b : ℕ) → b < first_world.blocks → Contains (alone first_image b) (cell_at first_image b))
    × (0 < next_stamp first_world) × (is_mountable first_image ≡ true) × IsBelow (next_stamp first_world) first_image ×
    (is_live (inode first_image 2) ≡ true) × IsSlot (InRecord 0)
    × PointerFrom put_claims first_image 2 (InRecord 0) (block_two 0)

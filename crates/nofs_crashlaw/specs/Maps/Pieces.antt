-- Where the numbers in a written cell come from.
use Rattle.std.specs.Prelude.{◌≡◌, ◌≢◌, ℕ, ◌%◌, ◌<◌, true, List, length, IfSome, Contains}
use Rattle.nofs_crashlaw.specs.Maps.Fresh.{Numbered}
use Rattle.nofs_history.specs.declared.machine.history.Claims.{Claims}
use Rattle.nofs_history.specs.Machine.{bytes_in, with_entry}
use Rattle.nofs_history.specs.World.{World}
use Rattle.nofs_history.specs.Claims.{claimed_blocks, next_stamp}
use Rattle.nofs_history.specs.Good.{IsFresh}
use Rattle.nofs_disk.specs.declared.tag.Cell.{Cell}
use Rattle.nofs_dirent.specs.declared.entry.Entry.{Entry}
use Rattle.nofs_disk.specs.declared.tag.Pointer.{Pointer}
use Rattle.nofs_disk.specs.Pointer.{is_null}
use Rattle.nofs_inode.specs.InodeRecords.{is_live}
use Rattle.nofs_dirent.specs.Entries.{entry_of, entry_in}
use Rattle.nofs_model.specs.Geometry.{Image, super_at, is_mountable, inode}
use Rattle.nofs_disk.specs.Disk.{cell_at}
use Rattle.nofs_ptrs.specs.Paths.{Path, IsSlot}
use Rattle.nofs_model.specs.Slots.{pointer}
use Rattle.nofs_model.specs.Sound.{IsBelow}
use Rattle.nofs_model.specs.declared.image.value.Value.{Value}
use Rattle.nofs_model.specs.declared.image.value.Value.TheVariants.{Bytes}

-- a pointer that a step writes: the one before, none, or a claimed one
pub data PointerFrom (c : Claims) (X : Image) (i : ℕ) (a : Path) (x : Pointer) : Type 0 where
  Before : pointer X i a ≡ x → PointerFrom c X i a x
  Empty : is_null x ≡ true → PointerFrom c X i a x
  Claimed : Contains (claimed_blocks c) x → PointerFrom c X i a x

-- what a read gives has old numbers
abbrev pub LawPick : Type 0
LawPick = (W : World) (X : Image) (may : ℕ → List Cell) → W.blocks ≡ (super_at X).blocks → IsFresh W X may
    → ((b : ℕ) → b < W.blocks → Contains (may b) (cell_at X b)) → IsBelow (next_stamp W) X

abbrev pub LawPointers : Type 0
LawPointers = (W : World) (c : Claims) (X : Image) (i : ℕ) (a : Path) (x : Pointer) → 0 < next_stamp W
    → is_mountable X ≡ true → IsBelow (next_stamp W) X
    → is_live (inode X i) ≡ true → IsSlot a
    → PointerFrom c X i a x → Numbered W c x.stamp

-- the entries of a directory's cell in which one entry was written
abbrev pub LawEntries : Type 0
LawEntries = (old : Value) (n : ℕ) (bytes content : List ℕ)
    → length (bytes_in old) ≡ 1024 → length bytes ≡ 64 → with_entry old n bytes ≡ Bytes content
    → (entry_in content (n % 16) ≡ entry_of bytes)
    × ((j : ℕ) → j < 16 → j ≢ n % 16 → entry_in content j ≡ entry_in (bytes_in old) j)

abbrev pub LawEntryNumbers : Type 0
LawEntryNumbers = (W : World) (c : Claims) (old : Value) (place : ℕ) (bytes content : List ℕ)
    → length (bytes_in old) ≡ 1024 → length bytes ≡ 64
    → with_entry old place bytes ≡ Bytes content
    → IfSome (entry_of bytes) (λ (n : Entry). Numbered W c n.generation)
    → ((j : ℕ) → j < 16 → IfSome (entry_in (bytes_in old) j) (λ (n : Entry). Numbered W c n.generation))
    → (j : ℕ) → j < 16 → IfSome (entry_in content j) (λ (n : Entry). Numbered W c n.generation)

-- Why each write of a step on a file is proper.
use Rattle.std.specs.Prelude.{◌≡◌, ℕ, ◌<◌, ◌≤◌, ◌⊎◌, true, Some}
use Rattle.nofs_disk.specs.declared.tag.Cell.{Cell}
use Rattle.nofs_disk.specs.declared.tag.Pointer.{Pointer}
use Rattle.nofs_inode.specs.declared.inode.Record.{Record}
use Rattle.nofs_disk.specs.Tag.{tag_of}
use Rattle.nofs_disk.specs.Pointer.{is_null}
use Rattle.nofs_inode.specs.InodeRecords.{is_live}
use Rattle.nofs_ptrs.specs.Paths.{slot_limit, Path, InRecord, Under, path_of, is_pointer_slot, IsSlot}
use Rattle.nofs_model.specs.Geometry.{Image, is_data_block, inode}
use Rattle.nofs_disk.specs.Disk.{cell_at}
use Rattle.nofs_model.specs.Slots.{tag_for, find, record_pointer, IsAbove}
use Rattle.nofs_model.specs.Owners.{IsFree}
use Rattle.nofs_model.specs.declared.image.path.PathAnswer.TheVariants as answer
use Rattle.nofs_model.specs.declared.image.value.Value.TheVariants.{Bytes}
use Rattle.nofs_history.specs.Meta.{meta_of}
use Rattle.nofs_history.specs.Marks.{Mark}
use Rattle.nofs_history.specs.Machine.{Given}
use Rattle.nofs_crashlaw.specs.Images.Reasons.{Holes, ReadsSince}
use Rattle.nofs_crashlaw.specs.Images.Proper.{InPlaceOrFree, Proper, RecordProper}
use Rattle.nofs_crashlaw.specs.Images.Moments.{during}
use Rattle.nofs_crashlaw.specs.Files.Growth.{Grows}

-- the new content of slot k, in place or in a free block
pub record ContentLies (L : Mark) (given : Given) (X Y : Image) (i g k : ℕ) (x : Pointer) (c : Cell) : Type 0 where
  pub area : is_data_block L.image x.block ≡ true
  pub range : k < slot_limit
  pub generation : (inode Y i).generation ≡ g
  pub tag : tag_of c.tag ≡ Some (tag_for Y i (path_of k) x.stamp)
  pub gives : given.slots i g k ≡ Some (Bytes c.payload)
  pub place : InPlaceOrFree X x.block c

-- A cell of content is proper.
abbrev pub LawContent : Type 0
LawContent =
    (L : Mark) (given : Given) (X Y : Image) (i g k : ℕ) (x : Pointer) (c : Cell) → ContentLies L given X Y i g k x c
    → Proper (during L given) X x.block c

-- the block of pointers in slot b, on the way to slot p, of which place n is next: it held, or was claimed for an empty
-- slot
pub record PointersLie (L : Mark) (X Y : Image) (i : ℕ) (b : Path) (n : ℕ) (p : Path)
    (at : Path → Pointer) : Type 0 where
  pub area : is_data_block L.image (at b).block ≡ true
  pub points : is_pointer_slot b ≡ true
  pub slot : IsSlot b
  pub on : IsAbove (Under b n) p
  pub above : IsAbove b p
  pub live : is_live (inode X i) ≡ true
  pub generation : (inode Y i).generation ≡ (inode X i).generation
  pub kind : (inode Y i).kind ≡ (inode X i).kind
  pub reads : ReadsSince L X
  pub block : (find X i b ≡ answer.Holds (at b)) ⊎ ((find X i b ≡ answer.Hole) × IsFree X (at b).block)
  pub next : (find X i (Under b n) ≡ answer.Holds (at (Under b n))) ⊎
      ((L.stamps ≤ (at (Under b n)).stamp) × ((z : Pointer) → find X i (Under b n) ≡ answer.Holds z → ⊥))

-- A block of pointers on the path of a slot that gets its block is proper.
abbrev pub LawPointerBlock : Type 0
LawPointerBlock =
    (s : ℕ) (L : Mark) (given : Given) (X Y : Image) (i : ℕ) (b : Path) (n : ℕ) (p : Path) (at : Path → Pointer)
    → Grows s X Y i p at → PointersLie L X Y i b n p at
    → Proper (during L given) X (at b).block (cell_at Y (at b).block)

-- a record of a live inode: its meta was given or may be read, and each pointer stays, is new where nothing held, or is
-- cut off where holes are given
pub record RecordLies (L : Mark) (given : Given) (X : Image) (i : ℕ) (r : Record) : Type 0 where
  pub live : is_live (inode X i) ≡ true
  pub generation : r.generation ≡ (inode X i).generation
  pub kind : r.kind ≡ (inode X i).kind
  pub meta : (meta_of r ≡ meta_of (inode X i)) ⊎ (given.metas i r.generation ≡ Some (meta_of r))
  pub reads : ReadsSince L X
  pub pointers : (n : ℕ) → n < 10 → (record_pointer r n ≡ record_pointer (inode X i) n)
      ⊎ (((L.stamps ≤ (record_pointer r n).stamp) × ((z : Pointer) → find X i (InRecord n) ≡ answer.Holds z → ⊥))
      ⊎ ((is_null (record_pointer r n) ≡ true) × Holes (during L given) i r.generation (InRecord n)))

-- Such a record is proper, also with its new pointer and its old size.
abbrev pub LawRecord : Type 0
LawRecord = (L : Mark) (given : Given) (X : Image) (i : ℕ) (r : Record) → RecordLies L given X i r
    → RecordProper (during L given) X i r

-- Where a new entry goes, and which blocks it takes.
use Rattle.std.specs.Prelude.{◌≡◌, ℕ, ◌+◌, ◌^◌, ◌<◌, ◌≤◌, ◌⊎◌, true, Bool, List, [], ◌∷◌, length, Option, Some, None}
use Rattle.std.specs.Prelude.{IsTrue, Result, Ok, Err, IfOk, IfErr, IfSome, OnOk, nat_lt}
use Rattle.nofs_dirent.specs.Entries.{entry_limit}
use Rattle.nofs_bits.specs.Bits.{count_set, is_set}
use Rattle.nofs_disk.specs.Disk.{DiskState, StaysButFaults, Rose, cell_at}
use Rattle.nofs_disk.specs.declared.tag.Cell.{Cell}
use Rattle.nofs_disk.specs.declared.tag.Pointer.{Pointer}
use Rattle.nofs_super.specs.declared.superblock.SuperBlock.{SuperBlock}
use Rattle.nofs_model.specs.Geometry.{Image}
use Rattle.nofs_model.specs.Slots.{find}
use Rattle.nofs_ptrs.specs.Paths.{leaf, path_of}
use Rattle.nofs_model.specs.Places.{InArea}
use Rattle.nofs_model.specs.declared.image.path.PathAnswer.{PathAnswer}
use Rattle.nofs_model.specs.declared.image.path.PathAnswer.TheVariants as answer
use Rattle.nofs_history.specs.Search.{first_of}
use Rattle.nofs_history.specs.Steps.{InRange}
use Rattle.nofs_history.specs.Refusals.{row}
use Rattle.nofs_history.specs.World.{World, free_blocks, next_block, unverified_blocks}
use Rattle.nofs_history.specs.declared.machine.replies.Refusal.{Refusal}
use Rattle.nofs_history.specs.declared.machine.replies.Refusal.TheVariants as refusal
use Rattle.nofs_agree.specs.Reads.{IsLast}
use Rattle.nofs_agree.specs.declared.reads.LastRead.{LastRead}
use Rattle.nofs_state.specs.Books.Maps.{Says}
use Rattle.nofs_state.specs.Cores.Steps.{is_late}
use Rattle.nofs_state.specs.declared.books.maps.Books.{Books}
use Rattle.nofs_names.specs.Searches.Refusals.{place_of_entry}
use Rattle.nofs_names.specs.declared.entries.places.EntryBlocks.{EntryBlocks}
use Rattle.nofs_names.specs.declared.entries.places.EntrySlot.{EntrySlot}
use Rattle.nofs_names.specs.declared.entries.places.EntrySlot.TheVariants as entry
use Rattle.nofs_names.specs.declared.searches.slots.Unfound.{Unfound}

-- what was seen lies in a directory
pub record LiesInside (u : Unfound) : Type 0 where
  pub dead : IfSome u.dead (λ e. e < entry_limit)
  pub empty : IfSome u.empty (λ e. e < entry_limit)
  pub hole : IfSome u.hole (λ k. k < 72)

abbrev pub place_or_full : Option ℕ → Result ℕ Refusal
place_or_full None = Err refusal.DirectoryFull
place_or_full (Some e) = Ok e

-- this is the place of a new entry, or there is none
abbrev pub IsPlaceOf : Unfound → Result ℕ Refusal → Type 0
IsPlaceOf u result = LiesInside u → result ≡ place_or_full (place_of_entry u)

-- how many blocks a new entry takes
abbrev pub slot_blocks : EntrySlot → ℕ
slot_blocks (entry.Held x) = 0
slot_blocks entry.Direct = 1
slot_blocks (entry.UnderLeaf y) = 1
slot_blocks entry.WithLeaf = 2

-- what stands in slot k of a directory
abbrev pub IsEntrySlot : Image → ℕ → ℕ → EntrySlot → Type 0
IsEntrySlot X d k (entry.Held x) = find X d (path_of k) ≡ answer.Holds x
IsEntrySlot X d k entry.Direct = find X d (path_of k) ≡ answer.Hole
IsEntrySlot X d k (entry.UnderLeaf y) = (find X d (path_of k) ≡ answer.Hole) × (find X d leaf ≡ answer.Holds y)
IsEntrySlot X d k entry.WithLeaf = (find X d (path_of k) ≡ answer.Hole) × (find X d leaf ≡ answer.Hole)

-- where the slot lies, and the block of pointers above it
abbrev pub FitsSlot : SuperBlock → ℕ → EntrySlot → Type 0
FitsSlot at k (entry.Held x) = InArea at (answer.Holds x)
FitsSlot at k entry.Direct = k < 8
FitsSlot at k (entry.UnderLeaf y) = (8 ≤ k) × InArea at (answer.Holds y)
FitsSlot at k entry.WithLeaf = 8 ≤ k

-- the cell is that of the block that holds
abbrev pub IsSlotCell : Image → EntrySlot → Cell → Type 0
IsSlotCell X (entry.Held x) c = c ≡ cell_at X x.block
IsSlotCell X entry.Direct c = Unit {0}
IsSlotCell X (entry.UnderLeaf y) c = c ≡ cell_at X y.block
IsSlotCell X entry.WithLeaf c = Unit {0}

-- why a slot was not found: it neither holds nor is a hole, or a read failed
abbrev pub SlotFails : DiskState → DiskState → ℕ → ℕ → Refusal → Type 0
SlotFails old new d k why = ((is_late why ≡ true) × InRange why ×
    (IsTrue old.tells → ((x : Pointer) → find old.now d (path_of k) ≡ answer.Holds x → ⊥)
    × (find old.now d (path_of k) ≡ answer.Hole → ⊥)) × (new.faults ≡ old.faults))
    ⊎ ((why ≡ refusal.ReadFault) × Rose old.faults new.faults)

pub record FindsEntrySlot (old new : DiskState) (at : SuperBlock) (d k : ℕ) (last : LastRead)
    (result : Result EntrySlot Refusal) : Type 0 where
  pub stays : StaysButFaults old new
  pub no_fault : OnOk result (new.faults ≡ old.faults)
  pub fits : IfOk result (FitsSlot at k)
  pub found : IfOk result (λ s. IsTrue old.tells → IsEntrySlot old.now d k s)
  pub cell : IfOk result (λ s. IsTrue old.tells → IsSlotCell old.now s last.cell)
  pub kept : OnOk result (IsLast new last)
  pub refused : IfErr result (SlotFails old new d k)

-- the slot of a hole, by what stands at its leaf
abbrev pub IsUnderLeaf : ℕ → PathAnswer → Result EntrySlot Refusal → Type 0
IsUnderLeaf slot (answer.Holds y) result = result ≡ Ok (entry.UnderLeaf y)
IsUnderLeaf slot answer.Hole result = result ≡ Ok entry.WithLeaf
IsUnderLeaf slot answer.Lost result = result ≡ Err (refusal.LostSlot slot)

-- so many of these blocks are set, and differ
pub record AreFree (bits : List Bool) (n : ℕ) (b : EntryBlocks) : Type 0 where
  pub cell : 1 ≤ n → (is_set bits b.cell ≡ true) × (b.cell < length bits)
  pub leaf : 2 ≤ n → (is_set bits b.leaf ≡ true) × (b.leaf < length bits) × (b.cell < b.leaf)
  pub count : n ≤ count_set bits

-- the rows of a step that claims n blocks and m inodes
abbrev pub room_rows : ℕ → ℕ → World → World → List (Option Refusal)
room_rows n m W after = row (nat_lt (free_blocks W) n)
    (refusal.Full n (free_blocks after) (unverified_blocks after) (next_block after)) ∷ row
    (nat_lt (2 ^ 40) (W.serial + m + n)) refusal.SerialsSpent ∷ []

-- so many blocks and stamps are left, or this row comes
pub record TakesBlocks (k : Books) (n m : ℕ) (result : Result EntryBlocks Refusal) : Type 0 where
  pub free : IfOk result (AreFree k.free_blocks n)
  pub stamps : OnOk result (k.serial + m + n ≤ 2 ^ 40)
  pub passes : OnOk result ((W V : World) → Says k W → first_of (room_rows n m W V) ≡ None)
  pub refused : IfErr result
      (λ why. (is_late why ≡ true) × InRange why × ((W : World) → Says k W → first_of (room_rows n m W W) ≡ Some why))

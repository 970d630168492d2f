-- Which blocks stand in some slots of an inode, read slot by slot, and what is known of them once they are free.
use Rattle.std.specs.Prelude.{◌≡◌, ℕ, ◌+◌, ◌/◌, ◌<◌, ◌≤◌, ◌⊎◌, Bool, true, false, ◌&&◌, ◌||◌, not, List, [], ◌∷◌}
use Rattle.std.specs.Prelude.{length}
use Rattle.std.specs.Prelude.{IsTrue, Result, IfErr, OnOk, slice_set}
use Rattle.nofs_bits.specs.Bits.{is_set}
use Rattle.nofs_disk.specs.Disk.{DiskState, StaysButFaults, Rose}
use Rattle.nofs_disk.specs.declared.tag.Pointer.{Pointer}
use Rattle.nofs_super.specs.declared.superblock.SuperBlock.{SuperBlock}
use Rattle.nofs_model.specs.Geometry.{Image}
use Rattle.nofs_ptrs.specs.Paths.{path_of}
use Rattle.nofs_model.specs.Slots.{find}
use Rattle.nofs_model.specs.Places.{InArea}
use Rattle.nofs_model.specs.declared.image.path.PathAnswer.{PathAnswer}
use Rattle.nofs_model.specs.declared.image.path.PathAnswer.TheVariants as answer
use Rattle.nofs_history.specs.declared.machine.replies.Refusal.{Refusal}
use Rattle.nofs_history.specs.declared.machine.replies.Refusal.TheVariants as refusal
use Rattle.nofs_agree.specs.Reads.{IsLast}
use Rattle.nofs_agree.specs.declared.reads.LastRead.{LastRead}
use Rattle.nofs_state.specs.declared.books.maps.Books.{Books}
use Rattle.nofs_state.specs.Inodes.Opened.{met_fault}

-- the map with the block of a slot in which this stands
abbrev pub marked : PathAnswer → List Bool → List Bool
marked answer.Hole bits = bits
marked answer.Lost bits = bits
marked (answer.Holds x) bits = slice_set bits x.block true

-- the map with these blocks, too
abbrev pub with_all : List Bool → List ℕ → List Bool
with_all bits [] = bits
with_all bits (b ∷ bs) = with_all (slice_set bits b true) bs

-- why blocks are not found: memory is wanting, or a read failed
abbrev pub MarkFails : DiskState → DiskState → Refusal → Type 0
MarkFails old new why = (why ≡ refusal.OutOfMemory) ⊎ ((why ≡ refusal.ReadFault) × Rose old.faults new.faults)

pub record Marks (old new : DiskState) (at : SuperBlock) (i slot : ℕ) (bits bits2 : List Bool) (last : LastRead)
    (result : Result (Unit {0}) Refusal) : Type 0
  where
    pub stays : StaysButFaults old new
    pub marked_as : OnOk result ((a : PathAnswer) × (IsTrue old.tells → a ≡ find old.now i (path_of slot)) × InArea at a
        × (bits2 ≡ marked a bits))
    pub kept : OnOk result (IsLast new last)
    pub no_fault : met_fault result ≡ false → new.faults ≡ old.faults
    pub refused : IfErr result (MarkFails old new)

-- the block of a slot among some
abbrev pub IsBlockAmong : Image → ℕ → ℕ → ℕ → ℕ → Type 0
IsBlockAmong X i from to q = (k : ℕ) × (x : Pointer) × (from ≤ k) × (k < to)
    × (find X i (path_of k) ≡ answer.Holds x) × (x.block ≡ q)

-- some slots were gone through: their blocks are marked, and no others beside those that were
pub record Marked (X : Image) (told : Bool) (at : SuperBlock) (i from to : ℕ) (bits bits2 : List Bool) : Type 0 where
  pub size : length bits2 ≡ length bits
  pub area : (q : ℕ) → is_set bits2 q ≡ true → (is_set bits q ≡ true) ⊎ (1 + at.inodes / 4 ≤ q)
  pub keeps : (q : ℕ) → is_set bits q ≡ true → is_set bits2 q ≡ true
  pub sound : IsTrue told → (q : ℕ) → is_set bits2 q ≡ true → (is_set bits q ≡ true) ⊎ IsBlockAmong X i from to q
  pub whole : IsTrue told → (k : ℕ) (x : Pointer) → from ≤ k → k < to → find X i (path_of k) ≡ answer.Holds x
      → is_set bits2 x.block ≡ true

pub record MarksAll (old new : DiskState) (at : SuperBlock) (i from to : ℕ) (bits bits2 : List Bool) (last : LastRead)
    (result : Result (Unit {0}) Refusal) : Type 0 where
  pub stays : StaysButFaults old new
  pub marked_as : OnOk result (Marked old.now old.tells at i from to bits bits2)
  pub kept : OnOk result (IsLast new last)
  pub no_fault : met_fault result ≡ false → new.faults ≡ old.faults
  pub refused : IfErr result (MarkFails old new)

-- the blocks below a bound that are freed are known and free
pub record AreFreed (freed : List Bool) (bound : ℕ) (free unknown free2 unknown2 : List Bool) : Type 0 where
  pub free_size : length free2 ≡ length free
  pub unknown_size : length unknown2 ≡ length unknown
  pub freeing : (q : ℕ) → q < bound → is_set free2 q ≡ (is_set free q || is_set freed q)
  pub knowing : (q : ℕ) → q < bound → is_set unknown2 q ≡ (is_set unknown q && not (is_set freed q))
  pub free_rest : (q : ℕ) → bound ≤ q → is_set free2 q ≡ is_set free q
  pub unknown_rest : (q : ℕ) → bound ≤ q → is_set unknown2 q ≡ is_set unknown q

-- these blocks are known and free, and all else stays
pub record BlocksFreed (k l : Books) (freed : List Bool) : Type 0 where
  pub same : l ≡ record k { free_blocks = l.free_blocks; unknown_blocks = l.unknown_blocks }
  pub blocks : AreFreed freed k.at.blocks k.free_blocks k.unknown_blocks l.free_blocks l.unknown_blocks

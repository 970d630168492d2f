-- What Put owes and answers.
use Rattle.std.specs.Prelude.{◌≡◌, ◌≢◌, ℕ, ◌+◌, ◌-◌, ◌*◌, ◌/◌, ◌%◌, ◌^◌, ◌<◌, ◌≤◌, ◌&&◌, ◌||◌, ◌==◌, max, not, nat_lt}
use Rattle.std.specs.Prelude.{nat_le, Bool, true, false}
use Rattle.std.specs.Prelude.{List, length, [], ◌∷◌, if◌then◌else◌, IsTrue, Some, Result, Ok, Err, OnOk, IfErr}
use Rattle.std.specs.Prelude.{slice_set}
use Rattle.nofs_disk.specs.Disk.{DiskState, StaysButFaults, Rose, cell_at}
use Rattle.nofs_disk.specs.Number.{zeros}
use Rattle.nofs_ptrs.specs.Paths.{slot_limit, Path, InRecord, Under, path_of, slot_of}
use Rattle.nofs_bits.specs.Bits.{NoneSet, count_set, is_set}
use Rattle.nofs_inode.specs.InodeRecords.{largest_size}
use Rattle.nofs_disk.specs.declared.tag.Cell.{Cell}
use Rattle.nofs_disk.specs.declared.tag.Kind.TheVariants.{Content, Leaf}
use Rattle.nofs_disk.specs.declared.tag.Pointer.{Pointer}
use Rattle.nofs_inode.specs.declared.inode.Record.{Record}
use Rattle.nofs_disk.specs.Pointer.{is_null}
use Rattle.nofs_ptrs.specs.Cells.{pointer_at}
use Rattle.nofs_disk.specs.Tag.{tag_of}
use Rattle.nofs_model.specs.Slots.{find, value}
use Rattle.nofs_model.specs.declared.image.path.PathAnswer.TheVariants as answer
use Rattle.nofs_model.specs.declared.image.value.Value.TheVariants.{Bytes}
use Rattle.nofs_history.specs.Meta.{is_bytes}
use Rattle.nofs_history.specs.Search.{first_of}
use Rattle.nofs_history.specs.World.{World, damaged_above, next_block}
use Rattle.nofs_history.specs.Machine.{cut_of, put_content, slots_in}
use Rattle.nofs_history.specs.Claims.{no_claims}
use Rattle.nofs_history.specs.Refusals.{full, row, rows, serials_spent}
use Rattle.nofs_history.specs.declared.machine.history.Claims.{Claims}
use Rattle.nofs_history.specs.declared.machine.history.Entry1.{Entry1}
use Rattle.nofs_history.specs.declared.machine.steps.Step.{Step}
use Rattle.nofs_history.specs.declared.machine.steps.Step.TheVariants as step
use Rattle.nofs_history.specs.declared.machine.replies.Reply.{Reply}
use Rattle.nofs_history.specs.declared.machine.replies.Reply.TheVariants as reply
use Rattle.nofs_history.specs.declared.machine.replies.Refusal.{Refusal}
use Rattle.nofs_history.specs.declared.machine.replies.Refusal.TheVariants as refusal
use Rattle.nofs_agree.specs.Chain.{AreTrue}
use Rattle.nofs_agree.specs.Reads.{IsLast}
use Rattle.nofs_agree.specs.declared.reads.LastRead.{LastRead}
use Rattle.nofs_crashlaw.specs.Numbers.Cells.{table_tag}
use Rattle.nofs_state.specs.Books.Maps.{IsSafe, MapsFit, Says, claimed_books, claimed_pointer}
use Rattle.nofs_state.specs.Inodes.Opened.{is_current}
use Rattle.nofs_state.specs.Cores.Invariant.{IsOpen, Past}
use Rattle.nofs_state.specs.Cores.Steps.{Goes}
use Rattle.nofs_state.specs.declared.books.maps.Books.{Books}
use Rattle.nofs_state.specs.Writes.Premises.{RecordIn}
use Rattle.nofs_state.specs.declared.writes.ends.Ended.{Ended}
use Rattle.nofs_files.specs.Reads.{IsFile}
use Rattle.nofs_files.specs.declared.puts.put.Put.{Put}

-- the record with another size
abbrev pub sized : Record → ℕ → Record
sized r n = record r { size = n }

abbrev pub put_answer : Result (Unit {0}) Refusal → Reply
put_answer (Ok done) = reply.Stored
put_answer (Err why) = reply.Refused why

-- the step that is asked
abbrev pub step_of_put : Put → Step
step_of_put p = step.Put p.inode p.generation p.slot p.at p.bytes.now

-- the file's size after it
abbrev pub size_after : Put → ℕ → ℕ
size_after p size = max size (1024 * p.slot + p.at + length p.bytes.now)

-- what a Put does, with its claims and its answer
abbrev pub PutGoes : DiskState → Books → DiskState → Books → Put → Ended → Type 0
PutGoes old k new l p e = Goes old k new l (step_of_put p) e.claims (put_answer e.result)

-- a mount that has no failed write serves a Put of a file that was opened, and so many writes have room
pub record MayPut (d : DiskState) (k : Books) (p : Put) (r : Record) (read : LastRead) (writes : ℕ) : Type 0 where
  pub safe : IsSafe d k
  pub spare : writes ≤ d.spare
  pub going : k.stopped ≡ false
  pub file : IsFile d k.at p.inode p.generation r
  pub current : IsTrue d.tells → AreTrue d.now k.agreement → is_current d.now p.inode p.generation ≡ true
  pub range : p.at + length p.bytes.now ≤ 1024
  pub size : r.size ≤ largest_size
  pub eight : length r.direct ≡ 8
  pub last : IsLast d read

-- its slot has no bytes
pub record IsEmptySlot (d : DiskState) (p : Put) : Type 0 where
  pub slot : p.slot < slot_limit
  pub empty : IsTrue d.tells → is_bytes (value d.now p.inode p.slot) ≡ false

-- a block of pointers holds
pub record HeldAt (d : DiskState) (k : Books) (i : ℕ) (a : Path) (x : Pointer) : Type 0 where
  pub positive : 0 < x.block
  pub area : x.block < k.at.blocks
  pub held : IsTrue d.tells → find d.now i a ≡ answer.Holds x

-- nothing stands there
abbrev pub IsHole : DiskState → ℕ → Path → Type 0
IsHole d i a = IsTrue d.tells → find d.now i a ≡ answer.Hole

-- the slot lies in this place below a block of pointers
pub record IsUnder (slot : ℕ) (a : Path) (n : ℕ) : Type 0 where
  pub path : path_of slot ≡ Under a n
  pub place : n < 64

-- the slot lies in this place below this child of the top
pub record IsFar (slot j n : ℕ) : Type 0 where
  pub path : path_of slot ≡ Under (Under (InRecord 9) j) n
  pub child : j < 64
  pub place : n < 64

-- the cell of a slot that had no bytes
pub record IsContent (p : Put) (size stamp : ℕ) (c : Cell) : Type 0 where
  pub payload : c.payload ≡ put_content (Bytes (zeros 1024)) size p.slot p.at p.bytes.now
  pub tag : tag_of c.tag
      ≡ Some (record { kind = Content; inode = p.inode; generation = p.generation; slot = p.slot; stamp = stamp })

-- a new block of pointers with one pointer
pub record OnePointer (i g : ℕ) (a : Path) (n : ℕ) (x : Pointer) (stamp : ℕ) (c : Cell) : Type 0 where
  pub tag : tag_of c.tag ≡ Some (record { kind = Leaf; inode = i; generation = g; slot = slot_of a; stamp = stamp })
  pub pointer : pointer_at c.payload n ≡ x
  pub others : (q : ℕ) → q ≢ n → q < 64 → is_null (pointer_at c.payload q) ≡ true

-- a cell of the table with another record of inode i in it, and with its tag
pub record IsRecordCell (old : Cell) (i : ℕ) (r : Record) (new : Cell) : Type 0 where
  pub here : RecordIn old i r new
  pub tag : tag_of new.tag ≡ Some (table_tag (1 + (i - 1) / 4))

-- the cell of the table where the record of inode i stands is read
pub record ReadsTable (old new : DiskState) (i : ℕ) (last : LastRead)
    (result : Result (Unit {0}) Refusal) : Type 0 where
  pub stays : StaysButFaults old new
  pub cell : OnOk result (IsTrue old.tells → last.cell ≡ cell_at old.now (1 + (i - 1) / 4))
  pub kept : OnOk result (IsLast new last)
  pub refused : IfErr result (λ why. (why ≡ refusal.ReadFault) × Rose old.faults new.faults)
  pub no_fault : OnOk result (new.faults ≡ old.faults)

-- what is claimed where one block is, and what it leaves of the books; two; and three
abbrev pub one_claim : Books → ℕ → Claims
one_claim k b = record no_claims { cell = claimed_pointer k b }

abbrev pub two_claims : Books → ℕ → ℕ → Claims
two_claims k b e = record no_claims { cell = claimed_pointer k b; leaf = claimed_pointer (claimed_books k b) e }

abbrev pub two_books : Books → ℕ → ℕ → Books
two_books k b e = claimed_books (claimed_books k b) e

abbrev pub three_claims : Books → ℕ → ℕ → ℕ → Claims
three_claims k b e h = record no_claims {
  cell = claimed_pointer k b;
  leaf = claimed_pointer (claimed_books k b) e;
  top = claimed_pointer (two_books k b e) h;
}

abbrev pub three_books : Books → ℕ → ℕ → ℕ → Books
three_books k b e h = claimed_books (two_books k b e) h

-- the record with another size and another direct pointer
abbrev pub pointed : Record → ℕ → ℕ → Pointer → Record
pointed r n slot x = record r { size = n; direct = slice_set r.direct slot x }

-- no row before those of blocks and stamps refuses the step
abbrev pub RowsLead : DiskState → Books → Step → Type 0
RowsLead d k s = IsTrue d.tells → (H : List Entry1) (p : Past) → IsOpen d k H p → (V : World)
    → first_of (rows p.world V s) ≡ first_of (full p.world V s ∷ serials_spent p.world s ∷ [])

-- all rows before that of lost blocks above a slot pass, and the slot itself may be put
abbrev pub RowsReach : DiskState → Books → ℕ → ℕ → ℕ → ℕ → List ℕ → Type 0
RowsReach d k i g slot at bytes =
    let s : Step = step.Put i g slot at bytes in
    IsTrue d.tells → (H : List Entry1) (p : Past) → IsOpen d k H p → (V : World)
    → first_of (rows p.world V s) ≡ first_of (row (damaged_above p.world.files i (path_of slot)) (refusal.LostSlot slot)
    ∷ full p.world V s ∷ serials_spent p.world s ∷ [])

abbrev pub RowsReachOf : DiskState → Books → Put → Type 0
RowsReachOf d k p = RowsReach d k p.inode p.generation p.slot p.at p.bytes.now

-- the bytes don't lie in one slot, or there are none
abbrev pub is_bad_range : ℕ → ℕ → Bool
is_bad_range at len = nat_lt 1024 (at + len) || (len == 0)

-- a gap would stand before the slot
abbrev pub is_past_end : ℕ → ℕ → Bool
is_past_end size k = nat_lt (slots_in size) k || ((k == slots_in size) && not (size % 1024 == 0))

-- a lost slot of which some bytes below the size stay
abbrev pub is_lost_under : ℕ → ℕ → ℕ → ℕ → Bool
is_lost_under size k at len = nat_lt k (slots_in size) && not ((at == 0) && nat_le (cut_of size k) len)

-- the record with another size and another pointer of its leaf, place 8, or of its top
abbrev pub rooted : Record → ℕ → ℕ → Pointer → Record
rooted r n place x =
    record r { size = n; leaf = if place == 8 then x else r.leaf; top = if place == 8 then r.top else x }

-- the least bit of a map that is set
pub record IsOneFree (bits : List Bool) (a : ℕ) : Type 0 where
  pub first : is_set bits a ≡ true
  pub range : a < length bits

-- the least two bits of a map that are set
pub record AreTwoFree (bits : List Bool) (a b : ℕ) : Type 0 where
  pub first : is_set bits a ≡ true
  pub second : is_set bits b ≡ true
  pub order : a < b
  pub range : b < length bits
  pub before : NoneSet bits 0 a
  pub between : NoneSet bits (a + 1) b

-- three bits of a map are set
pub record AreThreeFree (bits : List Bool) (a b c : ℕ) : Type 0 where
  pub two : AreTwoFree bits a b
  pub third : is_set bits c ≡ true
  pub order : b < c
  pub range : c < length bits

-- the books have what a claim takes: a map of the disk's size, and numbers that make a stamp
pub record MayClaim (k : Books) : Type 0 where
  pub map : length k.free_blocks < 2 ^ 64
  pub mount : k.at.mount < 2 ^ 24
  pub serial : k.serial ≤ 2 ^ 40

-- so many blocks are free, and as many stamps are left
pub record HasRoom (k : Books) (n : ℕ) : Type 0 where
  pub blocks : n ≤ count_set k.free_blocks
  pub stamps : k.serial + n ≤ 2 ^ 40

-- the refusal of a step that asks for more blocks than are free
pub record IsFull (k : Books) (n : ℕ) (why : Refusal) : Type 0 where
  pub next : ℕ
  pub is_next : (W : World) → Says k W → MapsFit k → next ≡ next_block W
  pub same : why ≡ refusal.Full n (count_set k.free_blocks) (count_set k.unknown_blocks) next

-- why a step that claims so many blocks is refused
pub data NoRoom (k : Books) (n : ℕ) (why : Refusal) : Type 0 where
  TooFull : count_set k.free_blocks < n → IsFull k n why → NoRoom k n why
  StampsSpent : n ≤ count_set k.free_blocks → 2 ^ 40 < k.serial + n → why ≡ refusal.SerialsSpent → NoRoom k n why

-- What a change of size cuts off, what it reads and writes, and what it answers.
use Rattle.std.specs.Prelude.{◌≡◌, ◌≢◌, ℕ, ◌+◌, ◌-◌, ◌*◌, ◌/◌, ◌%◌, ◌^◌, ◌<◌, ◌≤◌, ◌⊎◌}
use Rattle.std.specs.Prelude.{min, nat_lt, nat_le, Bool, true, false, List, [], ◌∷◌, ◌++◌, length, take}
use Rattle.std.specs.Prelude.{replicate, Option, None, Some, if◌then◌else◌, IsTrue, Result, Ok, Err, IfOk, IfErr}
use Rattle.std.specs.Prelude.{IfSome, OnOk}
use Rattle.nofs_ptrs.specs.Paths.{slot_limit, Path, InRecord, Under, path_of}
use Rattle.nofs_bits.specs.Bits.{is_set}
use Rattle.nofs_inode.specs.InodeRecords.{largest_size}
use Rattle.nofs_disk.specs.declared.Failed.{Failed}
use Rattle.nofs_disk.specs.Disk.{DiskState, StaysButFaults, Rose, cell_at}
use Rattle.nofs_disk.specs.Pointer.{null, is_null}
use Rattle.nofs_ptrs.specs.Cells.{pointer_at}
use Rattle.nofs_disk.specs.declared.tag.Cell.{Cell}
use Rattle.nofs_disk.specs.declared.tag.Pointer.{Pointer}
use Rattle.nofs_inode.specs.declared.inode.Record.{Record}
use Rattle.nofs_super.specs.declared.superblock.SuperBlock.{SuperBlock}
use Rattle.nofs_model.specs.Geometry.{Image}
use Rattle.nofs_model.specs.Slots.{find}
use Rattle.nofs_model.specs.declared.image.path.PathAnswer.{PathAnswer}
use Rattle.nofs_model.specs.declared.image.path.PathAnswer.TheVariants as answer
use Rattle.nofs_history.specs.Claims.{no_claims}
use Rattle.nofs_history.specs.Machine.{slots_in, trimmed}
use Rattle.nofs_history.specs.declared.machine.steps.Step.TheVariants as step
use Rattle.nofs_history.specs.declared.machine.replies.Reply.{Reply}
use Rattle.nofs_history.specs.declared.machine.replies.Reply.TheVariants as reply
use Rattle.nofs_history.specs.declared.machine.replies.Refusal.{Refusal}
use Rattle.nofs_history.specs.declared.machine.replies.Refusal.TheVariants as refusal
use Rattle.nofs_agree.specs.Chain.{AreTrue}
use Rattle.nofs_agree.specs.Reads.{IsLast}
use Rattle.nofs_agree.specs.declared.reads.LastRead.{LastRead}
use Rattle.nofs_state.specs.Books.Maps.{IsSafe}
use Rattle.nofs_state.specs.Inodes.Opened.{is_current, met_fault}
use Rattle.nofs_state.specs.Cores.Steps.{Goes}
use Rattle.nofs_state.specs.Inodes.Blocks.{IsBlockAmong, MarkFails}
use Rattle.nofs_state.specs.declared.books.maps.Books.{Books}
use Rattle.nofs_state.specs.Writes.Premises.{RowsPass}
use Rattle.nofs_files.specs.Reads.{IsFile, slots_of}
use Rattle.nofs_files.specs.declared.resizes.cuts.NewCell.{NewCell}
use Rattle.nofs_files.specs.declared.resizes.cuts.Edge.{Edge}

abbrev pub resize_answer : Result (Unit {0}) Refusal → Reply
resize_answer (Ok done) = reply.Resized
resize_answer (Err why) = reply.Refused why

-- what a Resize does, with its answer
abbrev pub ResizeGoes : DiskState → Books → DiskState → Books → ℕ → ℕ → ℕ → Result (Unit {0}) Refusal → Type 0
ResizeGoes old k new l i g size result = Goes old k new l (step.Resize i g size) no_claims (resize_answer result)

-- a mount that has no failed write serves a Resize of a file that was opened
pub record MayResize (d : DiskState) (k : Books) (i : ℕ) (r : Record) (size : ℕ) : Type 0 where
  pub safe : IsSafe d k
  pub going : k.stopped ≡ false
  pub file : IsFile d k.at i r.generation r
  pub current : IsTrue d.tells → AreTrue d.now k.agreement → is_current d.now i r.generation ≡ true
  pub fits : size ≤ 1024 * slots_of k.at
  pub most : size ≤ largest_size

-- the lesser of the slots of both sizes: so many stay
abbrev pub kept_slots : ℕ → ℕ → ℕ
kept_slots old size = min (slots_in old) (slots_in size)

-- the number of the first block of pointers that goes
abbrev pub first_cut : ℕ → ℕ
first_cut kept = if nat_le kept 8 then 2 ^ 32 else (if nat_le kept 72 then 2 ^ 32 + 1 else 2 ^ 32 + 2 + (kept - 9) / 64)

-- a pointer where it stays
abbrev pub kept_pointer : Pointer → Bool → Pointer
kept_pointer x stays = if stays then x else null

-- the record with another size and without the pointers that are cut off
abbrev pub cut_record : Record → ℕ → ℕ → Record
cut_record r n kept = record r {
  size = n;
  direct = take (min kept 8) r.direct ++ replicate (8 - min kept 8) null;
  leaf = kept_pointer r.leaf (nat_lt 8 kept);
  top = kept_pointer r.top (nat_lt 72 kept);
}

-- a write that comes, or none, and then others
abbrev pub maybe : Option NewCell → List (ℕ × Cell) → List (ℕ × Cell)
maybe None ws = ws
maybe (Some it) ws = (it.block, it.cell) ∷ ws

-- the end of the content, the blocks of pointers that are cut inside, and the table
abbrev pub cut_writes : Option NewCell → Edge → ℕ → Cell → List (ℕ × Cell)
cut_writes tail edge block table = maybe tail (maybe edge.below (maybe edge.above ((block, table) ∷ [])))

-- it lies in the data area
abbrev pub CellInData : SuperBlock → NewCell → Type 0
CellInData at it = (1 + at.inodes / 4 ≤ it.block) × (it.block < at.blocks)

-- a cell of pointers without those from a place on
pub record IsCutCell (from : ℕ) (old new : Cell) : Type 0 where
  pub tag : new.tag ≡ old.tag
  pub kept : (n : ℕ) → n < from → n < 64 → pointer_at new.payload n ≡ pointer_at old.payload n
  pub cut : (n : ℕ) → from ≤ n → n < 64 → is_null (pointer_at new.payload n) ≡ true

-- the block in a slot that isn't lost, without the pointers from a place on
abbrev pub IsCutBlock : Image → PathAnswer → ℕ → Option NewCell → Type 0
IsCutBlock X answer.Hole from cut = cut ≡ None
IsCutBlock X answer.Lost from cut = ⊥
IsCutBlock X (answer.Holds x) from cut = (it : NewCell) × (cut ≡ Some it) × (it.block ≡ x.block)
    × IsCutCell from (cell_at X x.block) it.cell

-- why a block is not cut: it is lost, or a read failed
abbrev pub CutFails : DiskState → DiskState → ℕ → Path → ℕ → Refusal → Type 0
CutFails old new i path slot why =
    ((why ≡ refusal.LostSlot slot) × (IsTrue old.tells → find old.now i path ≡ answer.Lost)) ⊎
    ((why ≡ refusal.ReadFault) × Rose old.faults new.faults)

pub record CutsBlock (old new : DiskState) (at : SuperBlock) (i : ℕ) (path : Path) (from slot : ℕ) (last : LastRead)
    (result : Result (Option NewCell) Refusal) : Type 0 where
  pub stays : StaysButFaults old new
  pub cut : IfOk result (λ o. IsTrue old.tells → IsCutBlock old.now (find old.now i path) from o)
  pub area : IfOk result (λ o. IfSome o (CellInData at))
  pub kept : OnOk result (IsLast new last)
  pub refused : IfErr result (CutFails old new i path slot)
  pub no_fault : met_fault result ≡ false → new.faults ≡ old.faults

-- the last child that stays
abbrev pub last_child : ℕ → ℕ
last_child kept = (kept - 73) / 64

-- the top and its last child, of a file that keeps slots under a child
pub record IsFarEdge (X : Image) (i kept : ℕ) (edge : Edge) : Type 0 where
  pub top : IsCutBlock X (find X i (InRecord 9)) (last_child kept + 1) edge.above
  pub child : IsCutBlock X (find X i (Under (InRecord 9) (last_child kept)))
      (kept - (72 + 64 * last_child kept)) edge.below

-- the blocks of pointers that are cut inside
pub record IsEdge (X : Image) (i kept : ℕ) (edge : Edge) : Type 0 where
  pub near : kept ≤ 8 → (edge.below ≡ None) × (edge.above ≡ None)
  pub leaf : 8 < kept → kept ≤ 72 → IsCutBlock X (find X i (InRecord 8)) (kept - 8) edge.below × (edge.above ≡ None)
  pub whole : 8 < kept → find X i (InRecord 8) ≢ answer.Lost
  pub far : 72 < kept → IsFarEdge X i kept edge

-- what is cut lies in the data area
pub record EdgeInData (at : SuperBlock) (edge : Edge) : Type 0 where
  pub below : IfSome edge.below (CellInData at)
  pub above : IfSome edge.above (CellInData at)

-- why the edge is not found: what is cut inside is lost, or a read failed
pub data EdgeFails (old new : DiskState) (i kept : ℕ) (why : Refusal) : Type 0 where
  LostLeaf : why ≡ refusal.LostSlot 8 → (IsTrue old.tells → (8 < kept) × (find old.now i (InRecord 8) ≡ answer.Lost))
      → EdgeFails old new i kept why
  LostTop : why ≡ refusal.LostSlot 72 → (IsTrue old.tells → (72 < kept) × (find old.now i (InRecord 8) ≢ answer.Lost) ×
      (find old.now i (InRecord 9) ≡ answer.Lost)) → EdgeFails old new i kept why
  LostChild : why ≡ refusal.LostSlot (72 + 64 * last_child kept)
      → (IsTrue old.tells
      → (72 < kept) × (find old.now i (InRecord 8) ≢ answer.Lost) × (find old.now i (InRecord 9) ≢ answer.Lost) ×
      (find old.now i (Under (InRecord 9) (last_child kept)) ≡ answer.Lost)) → EdgeFails old new i kept why
  EdgeUnread : why ≡ refusal.ReadFault → Rose old.faults new.faults → EdgeFails old new i kept why

-- why the top or its last child is not found
pub data FarFails (old new : DiskState) (i kept : ℕ) (why : Refusal) : Type 0 where
  FarTop : why ≡ refusal.LostSlot 72 → (IsTrue old.tells → find old.now i (InRecord 9) ≡ answer.Lost)
      → FarFails old new i kept why
  FarChild : why ≡ refusal.LostSlot (72 + 64 * last_child kept)
      → (IsTrue old.tells → (find old.now i (InRecord 9) ≢ answer.Lost)
      × (find old.now i (Under (InRecord 9) (last_child kept)) ≡ answer.Lost))
      → FarFails old new i kept why
  FarUnread : why ≡ refusal.ReadFault → Rose old.faults new.faults → FarFails old new i kept why

-- an edge is found, or there is a reason
pub record FindsEdgeOf (Is : Edge → Type 0) (Fails : Refusal → Type 0) (old new : DiskState) (at : SuperBlock)
    (last : LastRead)
    (result : Result Edge Refusal) : Type 0 where
  pub stays : StaysButFaults old new
  pub edge : IfOk result (λ e. IsTrue old.tells → Is e)
  pub area : IfOk result (EdgeInData at)
  pub kept_last : OnOk result (IsLast new last)
  pub refused : IfErr result Fails
  pub no_fault : met_fault result ≡ false → new.faults ≡ old.faults

abbrev pub FindsFar : DiskState → DiskState → SuperBlock → ℕ → ℕ → LastRead → Result Edge Refusal → Type 0
FindsFar old new at i kept last result =
    FindsEdgeOf (IsFarEdge old.now i kept) (FarFails old new i kept) old new at last result

abbrev pub FindsEdge : DiskState → DiskState → SuperBlock → ℕ → ℕ → LastRead → Result Edge Refusal → Type 0
FindsEdge old new at i kept last result =
    FindsEdgeOf (IsEdge old.now i kept) (EdgeFails old new i kept) old new at last result

-- the block of a slot, with zeros behind the end
abbrev pub IsTailOf : Image → PathAnswer → ℕ → Option NewCell → Type 0
IsTailOf X answer.Hole cut tail = tail ≡ None
IsTailOf X answer.Lost cut tail = tail ≡ None
IsTailOf X (answer.Holds x) cut tail = (it : NewCell) × (tail ≡ Some it) × (it.block ≡ x.block)
    × (it.cell.tag ≡ (cell_at X x.block).tag) ×
    (it.cell.payload ≡ trimmed cut (cell_at X x.block).payload)

-- the end of the content, where a file does not shrink below it
pub record IsTail (X : Image) (i old size : ℕ) (tail : Option NewCell) : Type 0 where
  pub skips : (size < old) ⊎ (old % 1024 ≡ 0) → tail ≡ None
  pub ends : old ≤ size → old % 1024 ≢ 0 → IsTailOf X (find X i (path_of (old / 1024))) (old % 1024) tail

pub record FindsTail (old new : DiskState) (at : SuperBlock) (i end size : ℕ) (last : LastRead)
    (result : Result (Option NewCell) Failed) : Type 0 where
  pub stays : StaysButFaults old new
  pub tail : IfOk result (λ o. IsTrue old.tells → IsTail old.now i end size o)
  pub area : IfOk result (λ o. IfSome o (CellInData at))
  pub kept : OnOk result (IsLast new last)
  pub cause : IfErr result (λ failed. Rose old.faults new.faults)
  pub no_fault : OnOk result (new.faults ≡ old.faults)

-- the blocks of the slots that go
pub record IsCutMap (d : DiskState) (at : SuperBlock) (i kept : ℕ) (freed : List Bool) : Type 0 where
  pub size : length freed ≡ at.blocks
  pub in_area : (q : ℕ) → is_set freed q ≡ true → 1 + at.inodes / 4 ≤ q
  pub sound : IsTrue d.tells → (q : ℕ) → is_set freed q ≡ true → IsBlockAmong d.now i kept slot_limit q
      ⊎ IsBlockAmong d.now i (first_cut kept) (2 ^ 32 + 66) q
  pub contents : IsTrue d.tells → (k : ℕ) (x : Pointer)
      → kept ≤ k → k < slot_limit → find d.now i (path_of k) ≡ answer.Holds x → is_set freed x.block ≡ true
  pub pointers : IsTrue d.tells
      → (k : ℕ) (x : Pointer) → first_cut kept ≤ k → k < 2 ^ 32 + 66 → find d.now i (path_of k) ≡ answer.Holds x
      → is_set freed x.block ≡ true

pub record MarksCut (old new : DiskState) (at : SuperBlock) (i kept : ℕ) (last : LastRead)
    (result : Result (List Bool) Refusal) : Type 0 where
  pub stays : StaysButFaults old new
  pub map : IfOk result (IsCutMap new at i kept)
  pub kept_last : OnOk result (IsLast new last)
  pub refused : IfErr result (MarkFails old new)
  pub no_fault : met_fault result ≡ false → new.faults ≡ old.faults

-- what a change of size has read, and is to write; no row refuses the step
pub record MayCut (d : DiskState) (k : Books) (i g size : ℕ) (r : Record) (tail : Option NewCell) (edge : Edge)
    (freed : List Bool) : Type 0 where
  pub safe : IsSafe d k
  pub going : k.stopped ≡ false
  pub file : IsFile d k.at i g r
  pub current : IsTrue d.tells → AreTrue d.now k.agreement → is_current d.now i g ≡ true
  pub old : r.size ≤ largest_size
  pub new : size ≤ largest_size
  pub eight : length r.direct ≡ 8
  pub tail_data : IfSome tail (CellInData k.at)
  pub edge_data : EdgeInData k.at edge
  pub tail_is : IsTrue d.tells → IsTail d.now i r.size size tail
  pub edge_is : IsTrue d.tells → IsEdge d.now i (kept_slots r.size size) edge
  pub map : IsCutMap d k.at i (kept_slots r.size size) freed
  pub rows : RowsPass d k (step.Resize i g size)

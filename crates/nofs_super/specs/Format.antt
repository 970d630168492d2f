-- What a format leaves on a device.
use Rattle.std.specs.Prelude.{◌≡◌, ℕ, ◌+◌, ◌*◌, ◌/◌, ◌<◌, ◌≤◌, ◌==◌, if◌then◌else◌, nat_le, List, [], ◌++◌, map, drop}
use Rattle.std.specs.Prelude.{length, None, Some, Result, Ok, Err, ◌⊎◌}
use Rattle.std.specs.Prelude.{IsTrue, OnErr, OnOk, slice_set}
use Rattle.std.specs.List.{range_with_len}
use Rattle.std.proofs.lemmas.List.FromFn.{get_or-map-range_with_len, length-map-range_with_len}
use Rattle.std.proofs.Common.{arith}
use Rattle.nofs_disk.specs.declared.tag.Cell.{Cell}
use Rattle.nofs_disk.specs.declared.tag.Kind.TheVariants.{Super, Table}
use Rattle.nofs_disk.specs.Adds.{Adds}
use Rattle.nofs_disk.specs.declared.Failed.{Failed}
use Rattle.nofs_disk.specs.Disk.{DiskState, IsSettled, KeepsCells, Rose, StaysButFaults, cell_at, no_cell}
use Rattle.nofs_disk.specs.Number.{put_bytes, put_number, zeros}
use Rattle.nofs_disk.specs.Tag.{tag_bytes, zero_cell}
use Rattle.nofs_super.specs.Geometry.{format_fault}
use Rattle.nofs_super.specs.Super.{magic}
use Rattle.nofs_super.specs.declared.geometry.FormatFault.{FormatFault}
use Rattle.nofs_super.specs.declared.geometry.FormatFault.TheVariants.{TooSmall, TooLarge, NotMultiple, WriteFault}
use Rattle.nofs_super.specs.declared.geometry.FormatFault.TheVariants.{OutOfMemory}
use Rattle.nofs_super.specs.declared.superblock.SuperBlock.{SuperBlock}

-- the payload that spells a superblock
unfoldable pub super_payload : SuperBlock → List ℕ
super_payload it = put_number 8 32 it.mount
    (put_number 8 24 it.inodes (put_number 8 16 it.blocks (put_number 4 8 it.version (put_bytes 0 magic (zeros 1024)))))

-- the cell of block 0 with a superblock
unfoldable pub super_cell : SuperBlock → Cell
super_cell it = record {
  payload = super_payload it;
  tag = tag_bytes (record { kind = Super; inode = 0; generation = 0; slot = 0; stamp = 0 });
}

-- a directory of generation 1, a file of generation 2, both empty and without names, and two free records
unfoldable pub first_records : List ℕ
first_records = put_number 4 264 1 (put_number 8 256 2 (put_number 4 8 2 (put_number 8 0 1 (zeros 1024))))

-- a block of the inode table after a format
unfoldable pub table_cell : ℕ → Cell
table_cell block = record {
  payload = if block == 1 then first_records else zeros 1024;
  tag =
      tag_bytes (record { kind = Table; inode = 0; generation = 0; slot = block; stamp = 0 });
}

-- the superblock that a format writes
abbrev pub fresh_super : ℕ → ℕ → SuperBlock
fresh_super blocks inodes = record { version = 1; blocks = blocks; inodes = inodes; mount = 0 }

-- the cell of a block after a format
unfoldable pub formatted_cell : ℕ → ℕ → ℕ → Cell
formatted_cell blocks inodes block =
    if block == 0 then super_cell (fresh_super blocks inodes)
    else if nat_le block (inodes / 4) then table_cell block
    else zero_cell

-- the cells of the first n blocks after a format
unfoldable pub first_formatted : ℕ → ℕ → ℕ → List Cell
first_formatted blocks inodes n = map (formatted_cell blocks inodes) (range_with_len 0 n)

-- the cells that a format writes
abbrev pub formatted : ℕ → ℕ → List Cell
formatted blocks inodes = first_formatted blocks inodes blocks

pub length-first_formatted : (blocks inodes n : ℕ) → length (first_formatted blocks inodes n) ≡ n
unfolding first_formatted
length-first_formatted blocks inodes n = length-map-range_with_len (formatted_cell blocks inodes) 0 n

pub cell_at-formatted : (blocks inodes b : ℕ)
    → b < blocks → cell_at (formatted blocks inodes) b ≡ formatted_cell blocks inodes b
unfolding first_formatted
cell_at-formatted blocks inodes b low =
    get_or-map-range_with_len (formatted_cell blocks inodes) 0 blocks b b no_cell low (omega arith)

-- a cell that a format writes
pub record IsFreshCell (blocks inodes block : ℕ) (c : Cell) : Type 0 where
  pub low : block < blocks
  pub is : c ≡ formatted_cell blocks inodes block

-- the cell of a block was written, and the disk was told to write one out that it keeps back. Where either failed, the
-- block has its old cell or the new one
pub record PutsFresh (blocks inodes block : ℕ) (old new : DiskState) (result : Result (Unit {0}) Failed) : Type 0 where
  pub adds : Adds (IsFreshCell blocks inodes) old new
  pub moment : new.moment ≡ old.moment + 2
  pub spare : old.spare ≤ new.spare + 2
  pub ok : OnOk result (new.now ≡ slice_set old.now block (formatted_cell blocks inodes block))
  pub err : OnErr result
      ((new.now ≡ old.now) ⊎ (new.now ≡ slice_set old.now block (formatted_cell blocks inodes block)))
  pub cause : OnErr result (Rose old.faults new.faults)
  pub no_fault : OnOk result (new.faults ≡ old.faults)

-- each block has its old cell, or the one that a format gives it
abbrev pub OldOrFresh : ℕ → ℕ → DiskState → DiskState → Type 0
OldOrFresh blocks inodes old new =
    (b : ℕ) → (cell_at new.now b ≡ cell_at old.now b) ⊎ IsFreshCell blocks inodes b (cell_at new.now b)

-- the disk holds what a format writes, and nothing else is possible
pub record IsFormatted (blocks inodes : ℕ) (old new : DiskState) : Type 0 where
  pub accepted : format_fault old.blocks blocks inodes ≡ None
  pub now : IsTrue old.tells → new.now ≡ formatted blocks inodes ++ drop blocks old.now
  pub settled : IsSettled new
  pub was : new.was new.moment ≡ new.now
  pub clean : new.dirty ≡ []
  pub moment : new.moment ≡ old.moment + (2 * blocks + 2)
  pub no_fault : new.faults ≡ old.faults

-- a format that a fault of the device ended
pub record IsFaulted (blocks inodes : ℕ) (old new : DiskState) : Type 0 where
  pub accepted : format_fault old.blocks blocks inodes ≡ None
  pub cause : Rose old.faults new.faults
  pub began : old.moment < new.moment
  pub most : new.moment ≤ old.moment + (2 * blocks + 2)
  pub now : OldOrFresh blocks inodes old new

-- a format for which there was no room
pub record IsShort (blocks inodes : ℕ) (old new : DiskState) : Type 0 where
  pub accepted : format_fault old.blocks blocks inodes ≡ None
  pub cells : KeepsCells old new
  pub faults : new.faults ≡ old.faults
  pub dirty : new.dirty ≡ old.dirty
  pub spare : old.spare ≤ new.spare

-- a format that was refused for this reason: no call was made
pub record IsFormatRefused (blocks inodes : ℕ) (fault : FormatFault) (old new : DiskState) : Type 0 where
  pub why : format_fault old.blocks blocks inodes ≡ Some fault
  pub stays : StaysButFaults old new
  pub faults : new.faults ≡ old.faults

-- how a format ends
abbrev pub FormatEnds : ℕ → ℕ → DiskState → DiskState → Result (Unit {0}) FormatFault → Type 0
FormatEnds blocks inodes old new (Ok _) = IsFormatted blocks inodes old new
FormatEnds blocks inodes old new (Err WriteFault) = IsFaulted blocks inodes old new
FormatEnds blocks inodes old new (Err OutOfMemory) = IsShort blocks inodes old new
FormatEnds blocks inodes old new (Err (TooSmall least)) = IsFormatRefused blocks inodes (TooSmall least) old new
FormatEnds blocks inodes old new (Err (TooLarge most)) = IsFormatRefused blocks inodes (TooLarge most) old new
FormatEnds blocks inodes old new (Err (NotMultiple bad)) = IsFormatRefused blocks inodes (NotMultiple bad) old new

-- A record in its cell of the inode table.
use Rattle.std.specs.Prelude.{◌≡◌, ℕ, ◌+◌, ◌-◌, ◌/◌, Some}
use Rattle.nofs_disk.specs.declared.tag.Cell.{Cell}
use Rattle.nofs_inode.specs.declared.inode.Record.{Record}
use Rattle.nofs_disk.specs.Tag.{tag_of}
use Rattle.nofs_crashlaw.specs.Numbers.Cells.{table_tag}
use Rattle.nofs_state.specs.Writes.Premises.{RecordIn}

-- the block of the table with the record of an inode
abbrev pub table_block : ℕ → ℕ
table_block i = 1 + (i - 1) / 4

-- a cell of the table with another record of an inode in it, and its tag
pub record IsTable (before : Cell) (i : ℕ) (r : Record) (after : Cell) : Type 0 where
  pub here : RecordIn before i r after
  pub tag : tag_of after.tag ≡ Some (table_tag (table_block i))

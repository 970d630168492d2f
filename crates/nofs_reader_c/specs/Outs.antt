-- Answers as structs of C.
use Rattle.std.specs.Prelude.{ℕ, ◌+◌, ◌*◌, ◌/◌, ◌<◌, Option, Some, None}
use Rattle.nofs_disk.specs.Number.{zeros}
use Rattle.nofs_inode.specs.declared.inode.FileKind.{FileKind}
use Rattle.nofs_inode.specs.declared.inode.FileKind.TheVariants as kind
use Rattle.nofs_super.specs.declared.superblock.SuperBlock.{SuperBlock}
use Rattle.nofs_reader.specs.declared.gets.Run.{Run}
use Rattle.nofs_reader.specs.declared.gets.RunKind.{RunKind}
use Rattle.nofs_reader.specs.declared.gets.RunKind.TheVariants as run
use Rattle.nofs_reader.specs.declared.lists.Line.{Line}
use Rattle.nofs_reader.specs.declared.lists.NextLine.{NextLine}
use Rattle.nofs_reader.specs.declared.lists.NextLine.TheVariants as next
use Rattle.nofs_reader.specs.declared.looks.Looked.{Looked}
use Rattle.nofs_reader.specs.declared.looks.Looked.TheVariants as looked
use Rattle.nofs_reader.specs.declared.stats.InodeStat.{InodeStat}
use Rattle.nofs_reader_c.specs.declared.outs.CLine.{CLine}
use Rattle.nofs_reader_c.specs.declared.outs.CRun.{CRun}
use Rattle.nofs_reader_c.specs.declared.outs.CStat.{CStat}
use Rattle.nofs_reader_c.specs.declared.outs.CSuperblock.{CSuperblock}

-- the numbers of an image
abbrev pub superblock_of : SuperBlock → CSuperblock
superblock_of it = record { version = it.version; blocks = it.blocks; inodes = it.inodes; mount = it.mount }

-- 1 is a file, 2 a directory
abbrev pub kind_number : FileKind → ℕ
kind_number kind.File = 1
kind_number kind.Directory = 2

-- a file or directory
abbrev pub stat_of : InodeStat → CStat
stat_of it =
    record { kind = kind_number it.kind; links = it.links; generation = it.generation; size = it.size }

-- 1 has bytes, 2 is holes, 3 is lost
abbrev pub run_kind_number : RunKind → ℕ
run_kind_number run.Bytes = 1
run_kind_number run.Holes = 2
run_kind_number run.Lost = 3

-- a run of slots
abbrev pub run_of : Run → CRun
run_of it = record { what = run_kind_number it.kind; slots = it.slots }

-- an entry: 1 where it leads to an inode of a kind, 2 where it is dead
abbrev pub line_with : Line → Option FileKind → CLine
line_with it (Some kind) = record {
  what = 1;
  place = it.place;
  inode = it.named.inode;
  kind = kind_number kind;
  generation = it.named.generation;
  length = it.named.length;
  name = it.named.name;
}
line_with it None = record {
  what = 2;
  place = it.place;
  inode = it.named.inode;
  kind = 0;
  generation = it.named.generation;
  length = it.named.length;
  name = it.named.name;
}

abbrev pub line_of : Line → CLine
line_of it = line_with it it.kind

-- what is no entry: nothing, a dead entry's place, or a lost slot's
abbrev pub bare_line : ℕ → ℕ → CLine
bare_line what place = record {
  what = what;
  place = place;
  inode = 0;
  kind = 0;
  generation = 0;
  length = 0;
  name = zeros 48;
}

-- the last place of the slot of a place
abbrev pub last_beside : ℕ → ℕ
last_beside place = 16 * (place / 16) + 15

-- what a directory has at the next place. A lost slot is told by its last place
abbrev pub next_of : NextLine → CLine
next_of (next.Line line) = line_of line
next_of (next.Lost place) = bare_line 3 (last_beside place)
next_of next.End = bare_line 0 0

-- a lost slot is one of a directory
abbrev pub HasPlace : Looked → Type 0
HasPlace (looked.Found line) = Unit {0}
HasPlace (looked.LostEntry place) = Unit {0}
HasPlace (looked.LostSlot slot) = slot < 72
HasPlace looked.Missing = Unit {0}

-- what a name finds. A lost slot is told by its last place
abbrev pub looked_of : Looked → CLine
looked_of (looked.Found line) = line_of line
looked_of (looked.LostEntry place) = bare_line 2 place
looked_of (looked.LostSlot slot) = bare_line 3 (16 * slot + 15)
looked_of looked.Missing = bare_line 0 0

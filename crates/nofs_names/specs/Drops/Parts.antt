-- What Drop asks of its parts.
use Rattle.std.specs.Prelude.{◌≡◌, ℕ, ◌*◌, ◌<◌, true, false, length, IsTrue}
use Rattle.nofs_dirent.specs.Entries.{entry_limit}
use Rattle.nofs_disk.specs.Disk.{DiskState, cell_at}
use Rattle.nofs_disk.specs.Number.{put_bytes, zeros}
use Rattle.nofs_disk.specs.declared.tag.Cell.{Cell}
use Rattle.nofs_inode.specs.declared.inode.BackLink.{BackLink}
use Rattle.nofs_disk.specs.declared.tag.Pointer.{Pointer}
use Rattle.nofs_inode.specs.declared.inode.Record.{Record}
use Rattle.nofs_model.specs.Files.{Files}
use Rattle.nofs_history.specs.Meta.{is_gone}
use Rattle.nofs_history.specs.Machine.{is_folder_at, is_paired, drop_meta, link_to, without_link}
use Rattle.nofs_history.specs.History.{FilesMatch}
use Rattle.nofs_state.specs.declared.books.maps.Books.{Books}
use Rattle.nofs_names.specs.declared.searches.pairs.NamedPair.{NamedPair}
use Rattle.nofs_names.specs.declared.searches.slots.Paired.{Paired}
use Rattle.nofs_names.specs.Searches.Refusals.{KnownTrue}

-- the record without a back link
abbrev pub relinked : Record → BackLink → Record
relinked r gone = record r { links = without_link gone r.links }

-- the record of what was found, without its back link
abbrev pub without_name : NamedPair → Record
without_name p = relinked p.found.record (link_to p.at.directory p.found.entry p.at.generation)

-- the cell is that of a block, without the entry at a place
pub record ClearedIn (d : DiskState) (x : Pointer) (place : ℕ) (c : Cell) : Type 0 where
  pub whole : IsTrue d.tells → length (cell_at d.now x.block).payload ≡ 1024
  pub payload : IsTrue d.tells → c.payload ≡ put_bytes (64 * place) (zeros 64) (cell_at d.now x.block).payload
  pub tag : IsTrue d.tells → c.tag ≡ (cell_at d.now x.block).tag

-- a directory that has no name of a file
abbrev pub HasNoNames : DiskState → ℕ → Type 0
HasNoNames d i = IsTrue d.tells → (F : Files) → FilesMatch F d.now
    → is_folder_at F i ≡ true → (b : ℕ) → b < entry_limit → is_paired F i b ≡ false

-- the inode has another name, or is one that never goes
abbrev pub KeepsName : DiskState → Books → ℕ → ℕ → Paired → Type 0
KeepsName d k i g q = IsTrue d.tells → KnownTrue k d.now → (F : Files) → FilesMatch F d.now
    → is_gone (drop_meta F q.inode (link_to i q.entry g)) ≡ false

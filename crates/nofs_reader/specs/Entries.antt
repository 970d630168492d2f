-- Entries of a directory, as they are read.
use Rattle.std.specs.Prelude.{◌≡◌, ◌≢◌, ℕ, ◌/◌, ◌<◌, ◌≤◌, Bool, ◌&&◌, ◌==◌, take, Option, Some, None, if◌then◌else◌}
use Rattle.std.specs.List.{list_any}
use Rattle.nofs_dirent.specs.Entries.{entry_limit, entry_with}
use Rattle.nofs_dirent.specs.declared.entry.Entry.{Entry}
use Rattle.nofs_inode.specs.declared.inode.BackLink.{BackLink}
use Rattle.nofs_inode.specs.declared.inode.FileKind.{FileKind}
use Rattle.nofs_model.specs.Files.{agreed, entry_at, files_in, is_pair}
use Rattle.nofs_model.specs.Geometry.{Image, inode}
use Rattle.nofs_model.specs.Slots.{value}
use Rattle.nofs_model.specs.declared.image.value.Value.TheVariants.{Lost}
use Rattle.nofs_reader.specs.declared.entries.Named.{Named}
use Rattle.nofs_reader.specs.declared.entries.Stands.{Stands}
use Rattle.nofs_reader.specs.declared.entries.Stands.TheVariants as stands
use Rattle.nofs_reader.specs.declared.lists.Line.{Line}

-- the entry that was read
abbrev pub entry_in : Named → Entry
entry_in it = entry_with it.inode it.generation (take it.length it.name)

-- so where there is one
abbrev pub entry_read : Option Named → Option Entry
entry_read None = None
entry_read (Some it) = Some (entry_in it)

-- whether two back links are the same
abbrev pub is_same_link : BackLink → BackLink → Bool
is_same_link a b = (a.directory == b.directory) && ((a.entry == b.entry) && (a.generation == b.generation))

-- the back link to entry e of the directory d
abbrev pub link_to_entry : Image → ℕ → ℕ → BackLink
link_to_entry X d e = record { directory = d; entry = e; generation = (inode X d).generation }

-- entry e of directory d, which names inode i, is no dead one: the inode is agreed, and has a back link to the entry
-- that is a pair
abbrev pub is_alive : Image → ℕ → ℕ → ℕ → Bool
is_alive X d e i = list_any (λ link. is_same_link link (link_to_entry X d e)) (inode X i).links
    && (is_pair (files_in X) i (link_to_entry X d e) && agreed (files_in X) i)

-- the kind of the inode that an entry names; none where the entry is dead
abbrev pub kind_named : Image → ℕ → ℕ → ℕ → Option FileKind
kind_named X d e i = if is_alive X d e i then (inode X i).kind else None

-- nothing stands at a place: there is no entry, and its slot is not lost
pub record IsEmptyPlace (X : Image) (d e : ℕ) : Type 0 where
  pub entry : entry_at (files_in X) d e ≡ None
  pub slot : value X d (e / 16) ≢ Lost

-- the slot of a place is lost, and so there is no entry
pub record IsLostPlace (X : Image) (d e : ℕ) : Type 0 where
  pub entry : entry_at (files_in X) d e ≡ None
  pub slot : value X d (e / 16) ≡ Lost

-- what stands at a place
abbrev pub StandsAt : Image → ℕ → ℕ → Stands → Type 0
StandsAt X d e stands.Nothing = IsEmptyPlace X d e
StandsAt X d e stands.Lost = IsLostPlace X d e
StandsAt X d e (stands.Entry it) = (entry_at (files_in X) d e ≡ Some (entry_in it)) × (it.length ≤ 48)

-- a line is an entry of the directory, with the kind of what it names
pub record IsLine (X : Image) (d : ℕ) (line : Line) : Type 0 where
  pub range : line.place < entry_limit
  pub entry : entry_at (files_in X) d line.place ≡ Some (entry_in line.named)
  pub short : line.named.length ≤ 48
  pub kind : line.kind ≡ kind_named X d line.place line.named.inode

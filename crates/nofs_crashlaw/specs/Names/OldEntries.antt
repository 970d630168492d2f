-- What the steps on names leave on the disk where the entry's slot holds.
use Rattle.std.specs.Prelude.{◌≡◌, ◌≢◌, ℕ, ◌+◌, ◌-◌, ◌/◌, ◌<◌, ◌≤◌, ◌⊎◌, true, false, List, length, Some, None, is_some}
use Rattle.nofs_disk.specs.declared.tag.Tag.{Tag}
use Rattle.nofs_disk.specs.declared.tag.Pointer.{Pointer}
use Rattle.nofs_inode.specs.declared.inode.BackLink.{BackLink}
use Rattle.nofs_dirent.specs.declared.entry.Entry.{Entry}
use Rattle.nofs_disk.specs.Tag.{tag_of}
use Rattle.nofs_dirent.specs.Entries.{spelled_entry, entry_limit}
use Rattle.nofs_dirent.specs.EntryLaws.{Spells}
use Rattle.nofs_model.specs.Geometry.{Image, super_at, is_data_block, inode}
use Rattle.nofs_disk.specs.Disk.{cell_at}
use Rattle.nofs_ptrs.specs.Paths.{Path, path_of}
use Rattle.nofs_model.specs.Slots.{find, record_pointer}
use Rattle.nofs_model.specs.Files.{FileState, Files, is_folder, entry_at}
use Rattle.nofs_model.specs.Owners.{IsFree}
use Rattle.nofs_model.specs.declared.image.path.PathAnswer.TheVariants as answer
use Rattle.nofs_model.specs.declared.image.value.Value.TheVariants.{Bytes}
use Rattle.nofs_history.specs.Meta.{Gone, Is}
use Rattle.nofs_history.specs.Marks.{Mark}
use Rattle.nofs_history.specs.Machine.{zero_bytes, is_paired, with_entry, link_to, without_link, drop_meta, drop_given}
use Rattle.nofs_history.specs.Machine.{rename_given, files_after}
use Rattle.nofs_history.specs.History.{FilesMatch}
use Rattle.nofs_crashlaw.specs.Images.Proper.{Proper}
use Rattle.nofs_crashlaw.specs.Images.Moments.{during}
use Rattle.nofs_crashlaw.specs.Untouched.Frames.{OldPointers}

-- one block is written in place, and the record of inode i
pub record InPlace (X Y : Image) (x : Pointer) (i : ℕ) : Type 0 where
  pub super : cell_at Y 0 ≡ cell_at X 0
  pub blocks : (b : ℕ) → is_data_block X b ≡ true → b ≢ x.block → cell_at Y b ≡ cell_at X b
  pub tag : tag_of (cell_at Y x.block).tag ≡ tag_of (cell_at X x.block).tag
  pub records : (j : ℕ) → j ≢ i → inode Y j ≡ inode X j

-- the record has other links, and else what it had
pub record Relinked (X Y : Image) (i : ℕ) (new : List BackLink) : Type 0 where
  pub kind : (inode Y i).kind ≡ (inode X i).kind
  pub generation : (inode Y i).generation ≡ (inode X i).generation
  pub size : (inode Y i).size ≡ (inode X i).size
  pub links : (inode Y i).links ≡ new
  pub pointers : (n : ℕ) → n < 10 → record_pointer (inode Y i) n ≡ record_pointer (inode X i) n

-- what a step on names writes: blocks that were free, blocks of the directory d in place, and records of d and i
pub record NameWrites (s d i : ℕ) (X Y : Image) : Type 0 where
  pub super : cell_at Y 0 ≡ cell_at X 0
  pub records : (j : ℕ) → j ≢ d → j ≢ i → inode Y j ≡ inode X j
  pub blocks : (b : ℕ) → is_data_block X b ≡ true → (cell_at Y b ≡ cell_at X b)
      ⊎ ((IsFree X b × ((t : Tag) → tag_of (cell_at Y b).tag ≡ Some t → s ≤ t.stamp))
      ⊎ ((tag_of (cell_at Y b).tag ≡ tag_of (cell_at X b).tag)
      × ((path : Path) × (x : Pointer) × (find X d path ≡ answer.Holds x) × (x.block ≡ b))))

-- Rename: the found entry's name is written in place
pub record RenameLies (F : Files) (X Y : Image) (d g n s : ℕ) (new : List ℕ) (f : FileState) (x : Pointer)
    (entry : Entry) : Type 0 where
  pub files : FilesMatch F X
  pub is : F d ≡ Some f
  pub generation : f.generation ≡ g
  pub found : entry_at F d n ≡ Some entry
  pub held : find X d (path_of (n / 16)) ≡ answer.Holds x
  pub whole : length (cell_at X x.block).payload ≡ 1024
  pub spells : Spells (spelled_entry entry.inode entry.generation new)
      (record { inode = entry.inode; generation = entry.generation; name = new })
  pub content : Bytes (cell_at Y x.block).payload ≡ with_entry (Bytes (cell_at X x.block).payload) n
      (spelled_entry entry.inode entry.generation new)
  pub writes : InPlace X Y x 0
  pub old : (j : ℕ) → is_some (F j) ≡ true → OldPointers s X j

-- The write is proper, and the machine's files are those of the disk after it.
abbrev pub LawRename : Type 0
LawRename = (F : Files) (X Y : Image) (d g n s : ℕ) (new : List ℕ) (f : FileState) (x : Pointer) (entry : Entry)
    → RenameLies F X Y d g n s new f x entry
    → ((L : Mark)
    → is_data_block L.image x.block ≡ true → Proper (during L (rename_given F d g new n)) X x.block (cell_at Y x.block))
    × FilesMatch (files_after F (rename_given F d g new n)) Y

-- Drop: the found entry is cleared in place, and the record of its inode loses the link or becomes free
pub record DropLies (F : Files) (X Y : Image) (d g n s : ℕ) (f h : FileState) (x : Pointer)
    (entry : Entry) : Type 0 where
  pub files : FilesMatch F X
  pub is : F d ≡ Some f
  pub generation : f.generation ≡ g
  pub found : entry_at F d n ≡ Some entry
  pub paired : is_paired F d n ≡ true
  pub named : F entry.inode ≡ Some h
  -- a directory that goes has no names
  pub no_names : is_folder h.kind ≡ true → (b : ℕ) → b < entry_limit → is_paired F entry.inode b ≡ false
  pub held : find X d (path_of (n / 16)) ≡ answer.Holds x
  pub whole : length (cell_at X x.block).payload ≡ 1024
  pub content : Bytes (cell_at Y x.block).payload ≡ with_entry (Bytes (cell_at X x.block).payload) n (zero_bytes 64)
  pub writes : InPlace X Y x entry.inode
  pub old : (j : ℕ) → is_some (F j) ≡ true → OldPointers s X j

-- The directory's cell is proper.
abbrev pub LawDropEntry : Type 0
LawDropEntry = (F : Files) (X Y : Image) (d g n s : ℕ) (f h : FileState) (x : Pointer) (entry : Entry)
    → DropLies F X Y d g n s f h x entry
    → (L : Mark)
    → is_data_block L.image x.block ≡ true → Proper (during L (drop_given F d g n)) X x.block (cell_at Y x.block)

-- Where the inode has another name: its record is proper, and the machine's files are those of the disk.
abbrev pub LawDropName : Type 0
LawDropName = (F : Files) (X Y : Image) (d g n s : ℕ) (f h : FileState) (x : Pointer) (entry : Entry)
    → DropLies F X Y d g n s f h x entry
    → drop_meta F entry.inode (link_to d n g) ≡ Is h.kind h.size (without_link (link_to d n g) h.links)
    → Relinked X Y entry.inode (without_link (link_to d n g) h.links)
    → ((L : Mark) → super_at L.image ≡ super_at Y → is_data_block L.image (1 + (entry.inode - 1) / 4) ≡ false
    → Proper (during L (drop_given F d g n)) X (1 + (entry.inode - 1) / 4) (cell_at Y (1 + (entry.inode - 1) / 4)))
    × FilesMatch (files_after F (drop_given F d g n)) Y

-- Where it has none: so is its free record.
abbrev pub LawDropFile : Type 0
LawDropFile = (F : Files) (X Y : Image) (d g n s : ℕ) (f h : FileState) (x : Pointer) (entry : Entry)
    → DropLies F X Y d g n s f h x entry
    → drop_meta F entry.inode (link_to d n g) ≡ Gone → (inode Y entry.inode).kind ≡ None
    → ((L : Mark) → super_at L.image ≡ super_at Y → is_data_block L.image (1 + (entry.inode - 1) / 4) ≡ false
    → ((q : ℕ) → L.stands entry.inode q ≡ true → h.generation ≡ q)
    → Proper (during L (drop_given F d g n)) X (1 + (entry.inode - 1) / 4) (cell_at Y (1 + (entry.inode - 1) / 4)))
    × FilesMatch (files_after F (drop_given F d g n)) Y

-- What a crash may leave of a history: THE PROMISE. The words that it stands on are those of Since.antt and Meta.antt,
-- of what a step gives (Machine.antt), and of what an image says (nofs_model).
use Rattle.std.specs.Prelude.{◌≡◌, ◌≢◌, ℕ, ◌/◌, ◌%◌, ◌<◌, true, List, length, get_or, Contains}
use Rattle.nofs_inode.specs.declared.inode.BackLink.{BackLink}
use Rattle.nofs_inode.specs.InodeRecords.{is_live}
use Rattle.nofs_dirent.specs.Entries.{entry_in, entry_limit}
use Rattle.nofs_ptrs.specs.Paths.{slot_limit}
use Rattle.nofs_model.specs.Geometry.{Image, inode}
use Rattle.nofs_disk.specs.Disk.{cell_at}
use Rattle.nofs_model.specs.Slots.{value}
use Rattle.nofs_model.specs.Files.{files_in, names, is_folder, is_pair}
use Rattle.nofs_model.specs.declared.image.value.Value.{Value}
use Rattle.nofs_model.specs.declared.image.value.Value.TheVariants.{Bytes, Lost}
use Rattle.nofs_history.specs.Meta.{Meta, Gone, Is, meta_of, MayRead}
use Rattle.nofs_history.specs.Since.{since, since_meta, stands, IsSure}
use Rattle.nofs_history.specs.declared.machine.history.Entry1.{Entry1}

-- The superblock is the base's. The meta of each live record is one that its inode had since the last flush: a meta is
-- never lost. Each slot of a live inode reads as a value that was given to it since the last flush, or as lost, each
-- slot by itself. What stood at the flush and was not removed since stands, and a slot of it that is sure is not lost.
pub record HasVersions (B : Image) (H : List Entry1) (m : ℕ) (X : Image) : Type 0 where
  pub super : cell_at X 0 ≡ cell_at B 0
  pub metas : (i : ℕ)
      → is_live (inode X i) ≡ true → Contains (since_meta B H m i (inode X i).generation) (meta_of (inode X i))
  pub values : (i k : ℕ)
      → is_live (inode X i) ≡ true → k < slot_limit → MayRead (since B H m i (inode X i).generation k) (value X i k)
  pub records : (i g : ℕ) → stands B H m i g ≡ true → (is_live (inode X i) ≡ true) × ((inode X i).generation ≡ g)
  pub sure : (i g k : ℕ) → stands B H m i g ≡ true → k < slot_limit → IsSure B H m i g k → value X i k ≢ Lost

-- place b of a meta
abbrev pub meta_link : Meta → ℕ → BackLink → BackLink
meta_link Gone b none = none
meta_link (Is kind size links) b none = get_or links b none

-- the meta of a directory
abbrev pub IsFolderMeta : Meta → Type 0
IsFolderMeta Gone = ⊥
IsFolderMeta (Is kind size links) = is_folder kind ≡ true

-- each version since the mark has some name of (i, g): its back link in place b, and in the entry some name that may
-- change
pub record SureLink (B : Image) (H : List Entry1) (m i g b : ℕ) (link : BackLink) : Type 0 where
  pub file_stands : stands B H m i g ≡ true
  pub directory_stands : stands B H m link.directory link.generation ≡ true
  pub folders : (meta : Meta) → Contains (since_meta B H m link.directory link.generation) meta → IsFolderMeta meta
  pub older : (meta : Meta) → Contains (since_meta B H m i g) meta → IsFolderMeta meta → link.generation < g
  pub linked : (meta : Meta) → Contains (since_meta B H m i g) meta → (none : BackLink) → meta_link meta b none ≡ link
  pub range : link.entry < entry_limit
  pub cell : (v : Value) → Contains (since B H m link.directory link.generation (link.entry / 16)) v
      → (content : List ℕ) × (v ≡ Bytes content) × (names (entry_in content (link.entry % 16)) i g ≡ true)

-- a name that every version since the mark agrees on is a pair in each image
abbrev pub NamesStay : Image → List Entry1 → ℕ → Image → Type 0
NamesStay B H m X = (i g b : ℕ) (link : BackLink) → SureLink B H m i g b link
    → ((none : BackLink) → meta_link (meta_of (inode X i)) b none ≡ link) × (is_pair (files_in X) i link ≡ true)

-- What a crash at moment m may leave of history H over base B, the disk as the mount's flush left it: as many blocks,
-- of each slot and of each meta a version since the last flush, where a slot may be lost that is not sure, and the
-- names that every version has.
pub record IsAllowed (B : Image) (H : List Entry1) (m : ℕ) (X : Image) : Type 0 where
  pub len : length X ≡ length B
  pub versions : HasVersions B H m X
  pub names : NamesStay B H m X

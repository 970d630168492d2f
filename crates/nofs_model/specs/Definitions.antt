-- What an image means: each definition as a fact, by itself.
--
-- The words that programs and proofs compute with stand in Geometry, Slots, Files, Owners. `law_slots`, `law_names` and
-- `law_owners` say that each of them is the fact of this file. Mountable and sound images are defined in Geometry and
-- Sound.
use Rattle.std.specs.Prelude.{◌≡◌, ◌≢◌, ◌↔◌, ℕ, ◌+◌, ◌/◌, ◌%◌, ◌<◌, ◌≤◌, ◌⊎◌, true, ◌&&◌, ◌||◌, not, Some, Contains}
use Rattle.nofs_disk.specs.declared.tag.Pointer.{Pointer}
use Rattle.nofs_inode.specs.declared.inode.BackLink.{BackLink}
use Rattle.nofs_dirent.specs.declared.entry.Entry.{Entry}
use Rattle.nofs_disk.specs.Tag.{tag_of}
use Rattle.nofs_disk.specs.Pointer.{null}
use Rattle.nofs_ptrs.specs.Cells.{pointer_at}
use Rattle.nofs_dirent.specs.Entries.{entry_in, entry_limit}
use Rattle.nofs_inode.specs.InodeRecords.{is_live}
use Rattle.nofs_inode.specs.declared.inode.FileKind.TheVariants as kind
use Rattle.nofs_model.specs.Geometry.{Image, inodes_of, blocks_of, inode}
use Rattle.nofs_disk.specs.Disk.{cell_at}
use Rattle.nofs_ptrs.specs.Paths.{Path, InRecord, Under, is_slot, path_of}
use Rattle.nofs_model.specs.Slots.{record_pointer, tag_for, find, value}
use Rattle.nofs_model.specs.Files.{Files, files_in, is_pair, is_root, is_special, has_agreed_link, agreed, Agreed}
use Rattle.nofs_model.specs.Owners.{owner, home_at, is_used_inode, is_used_block}
use Rattle.nofs_model.specs.declared.image.path.PathAnswer.TheVariants as answer
use Rattle.nofs_model.specs.declared.image.value.Value.{Value}
use Rattle.nofs_model.specs.declared.image.value.Value.TheVariants.{Hole, Bytes, Lost}

-- Slots

-- the pointer leads to a block of just this slot: it isn't null, the inode is live, the block lies in the data area,
-- and the block's tag is spelled and has the slot's kind, inode, generation and number, and the pointer's stamp
pub record TagFits (X : Image) (i : ℕ) (path : Path) (x : Pointer) : Type 0 where
  pub not_null : x ≢ null
  pub live : is_live (inode X i) ≡ true
  pub above : 1 + inodes_of X / 4 ≤ x.block
  pub below : x.block < blocks_of X
  pub tag : tag_of (cell_at X x.block).tag ≡ Some (tag_for X i path x.stamp)

-- a slot holds with a pointer: its pointer, in the record or in the block of the slot above, which holds too, fits
abbrev pub Holds : Image → ℕ → Path → Pointer → Type 0
Holds X i (InRecord n) x = (x ≡ record_pointer (inode X i) n) × TagFits X i (InRecord n) x
Holds X i (Under above n) x = (y : Pointer) × Holds X i above y × (x ≡ pointer_at (cell_at X y.block).payload n)
    × TagFits X i (Under above n) x

-- a slot is empty: its pointer is null, or the slot above is empty
abbrev pub IsEmpty : Image → ℕ → Path → Type 0
IsEmpty X i (InRecord n) = record_pointer (inode X i) n ≡ null
IsEmpty X i (Under above n) = IsEmpty X i above
    ⊎ ((y : Pointer) × Holds X i above y × (pointer_at (cell_at X y.block).payload n ≡ null))

-- the value of slot k: a hole where it is empty, the payload of its block where it holds, and lost where neither is so
pub data IsValue (X : Image) (i k : ℕ) : Value → Type 0 where
  hole : IsEmpty X i (path_of k) → IsValue X i k Hole
  bytes : (x : Pointer) → Holds X i (path_of k) x → IsValue X i k (Bytes (cell_at X x.block).payload)
  lost : (IsEmpty X i (path_of k) → ⊥) → ((x : Pointer) → Holds X i (path_of k) x → ⊥) → IsValue X i k Lost

-- Names

-- entry e of the directory d: sixteen stand in a slot, and a directory has 1,152
pub record IsEntry (X : Image) (d n : ℕ) (it : Entry) : Type 0 where
  pub directory : (inode X d).kind ≡ Some kind.Directory
  pub range : n < entry_limit
  pub pointer : Pointer
  pub holds : Holds X d (path_of (n / 16)) pointer
  pub spelled : entry_in (cell_at X pointer.block).payload (n % 16) ≡ Some it

-- a back link of i is a pair: it leads to a live directory of its generation whose entry names this generation of i.
-- Where i is a directory itself, the directory that names it is older
pub record IsPair (X : Image) (i : ℕ) (link : BackLink) : Type 0 where
  pub live : is_live (inode X i) ≡ true
  pub generation : (inode X link.directory).generation ≡ link.generation
  pub entry : Entry
  pub there : IsEntry X link.directory link.entry entry
  pub names_inode : entry.inode ≡ i
  pub names_generation : entry.generation ≡ (inode X i).generation
  pub older : (inode X i).kind ≡ Some kind.Directory → link.generation < (inode X i).generation

-- an inode is agreed: the root is a live directory of generation 1, the label file a live file of generation 2, and any
-- other has a back link that is a pair with an agreed directory
pub data IsAgreed (X : Image) : ℕ → Type 0 where
  the_root : (inode X 1).kind ≡ Some kind.Directory → (inode X 1).generation ≡ 1 → IsAgreed X 1
  the_label : (inode X 2).kind ≡ Some kind.File → (inode X 2).generation ≡ 2 → IsAgreed X 2
  named : {i : ℕ} (link : BackLink) → i ≢ 1 → i ≢ 2 → Contains (inode X i).links link → IsPair X i link
      → IsAgreed X link.directory → IsAgreed X i

-- such a back link
pub record IsAgreedLink (X : Image) (i : ℕ) (link : BackLink) : Type 0 where
  pub there : Contains (inode X i).links link
  pub pair : IsPair X i link
  pub agreed : IsAgreed X link.directory

-- Owners and the scan

-- slot k of inode i owns block p: the inode is agreed, and the slot holds with a pointer that names the block
pub record IsOwner (X : Image) (p i k : ℕ) : Type 0 where
  pub agreed : IsAgreed X i
  pub slot : is_slot k ≡ true
  pub pointer : Pointer
  pub holds : Holds X i (path_of k) pointer
  pub names : pointer.block ≡ p

-- an inode is used: it is agreed, or is the root or the label file
abbrev pub IsUsedInode : Image → ℕ → Type 0
IsUsedInode X i = IsAgreed X i ⊎ ((i ≡ 1) ⊎ (i ≡ 2))

-- a block is used: it has an owner, or is the superblock or one of the inode table
abbrev pub IsUsedBlock : Image → ℕ → Type 0
IsUsedBlock X p = ((i : ℕ) × (k : ℕ) × IsOwner X p i k) ⊎ (p ≤ inodes_of X / 4)

-- That the computing words are these facts

-- a slot holds where `find` says so, is empty where it says so, and has one value
pub record LawSlots : Type 0 where
  pub holds : (X : Image) (i : ℕ) (path : Path) (x : Pointer) → Holds X i path x ↔ (find X i path ≡ answer.Holds x)
  pub empty : (X : Image) (i : ℕ) (path : Path) → IsEmpty X i path ↔ (find X i path ≡ answer.Hole)
  pub values : (X : Image) (i k : ℕ) (v : Value) → IsValue X i k v ↔ (value X i k ≡ v)

-- pairs and agreed inodes; and of any files, those of an image or those that the machine has: agreed is what its
-- equation says, and the least relation that has the roots and goes down by pairs
pub record LawPairs : Type 0 where
  pub equation : (F : Files) (i : ℕ) → agreed F i ≡ (is_root F i || (not (is_special i) && has_agreed_link F i))
  pub least : (F : Files) (i : ℕ) → Agreed F i ↔ (agreed F i ≡ true)
  pub pairs : (X : Image) (i : ℕ) (link : BackLink) → IsPair X i link ↔ (is_pair (files_in X) i link ≡ true)
  pub agreed : (X : Image) (i : ℕ) → IsAgreed X i ↔ (agreed (files_in X) i ≡ true)

-- a block has one owner at most
pub record LawOwners : Type 0 where
  pub owners : (X : Image) (p i k : ℕ) → IsOwner X p i k ↔ (owner X p ≡ Some (home_at i k))
  pub one : (X : Image) (p i k j l : ℕ) → IsOwner X p i k → IsOwner X p j l → (i ≡ j) × (k ≡ l)
  pub inodes : (X : Image) (i : ℕ) → IsUsedInode X i ↔ (is_used_inode X i ≡ true)
  pub blocks : (X : Image) (p : ℕ) → IsUsedBlock X p ↔ (is_used_block X p ≡ true)

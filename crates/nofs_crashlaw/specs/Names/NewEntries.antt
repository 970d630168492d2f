-- What a new entry leaves on the disk: its slot holds, or gets a block with or without its leaf.
use Rattle.std.specs.Prelude.{◌≡◌, ◌≢◌, ℕ, ◌+◌, ◌-◌, ◌/◌, ◌%◌, ◌<◌, ◌≤◌, ◌⊎◌, true, false, List, [], ◌∷◌, length, Some}
use Rattle.std.specs.Prelude.{None, is_some, Contains}
use Rattle.nofs_disk.specs.declared.tag.Cell.{Cell}
use Rattle.nofs_inode.specs.declared.inode.FileKind.{FileKind}
use Rattle.nofs_disk.specs.declared.tag.Pointer.{Pointer}
use Rattle.nofs_inode.specs.declared.inode.BackLink.{BackLink}
use Rattle.nofs_disk.specs.Tag.{tag_of}
use Rattle.nofs_disk.specs.Pointer.{is_null}
use Rattle.nofs_ptrs.specs.Cells.{pointer_at}
use Rattle.nofs_inode.specs.InodeRecords.{record_at}
use Rattle.nofs_dirent.specs.Entries.{spelled_entry, entry_limit}
use Rattle.nofs_dirent.specs.EntryLaws.{Spells}
use Rattle.nofs_model.specs.Geometry.{Image, super_at, is_data_block, is_inode, inode}
use Rattle.nofs_disk.specs.Disk.{cell_at}
use Rattle.nofs_ptrs.specs.Paths.{InRecord, Under, leaf, path_of}
use Rattle.nofs_model.specs.Slots.{find, record_pointer}
use Rattle.nofs_model.specs.Files.{FileState, Files, is_folder, is_special}
use Rattle.nofs_model.specs.declared.image.path.PathAnswer.TheVariants as answer
use Rattle.nofs_model.specs.declared.image.value.Value.TheVariants.{Hole, Bytes}
use Rattle.nofs_history.specs.Meta.{meta_of}
use Rattle.nofs_history.specs.Marks.{Mark}
use Rattle.nofs_history.specs.Machine.{is_paired, with_entry, link_to, set_link, link_given, make_given, files_after}
use Rattle.nofs_history.specs.History.{FilesMatch}
use Rattle.nofs_history.specs.declared.machine.history.Claims.{Claims}
use Rattle.nofs_crashlaw.specs.Images.Proper.{Proper}
use Rattle.nofs_crashlaw.specs.Images.Moments.{during}
use Rattle.nofs_crashlaw.specs.Untouched.Frames.{OldPointers, SameMeta}
use Rattle.nofs_crashlaw.specs.Files.Growth.{ClaimedCell}
use Rattle.nofs_crashlaw.specs.Names.OldEntries.{InPlace, Relinked}

-- its record
pub record IsNewRecord (Y : Image) (i g : ℕ) (kind : FileKind) (new : List BackLink) : Type 0 where
  pub kind_is : (inode Y i).kind ≡ Some kind
  pub generation : (inode Y i).generation ≡ g
  pub size : (inode Y i).size ≡ 0
  pub links : (inode Y i).links ≡ new
  pub pointers : (n : ℕ) → n < 10 → is_null (record_pointer (inode Y i) n) ≡ true

-- the links of a new inode
abbrev pub first_links : ℕ → ℕ → ℕ → List BackLink
first_links d e g = link_to d e g ∷ link_to 0 0 0 ∷ link_to 0 0 0 ∷ link_to 0 0 0 ∷ []

-- a direct slot: the record's pointer is new
pub record HoleInRecord (s : ℕ) (X Y : Image) (d i k : ℕ) (x : Pointer) : Type 0 where
  pub super : cell_at Y 0 ≡ cell_at X 0
  pub records : (j : ℕ) → j ≢ d → j ≢ i → inode Y j ≡ inode X j
  pub cell : ClaimedCell s X Y d (InRecord k) x
  pub blocks : (b : ℕ) → is_data_block X b ≡ true → b ≢ x.block → cell_at Y b ≡ cell_at X b
  pub meta : SameMeta X Y d
  pub pointer : record_pointer (inode Y d) k ≡ x
  pub pointers : (n : ℕ) → n ≢ k → record_pointer (inode Y d) n ≡ record_pointer (inode X d) n

pub record HoleUnderLeaf (s : ℕ) (X Y : Image) (d i n : ℕ) (x y : Pointer) : Type 0 where
  pub super : cell_at Y 0 ≡ cell_at X 0
  pub records : (j : ℕ) → j ≢ i → inode Y j ≡ inode X j
  pub held : find X d leaf ≡ answer.Holds y
  pub cell : ClaimedCell s X Y d (Under leaf n) x
  pub blocks : (b : ℕ) → is_data_block X b ≡ true → b ≢ x.block → b ≢ y.block → cell_at Y b ≡ cell_at X b
  pub tag : tag_of (cell_at Y y.block).tag ≡ tag_of (cell_at X y.block).tag
  pub pointer : pointer_at (cell_at Y y.block).payload n ≡ x
  pub pointers : (m : ℕ) → m ≢ n → pointer_at (cell_at Y y.block).payload m ≡ pointer_at (cell_at X y.block).payload m

-- a slot under a leaf that is claimed with it
pub record HoleWithLeaf (s : ℕ) (X Y : Image) (d i n : ℕ) (x y : Pointer) : Type 0 where
  pub super : cell_at Y 0 ≡ cell_at X 0
  pub records : (j : ℕ) → j ≢ d → j ≢ i → inode Y j ≡ inode X j
  pub empty : find X d leaf ≡ answer.Hole
  pub cell : ClaimedCell s X Y d (Under leaf n) x
  pub above : ClaimedCell s X Y d leaf y
  pub blocks : (b : ℕ) → is_data_block X b ≡ true → b ≢ x.block → b ≢ y.block → cell_at Y b ≡ cell_at X b
  pub meta : SameMeta X Y d
  pub leaf_is : record_pointer (inode Y d) 8 ≡ y
  pub others : (m : ℕ) → m ≢ 8 → record_pointer (inode Y d) m ≡ record_pointer (inode X d) m
  pub pointer : pointer_at (cell_at Y y.block).payload n ≡ x
  pub pointers : (m : ℕ) → m ≢ n → is_null (pointer_at (cell_at Y y.block).payload m) ≡ true

-- slot k of directory d gets the block of x. Where it lies under a leaf, y is the leaf
pub data HoleClaimed (s : ℕ) (X Y : Image) (d i k : ℕ) (x y : Pointer) : Type 0 where
  Direct : k < 8 → HoleInRecord s X Y d i k x → HoleClaimed s X Y d i k x y
  UnderLeaf : 8 ≤ k → k < 72 → HoleUnderLeaf s X Y d i (k - 8) x y → HoleClaimed s X Y d i k x y
  WithLeaf : 8 ≤ k → k < 72 → HoleWithLeaf s X Y d i (k - 8) x y → HoleClaimed s X Y d i k x y

-- Link: the file gets the link of entry e in place b of its record
pub record LinkLies (F : Files) (X Y : Image) (d g n i of b s : ℕ) (name : List ℕ) (f h : FileState) : Type 0 where
  pub files : FilesMatch F X
  pub is : F d ≡ Some f
  pub generation : f.generation ≡ g
  pub folder : is_folder f.kind ≡ true
  pub range : n < entry_limit
  pub unpaired : is_paired F d n ≡ false
  pub is_file : F i ≡ Some h
  pub of_is : h.generation ≡ of
  pub file : is_folder h.kind ≡ false
  pub plain : is_special i ≡ false
  pub place : b < length h.links
  pub spells : Spells (spelled_entry i of name) (record { inode = i; generation = of; name = name })
  pub linked : Relinked X Y i (set_link h.links b (link_to d n g))
  pub old : (j : ℕ) → is_some (F j) ≡ true → OldPointers s X j

-- the entry's slot holds, and its block is written in place
pub record EntryInPlace (X Y : Image) (d n i : ℕ) (bytes : List ℕ) (x : Pointer) : Type 0 where
  pub held : find X d (path_of (n / 16)) ≡ answer.Holds x
  pub whole : length (cell_at X x.block).payload ≡ 1024
  pub writes : InPlace X Y x i
  pub content : Bytes (cell_at Y x.block).payload ≡ with_entry (Bytes (cell_at X x.block).payload) n bytes

-- or it was empty, and gets the block of x, with the leaf y where it lies under one
pub record EntryInHole (s : ℕ) (X Y : Image) (d n i : ℕ) (bytes : List ℕ) (x y : Pointer) : Type 0 where
  pub empty : find X d (path_of (n / 16)) ≡ answer.Hole
  pub claimed : HoleClaimed s X Y d i (n / 16) x y
  pub content : Bytes (cell_at Y x.block).payload ≡ with_entry Hole n bytes

abbrev pub LawLinkInPlace : Type 0
LawLinkInPlace = (F : Files) (X Y : Image) (d g n i of b s : ℕ) (name : List ℕ) (f h : FileState) (x : Pointer)
    → LinkLies F X Y d g n i of b s name f h
    → EntryInPlace X Y d n i (spelled_entry i of name) x
    → ((L : Mark) → is_data_block L.image x.block ≡ true
    → Proper (during L (link_given F d g name i of n b)) X x.block (cell_at Y x.block))
    × ((L : Mark) → super_at L.image ≡ super_at Y → is_data_block L.image (1 + (i - 1) / 4) ≡ false
    → Proper (during L (link_given F d g name i of n b)) X (1 + (i - 1) / 4) (cell_at Y (1 + (i - 1) / 4)))
    × FilesMatch (files_after F (link_given F d g name i of n b)) Y

abbrev pub LawLinkInHole : Type 0
LawLinkInHole = (F : Files) (X Y : Image) (d g n i of b s : ℕ) (name : List ℕ) (f h : FileState) (x y : Pointer)
    → LinkLies F X Y d g n i of b s name f h
    → EntryInHole s X Y d n i (spelled_entry i of name) x y
    → ((L : Mark) → is_data_block L.image x.block ≡ true → (inode Y d).generation ≡ f.generation
    → Proper (during L (link_given F d g name i of n b)) X x.block (cell_at Y x.block))
    × ((L : Mark) (t : ℕ) (c : Cell) → 0 < t → is_data_block L.image t ≡ false
    → ((j : ℕ) → is_inode L.image j ≡ true → 1 + (j - 1) / 4 ≡ t
    → (record_at c.payload ((j - 1) % 4) ≡ inode X j) ⊎ (record_at c.payload ((j - 1) % 4) ≡ inode Y j))
    → Contains (L.metas d (inode X d).generation) (meta_of (inode X d)) → L.stamps ≤ x.stamp
    → L.stamps ≤ y.stamp ⊎ ((z : Pointer) × (find X d leaf ≡ answer.Holds z))
    → Proper (during L (link_given F d g name i of n b)) X t c)
    × FilesMatch (files_after F (link_given F d g name i of n b)) Y

-- Make: the claimed inode gets its first record
pub record MakeLies (F : Files) (X Y : Image) (d g n s : ℕ) (name : List ℕ) (kind : FileKind) (claims : Claims)
    (f : FileState) : Type 0 where
  pub files : FilesMatch F X
  pub none : F claims.inode ≡ None
  pub plain : is_special claims.inode ≡ false
  pub is : F d ≡ Some f
  pub generation : f.generation ≡ g
  pub folder : is_folder f.kind ≡ true
  pub young : f.generation < claims.generation
  pub range : n < entry_limit
  pub unpaired : is_paired F d n ≡ false
  pub spells : Spells (spelled_entry claims.inode claims.generation name)
      (record { inode = claims.inode; generation = claims.generation; name = name })
  pub made : IsNewRecord Y claims.inode claims.generation kind (first_links d n g)
  pub old : (j : ℕ) → is_some (F j) ≡ true → OldPointers s X j

abbrev pub LawMakeInPlace : Type 0
LawMakeInPlace = (F : Files) (X Y : Image) (d g n s : ℕ) (name : List ℕ) (kind : FileKind) (claims : Claims)
    (f : FileState) (x : Pointer)
    → MakeLies F X Y d g n s name kind claims f
    → EntryInPlace X Y d n claims.inode (spelled_entry claims.inode claims.generation name) x
    → ((L : Mark) → is_data_block L.image x.block ≡ true
    → Proper (during L (make_given F d g name kind claims n)) X x.block (cell_at Y x.block))
    × ((L : Mark) → super_at L.image ≡ super_at Y
    → is_data_block L.image (1 + (claims.inode - 1) / 4) ≡ false → L.stamps ≤ claims.generation
    → ((q : ℕ) → L.stands claims.inode q ≡ false)
    → Proper (during L (make_given F d g name kind claims n)) X (1 + (claims.inode - 1) / 4)
    (cell_at Y (1 + (claims.inode - 1) / 4)))
    × FilesMatch (files_after F (make_given F d g name kind claims n)) Y

abbrev pub LawMakeInHole : Type 0
LawMakeInHole = (F : Files) (X Y : Image) (d g n s : ℕ) (name : List ℕ) (kind : FileKind) (claims : Claims)
    (f : FileState) (y : Pointer)
    → MakeLies F X Y d g n s name kind claims f
    → EntryInHole s X Y d n claims.inode (spelled_entry claims.inode claims.generation name) claims.cell y
    → ((L : Mark) → is_data_block L.image claims.cell.block ≡ true → (inode Y d).generation ≡ f.generation
    → Proper (during L (make_given F d g name kind claims n)) X claims.cell.block (cell_at Y claims.cell.block))
    × ((L : Mark) (t : ℕ) (c : Cell) → 0 < t → is_data_block L.image t ≡ false
    → ((j : ℕ) → is_inode L.image j ≡ true → 1 + (j - 1) / 4 ≡ t
    → (record_at c.payload ((j - 1) % 4) ≡ inode X j) ⊎ (record_at c.payload ((j - 1) % 4) ≡ inode Y j))
    → Contains (L.metas d (inode X d).generation) (meta_of (inode X d)) → L.stamps ≤ claims.cell.stamp
    → L.stamps ≤ y.stamp ⊎ ((z : Pointer) × (find X d leaf ≡ answer.Holds z))
    → L.stamps ≤ claims.generation → ((q : ℕ) → L.stands claims.inode q ≡ false)
    → Proper (during L (make_given F d g name kind claims n)) X t c)
    × FilesMatch (files_after F (make_given F d g name kind claims n)) Y

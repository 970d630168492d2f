-- Files, the entries of directories, and which inodes are agreed.
--
-- What an image says of inodes is a function from inodes to files, without blocks and stamps: the machine has one, too.
use Rattle.std.specs.Prelude.{◌≡◌, ℕ, zero, suc, ◌/◌, ◌%◌, ◌<◌, Bool, true, false, ◌&&◌, ◌||◌, not, List, [], Option}
use Rattle.std.specs.Prelude.{Some, None, if◌then◌else◌, nat_lt, ◌==◌, Contains}
use Rattle.std.specs.List.{list_any}
use Rattle.nofs_dirent.specs.Entries.{entry_limit, entry_in}
use Rattle.nofs_inode.specs.declared.inode.FileKind.{FileKind}
use Rattle.nofs_inode.specs.declared.inode.BackLink.{BackLink}
use Rattle.nofs_inode.specs.declared.inode.Record.{Record}
use Rattle.nofs_dirent.specs.declared.entry.Entry.{Entry}
use Rattle.nofs_inode.specs.declared.inode.FileKind.TheVariants.{File, Directory as Folder}
use Rattle.nofs_model.specs.Geometry.{Image, inode}
use Rattle.nofs_ptrs.specs.Paths.{Path}
use Rattle.nofs_model.specs.Slots.{find, value}
use Rattle.nofs_model.specs.declared.image.path.PathAnswer.{PathAnswer}
use Rattle.nofs_model.specs.declared.image.path.PathAnswer.TheVariants as answer
use Rattle.nofs_model.specs.declared.image.value.Value.{Value}
use Rattle.nofs_model.specs.declared.image.value.Value.TheVariants.{Hole, Bytes, Lost}

-- the state of a leaf, top or child: there is none, it holds, or neither
pub data NodeState : Type 0 where
  Absent : NodeState
  Present : NodeState
  Damaged : NodeState

abbrev pub node_in : PathAnswer → NodeState
node_in answer.Hole = Absent
node_in (answer.Holds x) = Present
node_in answer.Lost = Damaged

-- what is known of a live inode
pub record FileState : Type 0 where
  pub generation : ℕ
  pub kind : FileKind
  pub size : ℕ
  pub links : List BackLink
  pub values : ℕ → Value
  pub nodes : Path → NodeState

abbrev pub Files : Type 0
Files = ℕ → Option FileState

abbrev pub file_from : Image → ℕ → Option FileKind → Option FileState
file_from X i None = None
file_from X i (Some kind) = Some (record {
  generation = (inode X i).generation;
  kind = kind;
  size = (inode X i).size;
  links = (inode X i).links;
  values =
      value X i;
  nodes = λ path. node_in (find X i path);
})

-- the live inodes of an image
abbrev pub files_in : Image → Files
files_in X i = file_from X i (inode X i).kind

-- Entries and pairs

abbrev pub is_folder : FileKind → Bool
is_folder Folder = true
is_folder File = false

abbrev pub entry_held : Value → ℕ → Option Entry
entry_held (Bytes content) e = entry_in content (e % 16)
entry_held Hole e = None
entry_held Lost e = None

-- entry e of a directory's file: it stands in slot e / 16
abbrev pub entry_in_file : Option FileState → ℕ → Option Entry
entry_in_file None e = None
entry_in_file (Some f) e = if is_folder f.kind && nat_lt e entry_limit then entry_held (f.values (e / 16)) e else None

-- entry e of the directory d
abbrev pub entry_at : Files → ℕ → ℕ → Option Entry
entry_at F d e = entry_in_file (F d) e

-- there is an entry, and it names this generation of the inode
abbrev pub names : Option Entry → ℕ → ℕ → Bool
names None i g = false
names (Some entry) i g = (entry.inode == i) && (entry.generation == g)

-- the file has this kind and generation
abbrev pub is_a : FileKind → ℕ → Option FileState → Bool
is_a kind g None = false
is_a Folder g (Some f) = is_folder f.kind && (f.generation == g)
is_a File g (Some f) = not (is_folder f.kind) && (f.generation == g)

-- the back link of inode i, whose file stands first, leads to an entry of the directory that names it
abbrev pub pairs : Option FileState → Option FileState → ℕ → BackLink → Bool
pairs None d i link = false
pairs (Some f) d i link = is_a Folder link.generation d && (names (entry_in_file d link.entry) i f.generation
    && (not (is_folder f.kind) || nat_lt link.generation f.generation))

abbrev pub is_pair : Files → ℕ → BackLink → Bool
is_pair F i link = pairs (F i) (F link.directory) i link

abbrev pub links_in_file : Option FileState → List BackLink
links_in_file None = []
links_in_file (Some f) = f.links

abbrev pub links_of : Files → ℕ → List BackLink
links_of F i = links_in_file (F i)

abbrev pub is_kind : FileKind → Option FileKind → Bool
is_kind Folder (Some Folder) = true
is_kind File (Some File) = true
is_kind _ _ = false

-- the record of a live inode of this kind and generation
abbrev pub is_record : FileKind → ℕ → Record → Bool
is_record kind g r = is_kind kind r.kind && (r.generation == g)

-- Agreement

-- inode 1 is the root and inode 2 the label file
abbrev pub is_root : Files → ℕ → Bool
is_root F i = ((i == 1) && is_a Folder 1 (F 1)) || ((i == 2) && is_a File 2 (F 2))

abbrev pub is_special : ℕ → Bool
is_special i = (i == 1) || (i == 2)

-- agreed by a chain of at most n inodes
abbrev pub agreed_below : ℕ → Files → ℕ → Bool
agreed_below zero F i = false
agreed_below (suc n) F i = is_root F i
    || (not (is_special i) && list_any (λ link. is_pair F i link && agreed_below n F link.directory) (links_of F i))

-- a root, or some back link is a pair with an agreed directory. Generations fall along a chain of directories, so a
-- chain is no longer than the generation of its first directory
unfoldable pub agreed : Files → ℕ → Bool
agreed F i = is_root F i || (not (is_special i)
    && list_any (λ link. is_pair F i link && agreed_below (suc link.generation) F link.directory) (links_of F i))

-- some back link of the inode is a pair with an agreed directory
abbrev pub has_agreed_link : Files → ℕ → Bool
has_agreed_link F i = list_any (λ link. is_pair F i link && agreed F link.directory) (links_of F i)

-- d is the one directory that names the directory i, and is older
pub record IsParent (X : Image) (i d : ℕ) : Type 0 where
  pub directory : (inode X d).kind ≡ Some Folder
  pub older : (inode X d).generation < (inode X i).generation
  pub same : has_agreed_link (files_in X) i ≡ agreed (files_in X) d

-- the same as the least relation
pub data Agreed (F : Files) : ℕ → Type 0 where
  root : {i : ℕ} → is_root F i ≡ true → Agreed F i
  linked : {i : ℕ} (link : BackLink) → is_special i ≡ false → Contains (links_of F i) link
      → is_pair F i link ≡ true → Agreed F link.directory → Agreed F i

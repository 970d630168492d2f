-- What calls answer of an image, and why one has no answer.
use Rattle.std.specs.Prelude.{◌≡◌, ℕ, true, List, Option, Some, None, Result, Ok, Err, count_by, if◌then◌else◌}
use Rattle.nofs_disk.specs.Disk.{cell_at}
use Rattle.nofs_inode.specs.declared.inode.FileKind.{FileKind}
use Rattle.nofs_inode.specs.declared.inode.FileKind.TheVariants as kind
use Rattle.nofs_super.specs.declared.superblock.MountFault.{MountFault}
use Rattle.nofs_super.specs.declared.superblock.SuperBlock.{SuperBlock}
use Rattle.nofs_super.specs.Super.{check_super}
use Rattle.nofs_model.specs.Geometry.{Image, inode}
use Rattle.nofs_model.specs.Files.{agreed, files_in}
use Rattle.nofs_agree.specs.Chain.{is_agreed_link}
use Rattle.nofs_agree.specs.Reads.{KnowsDirectory, KnowsInode}
use Rattle.nofs_reader.specs.Image.{disk_of, image_of}
use Rattle.nofs_reader.specs.Layouts.{IsBadPage}
use Rattle.nofs_reader.specs.declared.opened.Opened.{Opened}
use Rattle.nofs_reader.specs.declared.opened.Unread.{Unread}
use Rattle.nofs_reader.specs.declared.opened.Unread.TheVariants.{BadPage as OfBadPage, NoImage, NoInode, NotDirectory}
use Rattle.nofs_reader.specs.declared.opened.Unread.TheVariants.{IsDirectory, NoRoom, TooLarge}
use Rattle.nofs_reader.specs.declared.opened.Wanted.{Wanted}
use Rattle.nofs_reader.specs.declared.opened.Wanted.TheVariants as wanted
use Rattle.nofs_reader.specs.declared.stats.InodeStat.{InodeStat}

-- the superblock of an image, or the first fault that it has on a device of 1,048,576 blocks
abbrev pub superblock_of : Image → Result SuperBlock MountFault
superblock_of X = check_super 1048576 (cell_at X 0).payload

-- a call may be refused so where the definitions refuse it so, and with a page where that can't be told
abbrev pub IsRefused : List ℕ → Option Unread → Unread → Type 0
IsRefused bytes why (OfBadPage bad) = IsBadPage bytes bad
IsRefused bytes why (NoImage fault) = why ≡ Some (NoImage fault)
IsRefused bytes why NoInode = why ≡ Some NoInode
IsRefused bytes why NotDirectory = why ≡ Some NotDirectory
IsRefused bytes why IsDirectory = why ≡ Some IsDirectory
IsRefused bytes why TooLarge = why ≡ Some TooLarge
IsRefused bytes why NoRoom = why ≡ Some NoRoom

-- a call answers where the definitions do, and else is refused as they refuse it, or with a page that can't be told
abbrev pub IsAnswered : {A : Type 0} → List ℕ → Option Unread → Result A Unread → Type 0
IsAnswered bytes why (Ok answer) = why ≡ None
IsAnswered bytes why (Err refused) = IsRefused bytes why refused

-- so for any bytes
abbrev pub IsUnwanted : {A : Type 0} → Option Unread → Result A Unread → Type 0
IsUnwanted why result = (bytes : List ℕ) → IsAnswered bytes why result

-- what is asked of no image
abbrev pub image_unread : Result SuperBlock MountFault → Option Unread → Option Unread
image_unread (Err fault) rest = Some (NoImage fault)
image_unread (Ok at) rest = rest

-- a live inode of a kind that is not wanted
abbrev pub live_unread : Wanted → FileKind → Option Unread
live_unread wanted.Any kind = None
live_unread wanted.Files kind.File = None
live_unread wanted.Files kind.Directory = Some IsDirectory
live_unread wanted.Directories kind.File = Some NotDirectory
live_unread wanted.Directories kind.Directory = None

-- so of a record: a free one is none
abbrev pub kind_unread : Wanted → Option FileKind → Option Unread
kind_unread w None = Some NoInode
kind_unread w (Some kind) = live_unread w kind

-- why an inode of an image with a superblock is not read: it is not agreed, or is not of the wanted kind
abbrev pub agreed_unread : Wanted → Image → ℕ → Option Unread
agreed_unread w X i = if agreed (files_in X) i then kind_unread w (inode X i).kind else Some NoInode

-- why an inode is not read: the image's superblock has a fault, or one of those
abbrev pub inode_unread : Wanted → Image → ℕ → Option Unread
inode_unread w X i = image_unread (superblock_of X) (agreed_unread w X i)

-- so for a call that takes any inode, and for one that takes a directory
abbrev pub any_unread : Image → ℕ → Option Unread
any_unread X i = inode_unread wanted.Any X i

abbrev pub directory_unread : Image → ℕ → Option Unread
directory_unread X i = inode_unread wanted.Directories X i

-- the record is that of the inode
abbrev pub IsKnown : List ℕ → Opened → Type 0
IsKnown bytes it = KnowsInode (disk_of bytes) it.at it.inode it.record

-- and it is a directory
abbrev pub IsDirectoryKnown : List ℕ → Opened → Type 0
IsDirectoryKnown bytes it = KnowsDirectory (disk_of bytes) it.at it.inode it.record.generation it.record

-- an inode that was opened
pub record IsOpened (bytes : List ℕ) (w : Wanted) (i : ℕ) (it : Opened) : Type 0 where
  pub inode : it.inode ≡ i
  pub known : IsKnown bytes it
  pub agreed : agreed (files_in (image_of bytes)) i ≡ true
  pub kind : it.record.kind ≡ Some it.kind
  pub wanted : live_unread w it.kind ≡ None

-- what an agreed inode is: its kind, generation and size as its record has them, and the number of its back links
-- that are pairs with agreed directories
pub record IsStat (X : Image) (i : ℕ) (stat : InodeStat) : Type 0 where
  pub kind : (inode X i).kind ≡ Some stat.kind
  pub generation : stat.generation ≡ (inode X i).generation
  pub size : stat.size ≡ (inode X i).size
  pub links : stat.links ≡ count_by (λ link. is_agreed_link (files_in X) i link) (inode X i).links

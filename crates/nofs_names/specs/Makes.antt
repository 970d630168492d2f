-- What Make asks of its parts, and answers.
use Rattle.std.specs.Prelude.{◌≡◌, ℕ, ◌⊎◌, ◌+◌, ◌-◌, ◌/◌, ◌^◌, ◌<◌, ◌≤◌, ◌||◌, nat_lt, Bool, true, false, List, [], ◌∷◌}
use Rattle.std.specs.Prelude.{length, Option, Some, IsTrue, Result, Ok, Err, IfOk, IfErr, OnOk}
use Rattle.nofs_dirent.specs.Entries.{entry_limit}
use Rattle.nofs_bits.specs.Bits.{NoneSet, count_set, is_set}
use Rattle.nofs_disk.specs.Disk.{DiskState}
use Rattle.nofs_dirent.specs.Names.{NameOk}
use Rattle.nofs_inode.specs.InodeRecords.{free_record}
use Rattle.nofs_inode.specs.declared.inode.BackLink.{BackLink}
use Rattle.nofs_inode.specs.declared.inode.FileKind.{FileKind}
use Rattle.nofs_inode.specs.declared.inode.Record.{Record}
use Rattle.nofs_history.specs.Search.{first_of}
use Rattle.nofs_history.specs.Machine.{link_to}
use Rattle.nofs_history.specs.World.{World, next_inode}
use Rattle.nofs_history.specs.Refusals.{rows, inodes_full}
use Rattle.nofs_history.specs.declared.machine.history.Claims.{Claims}
use Rattle.nofs_history.specs.declared.machine.history.Entry1.{Entry1}
use Rattle.nofs_history.specs.declared.machine.steps.Step.{Step}
use Rattle.nofs_history.specs.declared.machine.steps.Step.TheVariants as step
use Rattle.nofs_history.specs.declared.machine.replies.Refusal.{Refusal}
use Rattle.nofs_history.specs.declared.machine.replies.Refusal.TheVariants as refusal
use Rattle.nofs_history.specs.declared.machine.replies.Reply.{Reply}
use Rattle.nofs_history.specs.declared.machine.replies.Reply.TheVariants as reply
use Rattle.nofs_agree.specs.Reads.{KnowsDirectory}
use Rattle.nofs_state.specs.Books.Maps.{InodesFit, Says}
use Rattle.nofs_state.specs.Cores.Invariant.{IsOpen, Past}
use Rattle.nofs_state.specs.Cores.Steps.{Goes}
use Rattle.nofs_state.specs.declared.books.maps.Books.{Books}
use Rattle.nofs_names.specs.Searches.Refusals.{IsThere, KnownTrue}
use Rattle.nofs_names.specs.Links.{PlaceIs, block_rows}
use Rattle.nofs_names.specs.Entries.Places.{AreFree, FitsSlot, IsEntrySlot, IsSlotCell, slot_blocks}
use Rattle.nofs_state.specs.declared.books.maps.InodeClaim.{InodeClaim}
use Rattle.nofs_state.specs.declared.writes.ends.Ended.{Ended}
use Rattle.nofs_names.specs.declared.entries.writes.EntryPlace.{EntryPlace}
use Rattle.nofs_names.specs.declared.makes.new_file.NewFile.{NewFile}

-- the record of a new inode
abbrev pub made_record : FileKind → ℕ → BackLink → Record
made_record kind g link = record free_record
    { generation = g; kind = Some kind; links = link ∷ link_to 0 0 0 ∷ link_to 0 0 0 ∷ link_to 0 0 0 ∷ [] }

-- the next stamp is not 0
abbrev pub is_raised : Books → Bool
is_raised k = nat_lt 0 k.at.mount || nat_lt 0 k.serial

-- the numbers of a refusal are those of the maps
abbrev pub AreInodesFull : Books → Refusal → Type 0
AreInodesFull k why = (next : ℕ) × (why ≡ refusal.InodesFull (count_set k.unknown_inodes) next) × (next ≤ 65536) ×
    ((W : World) → Says k W → InodesFit k → next ≡ next_inode W)

-- why no inode is claimed: none is known to be free, or the mount was not raised
abbrev pub NoInode : Books → Refusal → Type 0
NoInode k why = (AreInodesFull k why × NoneSet k.free_inodes 0 (length k.free_inodes))
    ⊎ ((why ≡ refusal.SerialsSpent) × (is_raised k ≡ false))

pub record FindsInode (k : Books) (result : Result ℕ Refusal) : Type 0 where
  pub above : IfOk result (λ i. 1 ≤ i)
  pub within : IfOk result (λ i. i ≤ length k.free_inodes)
  pub free : IfOk result (λ i. is_set k.free_inodes (i - 1) ≡ true)
  pub raised : OnOk result (is_raised k ≡ true)
  pub refused : IfErr result (NoInode k)

-- what was claimed for an entry, with the inode
abbrev pub with_inode : Claims → InodeClaim → Claims
with_inode c claim = record c { inode = claim.inode; generation = claim.generation }

abbrev pub made_answer : Claims → Result (Unit {0}) Refusal → Reply
made_answer c (Ok done) = reply.Made c.inode c.generation
made_answer c (Err why) = reply.Refused why

-- what a Make leaves, and answers
abbrev pub MakeGoes : DiskState → Books → DiskState → Books → Step → Ended → Type 0
MakeGoes old k new l s ended = Goes old k new l s ended.claims (made_answer ended.claims ended.result)

-- the directory of a new file is there, and has this place for an entry with this name
pub record GoesIn (d : DiskState) (k : Books) (to : NewFile) (name : List ℕ) (e : ℕ) : Type 0 where
  pub directory : KnowsDirectory d k.at to.directory to.it.generation to.it
  pub generation : to.it.generation ≡ to.generation
  pub there : IsTrue d.tells → KnownTrue k d.now → IsThere to.directory d.now
  pub good : NameOk name
  pub entry : e < entry_limit
  pub place : PlaceIs d k to.directory name e

-- the rows of room: an inode, blocks, and stamps
abbrev pub room_left : ℕ → ℕ → List ℕ → FileKind → World → World → List (Option Refusal)
room_left i g name kind W V = inodes_full W V ∷ block_rows (step.Make i g name kind) W V

-- no row before those of room refuses
abbrev pub RowsLeft : DiskState → Books → ℕ → ℕ → List ℕ → FileKind → Type 0
RowsLeft d k i g name kind = IsTrue d.tells → (H : List Entry1) (p : Past) → IsOpen d k H p → (V : World)
    → first_of (rows p.world V (step.Make i g name kind)) ≡ first_of (room_left i g name kind p.world V)

-- nor that of inodes
abbrev pub RoomLeft : DiskState → Books → ℕ → ℕ → List ℕ → FileKind → Type 0
RoomLeft d k i g name kind = IsTrue d.tells → (H : List Entry1) (p : Past) → IsOpen d k H p → (V : World)
    → first_of (rows p.world V (step.Make i g name kind)) ≡ first_of (block_rows (step.Make i g name kind) p.world V)

-- what a Make stands on when it claims this inode, and an entry in this place
pub record MayMake (d : DiskState) (k : Books) (i g : ℕ) (name : List ℕ) (r : Record) (p : EntryPlace)
    (made : ℕ) : Type 0 where
  pub directory : KnowsDirectory d k.at i r.generation r
  pub generation : r.generation ≡ g
  pub there : IsTrue d.tells → KnownTrue k d.now → IsThere i d.now
  pub good : NameOk name
  pub range : p.entry < entry_limit
  pub place : PlaceIs d k i name p.entry
  pub fits : FitsSlot k.at (p.entry / 16) p.slot
  pub slot : IsTrue d.tells → IsEntrySlot d.now i (p.entry / 16) p.slot
  pub cell : IsTrue d.tells → IsSlotCell d.now p.slot p.cell
  pub blocks : AreFree k.free_blocks (slot_blocks p.slot) p.blocks
  pub stamps : k.serial + 1 + slot_blocks p.slot ≤ 2 ^ 40
  pub raised : is_raised k ≡ true
  pub above : 1 ≤ made
  pub within : made ≤ k.at.inodes
  pub free : is_set k.free_inodes (made - 1) ≡ true

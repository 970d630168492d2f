-- What List answers.
use Rattle.std.specs.Prelude.{◌≡◌, ℕ, ◌≤◌, ◌<◌, true, false, List, length, All, Option, Some, None, IsTrue, Result, Ok}
use Rattle.std.specs.Prelude.{Err, IfOk, IfErr, IfSome, OnOk, OnErr}
use Rattle.nofs_disk.specs.declared.Failed.{Failed}
use Rattle.nofs_disk.specs.Disk.{DiskState, StaysButFaults, Rose}
use Rattle.nofs_dirent.specs.Names.{NameOk, is_name}
use Rattle.nofs_inode.specs.declared.inode.FileKind.TheVariants as kind
use Rattle.nofs_inode.specs.declared.inode.BackLink.{BackLink}
use Rattle.nofs_dirent.specs.declared.entry.Entry.{Entry}
use Rattle.nofs_inode.specs.declared.inode.FileKind.{FileKind}
use Rattle.nofs_dirent.specs.Entries.{entry_in}
use Rattle.nofs_model.specs.Geometry.{Image, inode}
use Rattle.nofs_model.specs.Files.{Files}
use Rattle.nofs_model.specs.Slots.{value}
use Rattle.nofs_model.specs.declared.image.value.Value.TheVariants.{Hole, Bytes, Lost}
use Rattle.nofs_history.specs.History.{FilesMatch}
use Rattle.nofs_history.specs.Answers.{lines_in_slot}
use Rattle.nofs_history.specs.Steps.{IsListed}
use Rattle.nofs_history.specs.declared.machine.replies.NameLine.{NameLine}
use Rattle.nofs_history.specs.declared.machine.replies.Refusal.{Refusal}
use Rattle.nofs_history.specs.declared.machine.replies.Reply.{Reply}
use Rattle.nofs_history.specs.declared.machine.replies.Reply.TheVariants as reply
use Rattle.nofs_agree.specs.Reads.{IsLast}
use Rattle.nofs_agree.specs.declared.reads.LastRead.{LastRead}
use Rattle.nofs_state.specs.Inodes.Blocks.{MarkFails}
use Rattle.nofs_state.specs.Inodes.Opened.{met_fault}
use Rattle.nofs_names.specs.Searches.Slots.{paired_kind}
use Rattle.nofs_names.specs.Searches.Refusals.{IsThere}
use Rattle.nofs_names.specs.declared.lists.Listed.{Listed}
use Rattle.nofs_names.specs.declared.lists.Listed.TheVariants as listed
use Rattle.nofs_names.specs.declared.lists.ListedSlot.{ListedSlot}
use Rattle.nofs_names.specs.declared.lists.ListedSlot.TheVariants as found

abbrev pub list_answer : Result Listed Refusal → Reply
list_answer (Ok (listed.Names slot lines)) = reply.Names slot lines
list_answer (Ok (listed.LostNames slot)) = reply.LostNames slot
list_answer (Ok listed.NoMore) = reply.NoMore
list_answer (Err why) = reply.Refused why

-- the numbers and names of an answer are those of a directory
abbrev pub HasListed : Listed → Type 0
HasListed (listed.Names slot lines) = IsListed slot lines
HasListed (listed.LostNames slot) = slot < 72
HasListed listed.NoMore = Unit {0}

-- all slots from one on, up to another, are holes
abbrev pub AreHoles : Image → ℕ → ℕ → ℕ → Type 0
AreHoles X d from to = (k : ℕ) → from ≤ k → k < to → value X d k ≡ Hole

-- the first slot that is no hole
abbrev pub IsListedSlot : Image → ℕ → ℕ → LastRead → ListedSlot → Type 0
IsListedSlot X d from last (found.Holds k) = AreHoles X d from k × (from ≤ k) × (value X d k ≡ Bytes last.cell.payload)
IsListedSlot X d from last (found.Lost k) = AreHoles X d from k × (from ≤ k) × (value X d k ≡ Lost)
IsListedSlot X d from last found.NoMore = AreHoles X d from 72

abbrev pub InDirectory : ListedSlot → Type 0
InDirectory (found.Holds k) = k < 72
InDirectory (found.Lost k) = k < 72
InDirectory found.NoMore = Unit {0}

pub record FindsListed (old new : DiskState) (d from : ℕ) (last : LastRead)
    (result : Result ListedSlot Failed) : Type 0 where
  pub stays : StaysButFaults old new
  pub no_fault : OnOk result (new.faults ≡ old.faults)
  pub range : IfOk result InDirectory
  pub found : IfOk result (λ s. IsTrue old.tells → IsListedSlot old.now d from last s)
  pub kept : OnOk result (IsLast new last)
  pub cause : OnErr result (Rose old.faults new.faults)

-- the line of an entry, by the record of the inode that it names
abbrev pub line_with : Entry → Option FileKind → NameLine
line_with it None = record { name = it.name; kind = kind.File; dead = true }
line_with it (Some k) = record { name = it.name; kind = k; dead = false }

abbrev pub name_line_in : Image → BackLink → Option Entry → Option NameLine
name_line_in X link None = None
name_line_in X link (Some it) =
    Some (line_with it (paired_kind (inode X it.inode) (record { inode = it.inode; generation = it.generation }) link))

pub record ReadsLine (old new : DiskState) (link : BackLink) (payload : List ℕ) (place : ℕ) (last : LastRead)
    (result : Result (Option NameLine) Refusal)
    : Type 0 where
  pub stays : StaysButFaults old new
  pub no_fault : met_fault result ≡ false → new.faults ≡ old.faults
  pub line : IfOk result (λ l. IsTrue old.tells → l ≡ name_line_in old.now link (entry_in payload place))
  pub named : IfOk result (λ l. IfSome l (λ line. NameOk line.name))
  pub kept : OnOk result (IsLast new last)
  pub refused : IfErr result (MarkFails old new)

pub record ReadsLines (old new : DiskState) (d slot : ℕ) (result : Result (List NameLine) Refusal) : Type 0 where
  pub stays : StaysButFaults old new
  pub no_fault : met_fault result ≡ false → new.faults ≡ old.faults
  pub lines : IfOk result
      (λ ls. IsTrue old.tells → IsThere d old.now → (F : Files) → FilesMatch F old.now → ls ≡ lines_in_slot F d slot)
  pub few : IfOk result (λ ls. length ls ≤ 16)
  pub named : IfOk result (All (λ line. IsTrue (is_name line.name)))
  pub refused : IfErr result (MarkFails old new)

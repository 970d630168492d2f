-- What the steps on files answer.
use Rattle.nofs_state.specs.Writes.Cells.{stopped_books}
use Rattle.std.specs.Prelude.{◌≡◌, ℕ, Bool, true, false, List, Option, Some, if◌then◌else◌, ◌==◌, IsTrue, Result}
use Rattle.std.specs.Prelude.{Ok, Err, IfOk, IfErr, OnOk, OnErr, count_by}
use Rattle.nofs_ptrs.specs.Paths.{slot_limit}
use Rattle.nofs_disk.specs.declared.Failed.{Failed}
use Rattle.nofs_disk.specs.Disk.{DiskState, Flushes, StaysButFaults, Rose}
use Rattle.nofs_inode.specs.declared.inode.Record.{Record}
use Rattle.nofs_super.specs.declared.superblock.SuperBlock.{SuperBlock}
use Rattle.nofs_inode.specs.declared.inode.FileKind.TheVariants as kind
use Rattle.nofs_model.specs.Geometry.{Image, inode}
use Rattle.nofs_model.specs.Files.{files_in, is_kind}
use Rattle.nofs_history.specs.Refusals.{row}
use Rattle.nofs_history.specs.Steps.{InRange}
use Rattle.nofs_history.specs.declared.machine.replies.Refusal.TheVariants as refusal
use Rattle.nofs_agree.specs.Reads.{IsLast, KnowsInode}
use Rattle.nofs_agree.specs.declared.reads.LastRead.{LastRead}
use Rattle.nofs_state.specs.Inodes.Opened.{is_current, met_fault}
use Rattle.nofs_state.specs.Cores.Steps.{is_late}
use Rattle.nofs_state.specs.declared.books.maps.Books.{Books}
use Rattle.nofs_files.specs.declared.reads.gets.Got.{Got}
use Rattle.nofs_files.specs.declared.reads.gets.Got.TheVariants as got
use Rattle.nofs_history.specs.declared.machine.replies.Stat.{Stat}
use Rattle.nofs_history.specs.declared.machine.replies.Reply.{Reply}
use Rattle.nofs_history.specs.declared.machine.replies.Reply.TheVariants as reply
use Rattle.nofs_history.specs.declared.machine.replies.Refusal.{Refusal}
use Rattle.nofs_agree.specs.Chain.{AreTrue, is_agreed_link}

abbrev pub stat_answer : Result Stat Refusal → Reply
stat_answer (Ok it) = reply.Stat it
stat_answer (Err why) = reply.Refused why

pub record CountsLinks (old new : DiskState) (known : List (Option Bool)) (i : ℕ) (r : Record)
    (result : Result ℕ Failed) : Type 0 where
  pub stays : StaysButFaults old new
  pub count : IfOk result
      (λ n. IsTrue old.tells → AreTrue old.now known → n ≡ count_by (is_agreed_link (files_in old.now) i) r.links)
  pub cause : OnErr result (Rose old.faults new.faults)
  pub no_fault : OnOk result (new.faults ≡ old.faults)

-- how many slots a file can have
abbrev pub slots_of : SuperBlock → ℕ
slots_of at = if at.version == 1 then 72 else slot_limit

-- why no file of this generation is there to be read or written
abbrev pub file_row : Image → ℕ → ℕ → Option Refusal
file_row X i g = if is_current X i g then row (is_kind kind.Directory (inode X i).kind) refusal.IsDirectory
    else Some refusal.Stale

-- why a file was not opened: by its row, or by a failed read
pub data FileFails (old new : DiskState) (k : Books) (i g : ℕ) (why : Refusal) : Type 0 where
  FailsByRow : is_late why ≡ true → InRange why
      → (IsTrue old.tells → AreTrue old.now k.agreement → file_row old.now i g ≡ Some why)
      → FileFails old new k i g why
  FailsByRead : why ≡ refusal.ReadFault → Rose old.faults new.faults → FileFails old new k i g why

-- the record of a file
pub record IsFile (d : DiskState) (at : SuperBlock) (i g : ℕ) (r : Record) : Type 0 where
  pub known : KnowsInode d at i r
  pub kind : r.kind ≡ Some kind.File
  pub generation : r.generation ≡ g

pub record OpensFile (old new : DiskState) (k : Books) (i g : ℕ) (last : LastRead)
    (result : Result Record Refusal) : Type 0 where
  pub stays : StaysButFaults old new
  pub refused : IfErr result (FileFails old new k i g)
  pub file : IfOk result (IsFile new k.at i g)
  pub current : IfOk result (λ r. IsTrue old.tells → AreTrue old.now k.agreement → is_current old.now i g ≡ true)
  pub kept : OnOk result (IsLast new last)
  pub no_fault : met_fault result ≡ false → new.faults ≡ old.faults

abbrev pub got_answer : List ℕ → Result Got Refusal → Reply
got_answer bytes (Ok got.Bytes) = reply.Bytes bytes
got_answer bytes (Ok got.Hole) = reply.Hole
got_answer bytes (Ok got.Lost) = reply.Lost
got_answer bytes (Err why) = reply.Refused why

-- only the bytes of a slot are put there: where it has none, or a step is refused, all is as it was
abbrev pub KeptButBytes : List ℕ → List ℕ → Result Got Refusal → Type 0
KeptButBytes old new (Ok got.Bytes) = Unit {0}
KeptButBytes old new (Ok got.Hole) = new ≡ old
KeptButBytes old new (Ok got.Lost) = new ≡ old
KeptButBytes old new (Err why) = new ≡ old

-- a Flush of the whole disk is made, or fails, or finds no memory, or the mount is stopped
abbrev pub answers_whole : Result (Unit {0}) Refusal → Bool
answers_whole (Ok done) = true
answers_whole (Err refusal.WriteFault) = true
answers_whole (Err refusal.OutOfMemory) = true
answers_whole (Err refusal.Stopped) = true
answers_whole (Err _) = false

abbrev pub flush_answer : Result (Unit {0}) Refusal → Reply
flush_answer (Ok done) = reply.Flushed
flush_answer (Err why) = reply.Refused why

-- the disk is flushed, or the mount is stopped
pub data FlushesDisk (old : DiskState) (k : Books) (new : DiskState) (l : Books)
    (result : Result (Unit {0}) Refusal) : Type 0 where
  Flushed : Flushes old new (Ok tt) → l ≡ k → result ≡ Ok tt → FlushesDisk old k new l result
  NotFlushed : (x : Failed) → Flushes old new (Err x) → l ≡ stopped_books k → result ≡ Err refusal.WriteFault
      → FlushesDisk old k new l result

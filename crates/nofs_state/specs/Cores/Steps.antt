-- What a step leaves: the contract of each step function.
use Rattle.std.specs.Prelude.{◌≡◌, ◌⊎◌, ℕ, ◌+◌, ◌<◌, ◌≤◌, true, false, List, [], ◌∷◌, ◌++◌, length, Bool, ◌&&◌, not}
use Rattle.std.specs.Prelude.{IsTrue, None}
use mathlib.Core.List.{IsPrefix}
use Rattle.nofs_disk.specs.Disk.{DiskState, IsSameDisk, KeepsCells, KeepsPast, Rose}
use Rattle.nofs_model.specs.Files.{Files}
use Rattle.nofs_history.specs.Faults.{is_fault}
use Rattle.nofs_history.specs.Machine.{gives, nothing, is_write_fault, is_refused}
use Rattle.nofs_history.specs.Refusals.{reads_nothing}
use Rattle.nofs_history.specs.Steps.{is_out_of_memory, InRange}
use Rattle.nofs_history.specs.World.{inodes_needed, blocks_needed}
use Rattle.nofs_history.specs.Next.{Next, sees_inode, sees_block, takes_time}
use Rattle.nofs_history.specs.declared.machine.replies.Refusal.{Refusal}
use Rattle.nofs_history.specs.Claims.{no_claims, cell_slot}
use Rattle.nofs_history.specs.Writes.{WritesSoMany, cells_written, is_flush, makes_calls}
use Rattle.nofs_history.specs.declared.machine.history.Claims.{Claims}
use Rattle.nofs_history.specs.declared.machine.history.Entry1.{Entry1}
use Rattle.nofs_history.specs.declared.machine.steps.Step.{Step}
use Rattle.nofs_history.specs.declared.machine.replies.Reply.{Reply}
use Rattle.nofs_history.specs.declared.machine.replies.Reply.TheVariants as reply
use Rattle.nofs_history.specs.declared.machine.replies.Refusal.TheVariants as refusal
use Rattle.nofs_state.specs.Books.Maps.{IsSafe}
use Rattle.nofs_state.specs.Cores.Early.{IsByGiven}
use Rattle.nofs_state.specs.Cores.Invariant.{IsOpen, IsStopped, Past, Sounds}
use Rattle.nofs_disk.specs.Order.{OnlyFlushes, OnlyWrites, WritesOnce}
use Rattle.nofs_disk.specs.declared.tag.Cell.{Cell}
use Rattle.nofs_state.specs.declared.books.maps.Books.{Books}

-- the entry of a step, from one state of the disk to the next
abbrev pub entry : ℕ → DiskState → DiskState → Step → Claims → Reply → Entry1
entry caller old new s c r =
    record { caller = caller; from = old.moment; to = new.moment; step = s; reply = r; claims = c }

-- the same mount, with another world and perhaps another mark
pub record SameMount (p q : Past) : Type 0 where
  pub base : q.base ≡ p.base
  pub first : q.first ≡ p.first

-- the same mount, with the machine's next world and perhaps another mark
pub record Moves (p : Past) (e : Entry1) (q : Past) : Type 0 where
  pub base : q.base ≡ p.base
  pub first : q.first ≡ p.first
  pub next : Next p.world e q.world

-- what holds after a step that met an open mount
pub record Follows (old new : DiskState) (l : Books) (H : List Entry1) (p : Past) (e : Entry1) : Type 0 where
  -- where memory was wanting there is no entry
  pub none : is_out_of_memory e.reply ≡ true → IsOpen new l H p
  pub done : is_out_of_memory e.reply ≡ false → is_write_fault e.reply ≡ false → (q : Past) × Moves p e q
      × IsOpen new l (H ++ e ∷ []) q
  pub fault : is_write_fault e.reply ≡ true → (q : Past) × Moves p e q × IsStopped new l (H ++ e ∷ []) q

-- a stopped mount answers Stopped alone
pub record StaysStopped (old new : DiskState) (l : Books) (H : List Entry1) (p : Past) (e : Entry1) : Type 0 where
  pub none : is_out_of_memory e.reply ≡ true → IsStopped new l H p
  pub done : is_out_of_memory e.reply ≡ false → IsStopped new l (H ++ e ∷ []) p
  pub next : is_out_of_memory e.reply ≡ false → Next p.world e p.world

-- the numbers of a refusal are in range
abbrev pub HasRange : Reply → Type 0
HasRange (reply.Refused why) = InRange why
HasRange _ = Unit {0}

-- over any disk: why a refusal came that no world is needed for
pub record Causes (old new : DiskState) (k l : Books) (r : Reply) : Type 0 where
  pub stopped : k.stopped ≡ true → is_out_of_memory r ≡ false → r ≡ reply.Refused refusal.Stopped
  pub not_stopped : r ≡ reply.Refused refusal.Stopped → k.stopped ≡ true
  pub read : r ≡ reply.Refused refusal.ReadFault → Rose old.faults new.faults
  pub write : r ≡ reply.Refused refusal.WriteFault → Rose old.faults new.faults × (old.moment < new.moment)
  -- no other answer comes where a call has failed: it was not made again in silence
  pub no_fault : is_fault r ≡ false → new.faults ≡ old.faults
  -- a write fault alone stops the mount
  pub stops : k.stopped ≡ false → l.stopped ≡ true → r ≡ reply.Refused refusal.WriteFault
  pub fault : r ≡ reply.Refused refusal.WriteFault → l.stopped ≡ true
  pub keeps : k.stopped ≡ true → l.stopped ≡ true
  -- a flush takes time
  pub flush : r ≡ reply.Flushed → old.moment < new.moment
  -- a step that takes no time leaves the cells
  pub still : new.moment ≡ old.moment → KeepsCells old new
  -- every other refusal leaves the cells, and want of memory leaves the maps
  pub refused : is_refused r ≡ true → is_write_fault r ≡ false → KeepsCells old new
  pub memory : is_out_of_memory r ≡ true → l ≡ k
  pub range : HasRange r

-- a device that tells meets an open mount, in which the machine has these files
abbrev pub MeetsOpen : DiskState → Books → Files → Type 0
MeetsOpen d k F = (H : List Entry1) × (p : Past) × IsTrue d.tells × IsOpen d k H p × (p.world.files ≡ F)

-- the cells that a step owes the machine: no block twice, so it is all one in which order they are written; and no more
-- than these files ask for
pub record IsRow (F : Files) (s : Step) (c : Claims) (ws : List (ℕ × Cell)) : Type 0 where
  pub once : WritesOnce ws
  pub exact : length ws ≡ cells_written F s c

-- the cells that a step writes, and the calls that it made: all of them, or those up to the one that failed
pub record WritesCells (old new : DiskState) (Told : Files → Type 0) (s : Step) (c : Claims)
    (failed : Bool) : Type 0 where
  pub row : List (ℕ × Cell)
  pub count : WritesSoMany s c (length row)
  -- where the device tells, and the machine has these files
  pub told : (F : Files) → Told F → IsRow F s c row
  pub calls : List (ℕ × Cell)
  pub first : IsPrefix calls row
  pub whole : failed ≡ false → calls ≡ row
  pub only : OnlyWrites old new calls failed

-- NO STEP ORDERS ITS WRITES. Over a device that tells a step leaves it as it is, or makes writes alone, or, where it is
-- a Flush, one flush alone. Over one that does not tell this is a count of the calls that write or flush, and what is
-- dirty. Over each it writes no block out
pub data NoOrder (old new : DiskState) (Told : Files → Type 0) (s : Step) (c : Claims) (r : Reply) : Type 0 where
  LeavesDisk : makes_calls r ≡ false → KeepsCells old new → new.dirty ≡ old.dirty → NoOrder old new Told s c r
  WritesAlone : makes_calls r ≡ true → WritesCells old new Told s c (is_write_fault r) → NoOrder old new Told s c r
  FlushesAlone : is_flush s ≡ true → takes_time r ≡ true → OnlyFlushes old new (is_write_fault r)
      → NoOrder old new Told s c r

-- a step from one state of a core to the next, with what it claims and answers
pub record Goes (old : DiskState) (k : Books) (new : DiskState) (l : Books) (s : Step) (c : Claims)
    (r : Reply) : Type 0 where
  pub disk : IsSameDisk old new
  pub past : KeepsPast old new
  pub later : old.moment ≤ new.moment
  pub cause : Causes old new k l r
  pub order : NoOrder old new (MeetsOpen old k) s c r
  -- BadName, BadRange and TooLarge come only by what the step was given and by the superblock
  pub early : IsByGiven k.at s r
  pub safe : IsSafe new l
  pub at : l.at ≡ k.at
  pub history : l.history ≡ k.history
  pub sound : IsTrue old.tells → (H : List Entry1) (p : Past) → IsOpen old k H p ⊎ IsStopped old k H p
      → (from : ℕ) → Sounds from old → Sounds from new
  pub from_open : IsTrue old.tells → (caller : ℕ) (H : List Entry1) (p : Past) → IsOpen old k H p
      → Follows old new l H p (entry caller old new s c r)
  pub from_stopped : IsTrue old.tells → (caller : ℕ) (H : List Entry1) (p : Past) → IsStopped old k H p
      → StaysStopped old new l H p (entry caller old new s c r)

-- What holds of a step over any disk: no world is named, and nothing is asked of the device.
pub record IsSafeStep (old : DiskState) (k : Books) (new : DiskState) (l : Books) (r : Reply) : Type 0 where
  pub cause : Causes old new k l r
  pub disk : IsSameDisk old new
  pub past : KeepsPast old new
  pub later : old.moment ≤ new.moment
  pub at : l.at ≡ k.at
  pub history : l.history ≡ k.history
  pub safe : IsSafe new l

-- each step that goes as the machine's is one
pub goes-safely : {old new : DiskState} {k l : Books} {s : Step} {c : Claims} {r : Reply} → Goes old k new l s c r
    → IsSafeStep old k new l r
goes-safely g = record {
  disk = g.disk;
  past = g.past;
  later = g.later;
  cause = g.cause;
  safe = g.safe;
  at = g.at;
  history = g.history;
}

-- a refusal that tells of the files, the maps or the step, and not of a device or of memory
abbrev pub is_plain : Refusal → Bool
is_plain refusal.Stopped = false
is_plain refusal.ReadFault = false
is_plain refusal.WriteFault = false
is_plain refusal.OutOfMemory = false
is_plain _ = true

-- one that comes after a read
abbrev pub is_late : Refusal → Bool
is_late why = is_plain why && not (reads_nothing why)

-- a step that reads alone
pub record IsReading (s : Step) : Type 0 where
  pub no_inode : inodes_needed s ≡ 0
  pub no_block : (F : Files) → blocks_needed F s ≡ 0
  pub gives : (F : Files) → gives F s no_claims ≡ nothing
  pub no_slot : (F : Files) → cell_slot F s ≡ None
  pub sees_no_inode : (i : ℕ) → sees_inode s i ≡ false
  pub sees_no_block : (p : ℕ) → sees_block s p ≡ false

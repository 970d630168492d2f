-- The form of a history, over any disk.
use Rattle.std.specs.Prelude.{◌≡◌, ℕ, ◌+◌, ◌*◌, ◌<◌, ◌≤◌, Bool, true, false, ◌||◌, ◌⊎◌, List, [], ◌∷◌, if◌then◌else◌}
use Rattle.nofs_history.specs.Machine.{is_write_fault}
use Rattle.nofs_history.specs.Faults.{is_fault}
use Rattle.nofs_history.specs.Next.{takes_time}
use Rattle.nofs_history.specs.Steps.{is_out_of_memory}
use Rattle.nofs_history.specs.declared.machine.history.Entry1.{Entry1}
use Rattle.nofs_history.specs.declared.machine.replies.Reply.TheVariants as reply
use Rattle.nofs_history.specs.declared.machine.replies.Refusal.TheVariants as refusal
use Rattle.nofs_model.specs.Files.{Files}
use Rattle.nofs_history.specs.History.{NoWriteFault}
use Rattle.nofs_history.specs.Writes.{WritesSoMany, cells_along, is_flush, makes_calls}

-- in an entry so many cells were written: those of its step, and perhaps fewer where a write failed
pub data Wrote (e : Entry1) (n : ℕ) : Type 0 where
  NoCell : (makes_calls e.reply ≡ false) ⊎ (is_flush e.step ≡ true) → n ≡ 0 → Wrote e n
  Cells : makes_calls e.reply ≡ true → (row : ℕ) → WritesSoMany e.step e.claims row
      → n ≤ row → (is_write_fault e.reply ≡ false → n ≡ row) → Wrote e n

-- the flush of a Flush
abbrev pub flushes_of : Entry1 → ℕ
flushes_of e = if takes_time e.reply then (if is_flush e.step then 1 else 0) else 0

-- the entry begins at this moment, in a mount that is stopped or not
pub record IsNextEntry (moment : ℕ) (stopped : Bool) (e : Entry1) : Type 0 where
  pub from : e.from ≡ moment
  pub later : e.from ≤ e.to
  pub takes : takes_time e.reply ≡ true → e.from < e.to
  -- it took 2 for each cell that was written, and 2 for a flush: no other call was made that takes time
  pub cells : ℕ
  pub wrote : Wrote e cells
  pub took : e.to ≡ e.from + 2 * cells + 2 * flushes_of e
  pub stops : stopped ≡ true → e.reply ≡ reply.Refused refusal.Stopped
  pub stopped_only : e.reply ≡ reply.Refused refusal.Stopped → stopped ≡ true
  pub memory : is_out_of_memory e.reply ≡ false

-- each entry begins at the moment at which the one before ended; Stopped comes exactly after a fault of writing
abbrev pub Forms : ℕ → Bool → List Entry1 → ℕ → Bool → Type 0
Forms moment stopped [] end last = (end ≡ moment) × (last ≡ stopped)
Forms moment stopped (e ∷ es) end last = IsNextEntry moment stopped e
    × Forms e.to (stopped || is_write_fault e.reply) es end last

-- in how many steps the device failed
abbrev pub faults_in : List Entry1 → ℕ
faults_in [] = 0
faults_in (e ∷ es) = (if is_fault e.reply then 1 else 0) + faults_in es

-- in all of them so many cells were written
abbrev pub WroteTotal : List Entry1 → ℕ → Type 0
WroteTotal [] n = n ≡ 0
WroteTotal (e ∷ es) n = (first : ℕ) × (rest : ℕ) × Wrote e first × WroteTotal es rest × (n ≡ first + rest)

-- and so many flushes were made
abbrev pub flushes_in : List Entry1 → ℕ
flushes_in [] = 0
flushes_in (e ∷ es) = flushes_of e + flushes_in es

-- NO OTHER CALL. From one moment to another the device wrote the cells of these entries, one call a cell, and made the
-- flushes of their Flush steps
pub record OnlyCalls (from to : ℕ) (H : List Entry1) : Type 0 where
  pub cells : ℕ
  pub wrote : WroteTotal H cells
  pub moment : to ≡ from + 2 * cells + 2 * flushes_in H

-- THE MOMENT OF EACH CALL, over a disk that tells: from the files at the start, the history says how many cells were
-- written. Where a write failed, those of its step that were not tried are missing
pub record ExactCalls (F : Files) (from to : ℕ) (H : List Entry1) : Type 0 where
  pub all : NoWriteFault H → to ≡ from + 2 * cells_along F H + 2 * flushes_in H
  pub most : to ≤ from + 2 * cells_along F H + 2 * flushes_in H

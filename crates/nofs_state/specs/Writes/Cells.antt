-- The writes of one step.
use Rattle.std.specs.Prelude.{◌≡◌, ℕ, ◌<◌, List, Result, Ok, Err, OnOk, OnErr, true}
use mathlib.Core.List.{IsPrefix}
use Rattle.nofs_disk.specs.Disk.{DiskState, Rose, cell_at}
use Rattle.nofs_disk.specs.Adds.{Adds}
use Rattle.nofs_disk.specs.Order.{IsApart, OneOf, OnlyWrites, has_failed, image_after}
use Rattle.nofs_disk.specs.declared.Failed.{Failed}
use Rattle.nofs_history.specs.declared.machine.replies.Refusal.{Refusal}
use Rattle.nofs_history.specs.declared.machine.replies.Refusal.TheVariants as refusal
use Rattle.nofs_state.specs.declared.books.maps.Books.{Books}
use Rattle.nofs_disk.specs.declared.tag.Cell.{Cell}

-- so many writes, one after another, up to the first that fails: these calls were made
pub record WritesAll (old new : DiskState) (ws : List (ℕ × Cell)) (result : Result (Unit {0}) Failed) : Type 0 where
  pub calls : List (ℕ × Cell)
  pub only : OnlyWrites old new calls (has_failed result)
  pub first : IsPrefix calls ws
  pub whole : OnOk result (calls ≡ ws)
  pub adds : Adds (OneOf ws) old new
  pub later : old.moment < new.moment
  pub others : (b : ℕ) → IsApart ws b → cell_at new.now b ≡ cell_at old.now b
  pub now : OnOk result (new.now ≡ image_after ws old.now)
  pub cause : OnErr result (Rose old.faults new.faults)
  pub no_fault : OnOk result (new.faults ≡ old.faults)

-- a mount in which a write failed
abbrev pub stopped_books : Books → Books
stopped_books k = record k { stopped = true }

-- all is written, or the mount is stopped
pub data Stores (old : DiskState) (k : Books) (new : DiskState) (l : Books) (ws : List (ℕ × Cell))
    (result : Result (Unit {0}) Refusal) : Type 0 where
  Stored : WritesAll old new ws (Ok tt) → l ≡ k → result ≡ Ok tt → Stores old k new l ws result
  NotStored : (x : Failed) → WritesAll old new ws (Err x) → l ≡ stopped_books k → result ≡ Err refusal.WriteFault
      → Stores old k new l ws result

-- Rows of refusals: which of them come after the first read, and a file that is not opened.
use Rattle.std.proofs.Common.{◌≡◌, ℕ, Bool, true, false, List, [], ◌∷◌, Option, Some, None, Result, Err, IfErr, refl}
use Rattle.std.proofs.Common.{ap, subst}
use Rattle.nofs_disk.specs.Disk.{DiskState, IsDisk}
use Rattle.nofs_history.specs.Search.{first_of}
use Rattle.nofs_history.specs.World.{World}
use Rattle.nofs_history.specs.Claims.{no_claims}
use Rattle.nofs_history.specs.Refusals.{row, rows, reads_nothing, stale}
use Rattle.nofs_history.specs.declared.machine.steps.Step.{Step}
use Rattle.nofs_history.specs.declared.machine.replies.Reply.TheVariants as reply
use Rattle.nofs_history.specs.declared.machine.replies.Refusal.{Refusal}
use Rattle.nofs_history.specs.declared.machine.replies.Refusal.TheVariants as refusal
use Rattle.nofs_agree.specs.declared.reads.LastRead.{LastRead}
use Rattle.nofs_state.specs.Books.Maps.{IsSafe}
use Rattle.nofs_state.specs.Cores.Steps.{Goes}
use Rattle.nofs_state.specs.Inodes.Opened.{Opens, OpenFails, met_fault}
use Rattle.nofs_state.specs.declared.books.maps.Books.{Books}
use Rattle.nofs_state.specs.declared.inodes.opened.Opened.{Opened}
use Rattle.nofs_state.proofs.OnCores.Replies.{goes-row, goes-read, open-files}
use Rattle.nofs_state.proofs.OnBooks.Machine.{are-agreed, stale-some}

-- a row that comes after a read
abbrev pub IsLate : Option Refusal → Type 0
IsLate o = (why : Refusal) → o ≡ Some why → reads_nothing why ≡ false

abbrev pub AreLate : List (Option Refusal) → Type 0
AreLate [] = Unit {0}
AreLate (o ∷ os) = IsLate o × AreLate os

pub first-late : (os : List (Option Refusal)) → AreLate os → IsLate (first_of os)
first-late [] late why e = cc
first-late (None ∷ os) late why e = first-late os late.1 why e
first-late (Some w ∷ os) late why e = late.0 why e

pub late-row : (b : Bool) (w : Refusal) → reads_nothing w ≡ false → IsLate (row b w)
late-row true w h why e = let s : w ≡ why = cc in subst (λ (q : Refusal). reads_nothing q ≡ false) s h
late-row false w h why e = cc

-- the file was not opened: it is stale, or a read failed
pub goes-unopened : (old new : DiskState) (k : Books) (s : Step) (i g : ℕ) (last : LastRead)
    (res : Result Opened Refusal) (why : Refusal) → IsDisk old
    → IsSafe old k → k.stopped ≡ false → Opens old new k i g last res → res ≡ Err why
    → ((W : World) → stale W i g ≡ Some refusal.Stale → first_of (rows W W s) ≡ Some refusal.Stale)
    → ((W : World) → IsLate (first_of (rows W W s)))
    → Goes old k new k s no_claims (reply.Refused why)
goes-unopened old new k s i g last res why is safe going opens e comes late =
    go why e (subst (λ (q : Result Opened Refusal). IfErr q (OpenFails old new k i g)) e opens.refused)
  where
    go : (w : Refusal) → res ≡ Err w → OpenFails old new k i g w → Goes old k new k s no_claims (reply.Refused w)
    go refusal.Stale e fails =
        goes-row old new k s is safe opens.stays (opens.no_fault (ap met_fault e)) refusal.Stale refl tt going
        (λ tells H p o. comes p.world
        (stale-some p.world old.now i g (open-files old k H p o) (fails tells (are-agreed old k H p safe o))))
    go refusal.ReadFault e fails = goes-read old new k s is safe opens.stays going fails (λ tells H p o. late p.world)
    go _ e fails = absurd fails

-- A verdict of an earlier state of the mount, committed later.
use Rattle.std.specs.Prelude.{◌≡◌, ◌<◌, ℕ, List, ◌++◌, length, Bool, false, IsTrue}
use Rattle.nofs_disk.specs.Disk.{DiskState}
use Rattle.nofs_history.specs.Claims.{no_claims}
use Rattle.nofs_history.specs.declared.machine.history.Entry1.{Entry1}
use Rattle.nofs_history.specs.declared.machine.steps.ElementKind.{ElementKind}
use Rattle.nofs_history.specs.declared.machine.replies.Reply.TheVariants as reply
use Rattle.nofs_state.specs.Books.Maps.{IsSafe}
use Rattle.nofs_state.specs.Cores.Invariant.{IsOpen, Past}
use Rattle.nofs_state.specs.Cores.Steps.{Causes, Follows, SameMount, entry}
use Rattle.nofs_state.specs.Books.Verdicts.{OffersVerdict}
use Rattle.nofs_state.specs.declared.books.maps.Books.{Books}
use Rattle.nofs_scan.specs.Steps.Elements.{is_used, learned, see_step, verdict_at, verdict_of}
use Rattle.nofs_scan.specs.declared.sights.evidence.Verdict.{Verdict}

-- the mount stood open in this state before, after a part of its history
pub record WasOpen (old : DiskState) (k : Books) (now : Books) (H : List Entry1) (p : Past) : Type 0 where
  pub tells : IsTrue old.tells
  pub before : List Entry1
  pub after : List Entry1
  pub whole : H ≡ before ++ after
  pub start : k.history.start ≡ now.history.start
  pub past : Past
  pub mount : SameMount past p
  pub stood : IsOpen old k before past

-- the verdict at a place of an evidence may be committed to these books: they go on, and have the numbers of its own
pub record MayCommit (d : DiskState) (k before : Books) (vs : List Verdict) (place : ℕ) (used : Bool) : Type 0 where
  pub safe : IsSafe d k
  pub going : k.stopped ≡ false
  pub within : place < length vs
  pub verdict : used ≡ (verdict_at vs place).used
  pub numbers : before.at ≡ k.at

-- A verdict that was right in an earlier state is committed now. The disk `d` stays: a commit makes no call
pub record Commits (early : DiskState) (before : Books) (d : DiskState) (k l : Books) (kind : ElementKind) (item : ℕ)
    (used result : Bool) : Type 0 where
  -- over any disk: a verdict that stood stays, and is the answer
  pub settles : OffersVerdict k l (verdict_of kind k item) (learned kind k item) used result
  pub cause : Causes d d k l (reply.Seen result)
  pub safe : IsSafe d l
  pub at : l.at ≡ k.at
  pub history : l.history ≡ k.history
  -- the answer is the scan's now
  pub right : IsTrue d.tells → (H : List Entry1) (p : Past) → IsOpen d k H p → WasOpen early before k H p
      → result ≡ is_used kind d.now item
  -- and the commit is a See step
  pub from_open : IsTrue d.tells → (caller : ℕ) (H : List Entry1) (p : Past) → IsOpen d k H p
      → WasOpen early before k H p
      → Follows d d l H p (entry caller d d (see_step kind item) no_claims (reply.Seen result))

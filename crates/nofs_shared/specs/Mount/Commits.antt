-- What a commit of an earlier verdict answers, and what it leaves in the maps.
use Rattle.std.specs.Prelude.{◌≡◌, ℕ, ◌+◌, ◌<◌, ◌≤◌, Bool, true, false, List, Some, length}
use mathlib.Core.List.{IsPrefix}
use Rattle.nofs_turn.specs.declared.rule.view.View.{View}
use Rattle.nofs_disk.specs.Disk.{DiskState}
use Rattle.nofs_history.specs.Steps.{is_out_of_memory}
use Rattle.nofs_history.specs.declared.machine.history.Entry1.{Entry1}
use Rattle.nofs_history.specs.declared.machine.steps.ElementKind.{ElementKind}
use Rattle.nofs_history.specs.declared.machine.replies.Reply.{Reply}
use Rattle.nofs_history.specs.declared.machine.replies.Reply.TheVariants as reply
use Rattle.nofs_history.specs.declared.machine.replies.Refusal.TheVariants as refusal
use Rattle.nofs_state.specs.Books.Maps.{with_history}
use Rattle.nofs_state.specs.Books.Verdicts.{OffersVerdict}
use Rattle.nofs_state.specs.declared.books.maps.Books.{Books}
use Rattle.nofs_scan.specs.Steps.Elements.{is_used, learned, verdict_at, verdict_of}
use Rattle.nofs_scan.specs.declared.sights.evidence.Verdict.{Verdict}
use Rattle.nofs_shared.specs.Mount.Invariant.{IsMount, IsSoundDisk}

-- this is the verdict at a place of those that were found
pub record IsVerdict (found : List Verdict) (at : ℕ) (verdict : Bool) : Type 0 where
  -- they have such a place
  pub within : at < length found
  -- and there the element is used, or free, just so
  pub used : verdict ≡ (verdict_at found at).used

-- the verdict that stands is seen: it stood before and nothing changed, or it is the one committed
pub record SeesVerdict (k l : Books) (kind : ElementKind) (item : ℕ) (used : Bool) (r : Reply) : Type 0 where
  pub verdict : Bool
  pub is : r ≡ reply.Seen verdict
  pub settled : Books
  pub settles : OffersVerdict k settled (verdict_of kind k item) (learned kind k item) used verdict
  pub books : l ≡ with_history settled l.history

-- A verdict of an earlier state of the mount over the disk `found` is committed. `d` is the disk at the commit
pub record IsCommit (found d : DiskState) (k l : Books) (kind : ElementKind) (item : ℕ) (used : Bool)
    (r : Reply) : Type 0 where
  -- the answer is Stopped exactly where a write failed, and else the verdict that stands
  pub stopped : k.stopped ≡ true → is_out_of_memory r ≡ false → r ≡ reply.Refused refusal.Stopped
  pub seen : k.stopped ≡ false → is_out_of_memory r ≡ false → SeesVerdict k l kind item used r
  -- the answer is that of the scan of the disk as it is now, whatever was done since the element was looked at
  pub right : IsSoundDisk found → (v : Bool) → r ≡ reply.Seen v → v ≡ is_used kind d.now item

-- the mount over `found`, whose history had these entries, met a commit in some state, and the commit says of it what
-- `IsCommit` says
pub record CommitsAt {D : Type 0} (state : D → DiskState) (found : D) (first : ℕ) (H : List Entry1) (kind : ElementKind)
    (item : ℕ) (used : Bool) (r : Reply)
    : Type 0
  where
    pub met : D
    pub before : Books
    pub after : Books
    pub stood : IsMount (state found) (state met) first before
    pub history : before.history.entries ≡ H
    pub commit : IsCommit (state found) (state met) before after kind item used r

-- A pass committed: the list of entries that the commit met begins with all that the pass had seen, at most one entry
-- follows it, and what a commit says is said of that list
pub record CommitRan {
    F : Type 0
    } (commits : F → List Entry1 → Reply → Type 0) (v w : View Entry1 F) (r : Reply) : Type 0 where
  pub part : F
  pub before : List Entry1
  pub fixed : v.fixed ≡ Some part
  pub begins : IsPrefix v.seen before
  pub keeps : IsPrefix before w.seen
  pub at_most_one : length w.seen ≤ length before + 1
  pub says : commits part before r

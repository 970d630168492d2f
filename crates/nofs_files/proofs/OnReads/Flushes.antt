-- The exits of Flush.
use Rattle.std.proofs.Common.{◌≡◌, ℕ, Bool, true, false, cond, not, eqb, ◌&&◌, is_some, List, [], ◌∷◌, Option, Some}
use Rattle.std.proofs.Common.{None, IsTrue, Result, Ok, Err, refl, sym, ap, ◌∙◌, subst, subst₂}
use Rattle.std.specs.Prelude.{OnOk}
use Rattle.nofs_disk.specs.Disk.{DiskState, IsDisk, IsSettled}
use Rattle.nofs_model.specs.Geometry.{Image}
use Rattle.nofs_agree.specs.Chain.{AreTrue}
use Rattle.nofs_history.specs.Search.{first_of}
use Rattle.nofs_history.specs.Machine.{generation_of}
use Rattle.nofs_history.specs.World.{World}
use Rattle.nofs_history.specs.Claims.{no_claims}
use Rattle.nofs_history.specs.Refusals.{rows, stale}
use Rattle.nofs_history.specs.declared.machine.history.Entry1.{Entry1}
use Rattle.nofs_history.specs.declared.machine.steps.Step.TheVariants as step
use Rattle.nofs_history.specs.declared.machine.replies.Reply.TheVariants as reply
use Rattle.nofs_history.specs.declared.machine.replies.Refusal.{Refusal}
use Rattle.nofs_history.specs.declared.machine.replies.Refusal.TheVariants as refusal
use Rattle.nofs_agree.specs.declared.reads.LastRead.{LastRead}
use Rattle.nofs_state.specs.Books.Maps.{IsSafe}
use Rattle.nofs_state.specs.Cores.Invariant.{IsOpen, Past}
use Rattle.nofs_state.specs.Cores.Steps.{Goes}
use Rattle.nofs_state.specs.Inodes.Opened.{Opens, is_current}
use Rattle.nofs_state.specs.declared.books.maps.Books.{Books}
use Rattle.nofs_state.specs.declared.inodes.opened.Opened.{Opened}
use Rattle.nofs_state.proofs.OnCores.Flushes.{goes-flushed, goes-unflushed}
use Rattle.nofs_state.proofs.OnCores.Unchanged.{goes-after, reads-keep, safe-keeps}
use Rattle.nofs_state.proofs.OnCores.Replies.{open-files}
use Rattle.nofs_state.proofs.OnCores.Refusals.{IsLate, first-late, late-row, goes-unopened}
use Rattle.nofs_state.proofs.OnBooks.Machine.{are-agreed, stale-none}
use Rattle.nofs_files.specs.Reads.{FlushesDisk, Flushed, NotFlushed, answers_whole, flush_answer}

-- what was flushed is settled
pub settled-by : (old new : DiskState) (k l : Books) (result : Result (Unit {0}) Refusal)
    → FlushesDisk old k new l result → OnOk result (IsSettled new)
settled-by old new k l result (Flushed f same e) =
    subst (λ (r : Result (Unit {0}) Refusal). OnOk r (IsSettled new)) (sym e) f.settled
settled-by old new k l result (NotFlushed x f same e) =
    subst (λ (r : Result (Unit {0}) Refusal). OnOk r (IsSettled new)) (sym e) tt

-- it was made, or failed
pub whole-by : (old new : DiskState) (k l : Books) (result : Result (Unit {0}) Refusal) → FlushesDisk old k new l result
    → answers_whole result ≡ true
whole-by old new k l result (Flushed f same e) = ap answers_whole e
whole-by old new k l result (NotFlushed x f same e) = ap answers_whole e

-- the flush itself
pub ends-flush : (old new : DiskState) (k l : Books) (i g : ℕ) (result : Result (Unit {0}) Refusal) → IsDisk old
    → IsDisk new → IsSafe old k → k.stopped ≡ false
    → (IsTrue old.tells → (H : List Entry1) (p : Past) → IsOpen old k H p
    → (V : World) → first_of (rows p.world V (step.Flush i g)) ≡ None)
    → FlushesDisk old k new l result → Goes old k new l (step.Flush i g) no_claims (flush_answer result)
ends-flush old new k l i g result is_old is_new safe going comes (Flushed f same e) =
    subst₂ (λ (m : Books) (r : Result (Unit {0}) Refusal). Goes old k new m (step.Flush i g) no_claims (flush_answer r))
    (sym same) (sym e)
    (goes-flushed old new k i g is_old is_new safe going comes f)
ends-flush old new k l i g result is_old is_new safe going comes (NotFlushed x f same e) =
    subst₂ (λ (m : Books) (r : Result (Unit {0}) Refusal). Goes old k new m (step.Flush i g) no_claims (flush_answer r))
    (sym same) (sym e)
    (goes-unflushed old new k i g is_old is_new safe going comes x f)

-- of the whole disk
pub whole-row : (W V : World) (i g : ℕ) → (eqb i 0 && eqb g 0) ≡ true → first_of (rows W V (step.Flush i g)) ≡ None
whole-row W V i g e = rw e refl

abbrev named : Bool → Option Refusal → Option Refusal
named b o = first_of ((cond b None o) ∷ [])

-- of a file that is there
pub there-row : (W V : World) (i g : ℕ) → stale W i g ≡ None → first_of (rows W V (step.Flush i g)) ≡ None
there-row W V i g e = ap (λ (o : Option Refusal). named (eqb i 0 && eqb g 0) o) e ∙ go (eqb i 0 && eqb g 0)
  where
    go : (b : Bool) → named b None ≡ None
    go true = refl
    go false = refl

pub stale-row : (W V : World) (i g : ℕ) → (eqb i 0 && eqb g 0) ≡ false → stale W i g ≡ Some refusal.Stale
    → first_of (rows W V (step.Flush i g)) ≡ Some refusal.Stale
stale-row W V i g whole e = rw (whole, e) refl

pub flush-late : (W V : World) (i g : ℕ) → IsLate (first_of (rows W V (step.Flush i g)))
flush-late W V i g = go (eqb i 0 && eqb g 0)
  where
    go : (b : Bool) → IsLate (named b (stale W i g))
    go true = λ why e. cc
    go false = first-late (stale W i g ∷ [])
        (late-row (not (is_some (W.files i) && eqb (generation_of W.files i) g)) refusal.Stale refl, tt)

module _ (old mid : DiskState) (k : Books) (i g : ℕ) (last : LastRead) (is_old : IsDisk old) (safe : IsSafe old k)
    (going : k.stopped ≡ false) where
  pub opened-flush : (new : DiskState) (l : Books) (it : Opened) (result : Result (Unit {0}) Refusal)
      → IsDisk mid → IsDisk new
      → Opens old mid k i g last (Ok it) → FlushesDisk mid k new l result
      → Goes old k new l (step.Flush i g) no_claims (flush_answer result)
  opened-flush new l it result is_mid is_new opens ends =
      let keep = reads-keep old mid opens.stays in
      goes-after old mid keep (opens.no_fault refl) new k l (step.Flush i g) no_claims (flush_answer result)
      (ends-flush mid new k l i g result is_mid is_new (safe-keeps old mid keep k safe) going
      (λ tells H p o V. there-row p.world V i g (stale-none p.world mid.now i g (open-files mid k H p o)
      (subst (λ (X : Image). is_current X i g ≡ true) (sym opens.stays.cells.now)
      (opens.current (subst (λ (b : Bool). IsTrue b) opens.stays.disk.tells tells)
      (subst (λ (X : Image). AreTrue X k.agreement) opens.stays.cells.now
      (are-agreed mid k H p (safe-keeps old mid keep k safe) o)))))) ends)

  pub unopened-flush : (res : Result Opened Refusal) (why : Refusal)
      → (eqb i 0 && eqb g 0) ≡ false → Opens old mid k i g last res → res ≡ Err why
      → Goes old k mid k (step.Flush i g) no_claims (reply.Refused why)
  unopened-flush res why whole opens e =
      goes-unopened old mid k (step.Flush i g) i g last res why is_old safe going opens e
      (λ W s. stale-row W W i g whole s) (λ W. flush-late W W i g)

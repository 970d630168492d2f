-- How the parts of a step make the step: their rows stand one after another.
use Rattle.std.proofs.Common.{◌≡◌, false, List, [], ◌∷◌, ◌++◌, Option, Some, None, IsTrue, Result, Ok, Err, IfErr, ℕ}
use Rattle.std.proofs.Common.{refl, sym, ap, subst, le_refl, ◌∙◌}
use Rattle.nofs_disk.specs.Disk.{DiskState, IsDisk, Rose, StaysButFaults}
use Rattle.nofs_disk.specs.Chains.{Rose-within, StaysButFaults-refl, StaysButFaults-trans}
use Rattle.nofs_inode.specs.declared.inode.Record.{Record}
use Rattle.nofs_model.specs.Geometry.{Image}
use Rattle.nofs_history.specs.Faults.{is_fault}
use Rattle.nofs_history.specs.Search.{first_of}
use Rattle.nofs_history.specs.World.{World}
use Rattle.nofs_history.specs.Claims.{no_claims}
use Rattle.nofs_history.specs.Refusals.{rows}
use Rattle.nofs_history.specs.History.{FilesMatch}
use Rattle.nofs_history.specs.declared.machine.history.Entry1.{Entry1}
use Rattle.nofs_history.specs.declared.machine.steps.Step.{Step}
use Rattle.nofs_history.specs.declared.machine.replies.Reply.TheVariants as reply
use Rattle.nofs_history.specs.declared.machine.replies.Refusal.{Refusal}
use Rattle.nofs_history.specs.declared.machine.replies.Refusal.TheVariants as refusal
use Rattle.nofs_agree.specs.declared.reads.LastRead.{LastRead}
use Rattle.nofs_agree.proofs.OnChain.{told-on}
use Rattle.nofs_state.specs.Books.Maps.{IsSafe}
use Rattle.nofs_state.specs.Cores.Early.{refused_early}
use Rattle.nofs_state.specs.Cores.Invariant.{IsOpen, Past}
use Rattle.nofs_state.specs.Cores.Steps.{Goes}
use Rattle.nofs_state.specs.Writes.Premises.{RowsPass}
use Rattle.nofs_state.specs.declared.books.maps.Books.{Books}
use Rattle.nofs_state.proofs.OnCores.Replies.{goes-early, goes-row, goes-read, open-files}
use Rattle.nofs_state.proofs.OnCores.Refusals.{IsLate}
use Rattle.nofs_state.proofs.OnBooks.Machine.{are-agreed}
use Rattle.nofs_names.specs.Searches.Refusals.{Fails, ByRow, ByRead, IsThere, KnownTrue, OpensDirectory, directory_rows}

pub first-left : (a b : List (Option Refusal)) (w : Refusal) → first_of a ≡ Some w → first_of (a ++ b) ≡ Some w
first-left [] b w e = cc e
first-left (None ∷ a) b w e = first-left a b w e
first-left (Some x ∷ a) b w e = e

pub first-right : (a b : List (Option Refusal)) → first_of a ≡ None → first_of (a ++ b) ≡ first_of b
first-right [] b e = refl
first-right (None ∷ a) b e = first-right a b e
first-right (Some x ∷ a) b e = cc e

-- a part that refuses after other reads
pub fails-after : (old mid new : DiskState) (given : Image → Type 0) (part : World → List (Option Refusal))
    (why : Refusal) → StaysButFaults old mid → mid.faults ≡ old.faults
    → Fails mid new given part why → Fails old new given part why
fails-after old mid new given part why stays quiet (ByRow plain range same comes) =
    ByRow plain range (same ∙ quiet) (λ t.
    subst (λ (X : Image). given X → (W : World) → FilesMatch W.files X → first_of (part W) ≡ Some why) stays.cells.now
    (comes (told-on old mid stays t)))
fails-after old mid new given part why stays quiet (ByRead is rose) =
    ByRead is (Rose-within old.faults mid.faults new.faults new.faults stays.disk.faults rose (le_refl new.faults))

-- what is given for one part follows from what is given for the step
pub fails-given : (old new : DiskState) (given first : Image → Type 0)
    (part : World → List (Option Refusal)) (why : Refusal)
    → (IsTrue old.tells → first old.now → given old.now) → Fails old new given part why → Fails old new first part why
fails-given old new given first part why follows (ByRow plain range same comes) =
    ByRow plain range same (λ t f. comes t (follows t f))
fails-given old new given first part why follows (ByRead is rose) = ByRead is rose

-- a part that was refused once the directory was open
pub opened-fails : {A : Type 0} (old mid new : DiskState) (k : Books) (d : ℕ) (part : World → List (Option Refusal))
    (res : Result A Refusal) (why : Refusal)
    → StaysButFaults old mid → mid.faults ≡ old.faults → (IsTrue old.tells → KnownTrue k old.now → IsThere d old.now)
    → res ≡ Err why
    → IfErr res (Fails mid new (IsThere d) part)
    → Fails old new (KnownTrue k) part why
opened-fails {A} old mid new k d part res why stays quiet there e refused =
    fails-given old new (IsThere d) (KnownTrue k) part why there
    (fails-after old mid new (IsThere d) part why stays quiet
    (subst (λ (q : Result A Refusal). IfErr q (Fails mid new (IsThere d) part)) e refused))

-- where it refuses for another reason than a failed read, none failed
pub fails-quiet : (old new : DiskState) (given : Image → Type 0) (part : World → List (Option Refusal)) (why : Refusal)
    → Fails old new given part why → is_fault (reply.Refused why) ≡ false → new.faults ≡ old.faults
fails-quiet old new given part why (ByRow plain range same comes) e = same
fails-quiet old new given part why (ByRead is rose) e =
    absurd (let z = ap (λ (w : Refusal). is_fault (reply.Refused w)) is in cc (z, e))

-- the step refuses where a part of it does
pub goes-fails : (old new : DiskState) (k : Books) (s : Step) (part : World → List (Option Refusal)) (why : Refusal)
    → IsDisk old → IsSafe old k
    → k.stopped ≡ false → StaysButFaults old new → Fails old new (KnownTrue k) part why
    → (IsTrue old.tells → (H : List Entry1) (p : Past) → IsOpen old k H p → first_of (part p.world) ≡ Some why
    → first_of (rows p.world p.world s) ≡ Some why)
    → ((W : World) → IsLate (first_of (rows W W s))) → Goes old k new k s no_claims (reply.Refused why)
goes-fails old new k s part why is safe going stays (ByRow plain range same comes) row-is late =
    goes-row old new k s is safe stays same why plain range going
    (λ t H p o. row-is t H p o (comes t (are-agreed old k H p safe o) p.world (open-files old k H p o)))
goes-fails old new k s part why is safe going stays (ByRead e rose) row-is late =
    subst (λ (w : Refusal). Goes old k new k s no_claims (reply.Refused w)) (sym e)
    (goes-read old new k s is safe stays going rose (λ t H p o. late p.world))

-- the step refuses a name that no entry may have
pub goes-bad : (old : DiskState) (k : Books) (s : Step) → IsDisk old → IsSafe old k → k.stopped ≡ false
    → refused_early k.at s ≡ Some refusal.BadName → ((W : World) → first_of (rows W W s) ≡ Some refusal.BadName)
    → Goes old k old k s no_claims (reply.Refused refusal.BadName)
goes-bad old k s is safe going early bad =
    goes-early old old k s is safe (StaysButFaults-refl old) refl refusal.BadName refl tt going early
    (λ t H p o. bad p.world)

-- a read failed in a step of which no row comes
pub goes-unread : (old new : DiskState) (k : Books) (s : Step) → IsDisk old → IsSafe old k → k.stopped ≡ false
    → StaysButFaults old new → Rose old.faults new.faults → RowsPass old k s
    → Goes old k new k s no_claims (reply.Refused refusal.ReadFault)
goes-unread old new k s is safe going stays rose pass =
    goes-read old new k s is safe stays going rose
    (λ t H p o why e. absurd (let n = pass t H p o p.world in cc (n, e)))

-- A step whose first rows are those of its directory

-- the directory is not opened
abbrev pub Unopened : DiskState → Books → ℕ → ℕ → Step → Type 1
Unopened old k d g s = (mid : DiskState) (last : LastRead) (res : Result Record Refusal) (why : Refusal)
    → OpensDirectory old mid k d g last res → res ≡ Err why → Goes old k mid k s no_claims (reply.Refused why)

pub goes-unopened : (old : DiskState) (k : Books) (d g : ℕ) (s : Step) (rest : World → List (Option Refusal))
    → IsDisk old → IsSafe old k → k.stopped ≡ false
    → ((W : World) → first_of (rows W W s) ≡ first_of (directory_rows d g W ++ rest W))
    → ((W : World) → IsLate (first_of (rows W W s))) → Unopened old k d g s
goes-unopened old k d g s rest is safe going rows-are late mid last res why opens e =
    goes-fails old mid k s (directory_rows d g) why is safe going opens.stays
    (subst (λ (r : Result Record Refusal). IfErr r (Fails old mid (KnownTrue k) (directory_rows d g)))
    e opens.refused)
    (λ t H p o q. rows-are p.world ∙ first-left (directory_rows d g p.world) (rest p.world) why q) late

module _ (old mid : DiskState) (k : Books) (d g : ℕ) (last : LastRead) (r : Record) (safe : IsSafe old k)
    (opens : OpensDirectory old mid k d g last (Ok r)) where
  -- no row of an open directory comes
  pub directory-passes : IsTrue old.tells → (H : List Entry1) (p : Past) → IsOpen old k H p
      → first_of (directory_rows d g p.world) ≡ None
  directory-passes t H p o = opens.passes t (are-agreed old k H p safe o) p.world (open-files old k H p o)

  -- what is looked for in it refuses
  pub goes-within : {A : Type 0} (new : DiskState) (s : Step) (part rest : World → List (Option Refusal))
      (res : Result A Refusal) (why : Refusal) → IsDisk old → k.stopped ≡ false
      → ((W : World) → first_of (rows W W s) ≡ first_of (directory_rows d g W ++ (part W ++ rest W)))
      → ((W : World) → IsLate (first_of (rows W W s)))
      → StaysButFaults mid new → res ≡ Err why → IfErr res (Fails mid new (IsThere d) part)
      → Goes old k new k s no_claims (reply.Refused why)
  goes-within {A} new s part rest res why is going rows-are late stays e refused =
      goes-fails old new k s part why is safe going (StaysButFaults-trans old mid new opens.stays stays)
      (opened-fails old mid new k d part res why opens.stays opens.no_fault opens.there e refused)
      (λ t H p o q. rows-are p.world
      ∙ first-right (directory_rows d g p.world) (part p.world ++ rest p.world) (directory-passes t H p o)
      ∙ first-left (part p.world) (rest p.world) why q) late

-- An element that a step may see: what each way to its verdict leaves of the mount.
use Rattle.std.proofs.Common.{◌≡◌, ℕ, ◌<◌, ◌≤◌, Bool, true, false, eqb, ltb, leb, ◌||◌, List, Option, Some, None}
use Rattle.std.proofs.Common.{IsTrue, Result, Ok, Err, refl, sym, ap, ◌∙◌, subst, arith}
use Rattle.std.proofs.lemmas.Bool.Decides.{nat_tests}
use Rattle.nofs_disk.specs.Disk.{DiskState, IsDisk, StaysButFaults}
use Rattle.nofs_disk.specs.Chains.{StaysButFaults-refl}
use Rattle.nofs_disk.specs.declared.Failed.{Failed}
use Rattle.nofs_model.specs.Geometry.{Image}
use Rattle.nofs_model.specs.Owners.{is_used_inode, is_used_block}
use Rattle.nofs_history.specs.Search.{first_of}
use Rattle.nofs_history.specs.Claims.{no_claims}
use Rattle.nofs_history.specs.Refusals.{rows}
use Rattle.nofs_history.specs.declared.machine.history.Entry1.{Entry1}
use Rattle.nofs_history.specs.declared.machine.steps.Step.{Step}
use Rattle.nofs_history.specs.declared.machine.steps.Step.TheVariants as step
use Rattle.nofs_history.specs.declared.machine.replies.Reply.TheVariants as reply
use Rattle.nofs_history.specs.declared.machine.replies.Refusal.TheVariants as refusal
use Rattle.nofs_state.specs.Books.Maps.{IsSafe}
use Rattle.nofs_state.specs.Cores.Invariant.{IsOpen, Past}
use Rattle.nofs_state.specs.Cores.Steps.{Follows, Goes, LeavesDisk, entry}
use Rattle.nofs_state.specs.Books.Verdicts.{InData, Judges, Verifies, Stood, Learned, Unread, learned_block}
use Rattle.nofs_state.specs.Books.Verdicts.{learned_inode, verdict_of_block, verdict_of_inode}
use Rattle.nofs_state.specs.declared.books.maps.Books.{Books}
use Rattle.nofs_scan.specs.Steps.Sees.{Examines, is_beyond}
use Rattle.nofs_state.proofs.OnWrites.NoWrites.{sounds-keep}
use Rattle.nofs_state.proofs.OnCores.Replies.{goes-early, goes-read, goes-stopped, safe-on}
use Rattle.nofs_state.proofs.OnCores.SafeSteps.{accepted-given}
use Rattle.nofs_state.proofs.OnBooks.Machine.{are-agreed}
use Rattle.nofs_state.proofs.OnCores.Sees.{block-learned, block-row, block-stands, block-stood, machine-block}
use Rattle.nofs_state.proofs.OnCores.Sees.{machine-inode, safe-block, seen-causes}
use Rattle.nofs_state.proofs.OnCores.SeenInodes.{inode-learned, inode-row, inode-stands, inode-stood, safe-inode}

in-table : (n i : ℕ) → (eqb i 0 || ltb n i) ≡ false → (1 ≤ i) × (i ≤ n)
in-table n i e = (low n i e, high n i e)
  where
    low : (n i : ℕ) → (eqb i 0 || ltb n i) ≡ false → 1 ≤ i
    low n i e = grind (arith, nat_tests)

    high : (n i : ℕ) → (eqb i 0 || ltb n i) ≡ false → i ≤ n
    high n i e = grind (arith, nat_tests)

-- a stopped mount looks at nothing
pub examined-stopped : (d : DiskState) (k : Books) (s : Step) → IsDisk d → IsSafe d k → k.stopped ≡ true
    → Examines d k d k s (Err refusal.Stopped)
examined-stopped d k s is safe stopped = record {
  goes = goes-stopped d d k s is safe (StaysButFaults-refl d) refl stopped;
  memory = refl;
  range = (λ e. absurd (cc e), λ beyond. absurd (let going = beyond.0 in cc (going, stopped)));
  no_fault = λ e. refl;
}

-- there is no such element: nothing is read
examined-beyond : (d : DiskState) (k : Books) (s : Step) → Goes d k d k s no_claims (reply.Refused refusal.BadRange)
    → k.stopped ≡ false → is_beyond s k.at ≡ true
    → Examines d k d k s (Err refusal.BadRange)
examined-beyond d k s goes going beyond =
    record { goes = goes; memory = refl; range = (λ e. (going, beyond), λ b. refl); no_fault = λ e. refl }

module _ (old new : DiskState) (k l : Books) (s : Step) (within : is_beyond s k.at ≡ false) where
  -- there is one, and its verdict was found
  examined-read : (used : Bool) → Goes old k new l s no_claims (reply.Seen used) → new.faults ≡ old.faults
      → Examines old k new l s (Ok used)
  examined-read used goes quiet = record {
    goes = goes;
    memory = refl;
    range = (λ e. absurd (cc e), λ beyond. absurd (let outside = beyond.1 in cc (outside, within)));
    no_fault = λ e. quiet;
  }

  -- .. or could not be read
  examined-unread : Goes old k new l s no_claims (reply.Refused refusal.ReadFault)
      → Examines old k new l s (Err refusal.ReadFault)
  examined-unread goes = record {
    goes = goes;
    memory = refl;
    range = (λ e. absurd (cc e), λ beyond. absurd (let outside = beyond.1 in cc (outside, within)));
    no_fault = λ e. absurd (cc e);
  }

pub not-above : (m n : ℕ) → m ≤ n → leb m n ≡ true
not-above m n h = grind (arith, nat_tests)

pub above : (m n : ℕ) → n < m → leb m n ≡ false
above m n h = grind (arith, nat_tests)

-- an element of these books: its verdict, what the books learn of it, and the scan's verdict
pub record IsElement (old : DiskState) (k : Books) (s : Step) (stood : Option Bool) (learned : Bool → Books)
    (answer : Image → Bool) (Fits : Bool → Type 0)
    : Type 1 where
  pub at : (used : Bool) → (learned used).at ≡ k.at
  pub history : (used : Bool) → (learned used).history ≡ k.history
  pub stopped : (used : Bool) → (learned used).stopped ≡ k.stopped
  pub no_row : (H : List Entry1) (p : Past) → IsOpen old k H p → first_of (rows p.world p.world s) ≡ None
  pub safe : (new : DiskState) (used : Bool) → StaysButFaults old new → Fits used → IsSafe new (learned used)
  pub stands : (used : Bool) → stood ≡ Some used → (H : List Entry1) (p : Past) → IsOpen old k H p
      → used ≡ answer old.now
  pub by_stood : (new : DiskState) (used : Bool) → StaysButFaults old new → stood ≡ Some used → IsTrue old.tells
      → (caller : ℕ) (H : List Entry1) (p : Past)
      → IsOpen old k H p → Follows old new k H p (entry caller old new s no_claims (reply.Seen used))
  pub by_learned : (new : DiskState) (used : Bool) → StaysButFaults old new → IsTrue old.tells
      → (caller : ℕ) (H : List Entry1) (p : Past) → IsOpen old k H p
      → used ≡ answer old.now
      → Follows old new (learned used) H p (entry caller old new s no_claims (reply.Seen used))

module _ (old : DiskState) (k : Books) (is : IsDisk old) (safe : IsSafe old k) (going : k.stopped ≡ false) where
  pub block-element : (b : ℕ) → b < k.at.blocks
      → IsElement old k (step.SeeBlock b) (verdict_of_block k b) (learned_block k b)
      (λ X. is_used_block X b) (InData k b)
  block-element b low = record {
    at = λ used. refl;
    history = λ used. refl;
    stopped = λ used. refl;
    no_row = λ H p o. block-row p.world p.world b k.at.blocks o.says.blocks low;
    safe = λ new used stays fits. safe-block new k b used (safe-on old new k stays safe) fits;
    stands = λ used stood H p o. block-stands old old k b used is safe (StaysButFaults-refl old) going low H p o stood
        ∙ machine-block old k H p o b low;
    by_stood = λ new used stays stood tells caller H p o.
        block-stood old new k b used is safe stays going low caller H p tells o stood;
    by_learned = λ new used stays tells caller H p o right.
        block-learned old new k b used is safe stays going low caller H p tells o
        (right ∙ sym (machine-block old k H p o b low));
  }

  pub inode-element : (Fits : Bool → Type 0) (i : ℕ) → 1 ≤ i → i ≤ k.at.inodes
      → IsElement old k (step.SeeInode i) (verdict_of_inode k i) (learned_inode k i) (λ X. is_used_inode X i) Fits
  inode-element Fits i low high = record {
    at = λ used. refl;
    history = λ used. refl;
    stopped = λ used. refl;
    no_row = λ H p o. inode-row p.world p.world i k.at.inodes o.says.inodes low high;
    safe = λ new used stays fits. safe-inode new k i used (safe-on old new k stays safe);
    stands = λ used stood H p o. inode-stands old old k i used is safe
        (StaysButFaults-refl old) going low high H p o stood ∙ machine-inode old k H p o i;
    by_stood = λ new used stays stood tells caller H p o.
        inode-stood old new k i used is safe stays going low high caller H p tells o stood;
    by_learned = λ new used stays tells caller H p o right.
        inode-learned old new k i used is safe stays going low high caller H p tells o
        (right ∙ sym (machine-inode old k H p o i));
  }

  -- no such element
  pub block-beyond : (b : ℕ) → k.at.blocks ≤ b → Examines old k old k (step.SeeBlock b) (Err refusal.BadRange)
  block-beyond b high = examined-beyond old k (step.SeeBlock b)
      (goes-early old old k (step.SeeBlock b) is safe (StaysButFaults-refl old) refl refusal.BadRange refl tt going
      (rw (not-above k.at.blocks b high) refl)
      (λ tells H p o. rw (not-above p.world.blocks b (let e = o.says.blocks in omega (arith, e, high))) refl))
      going (not-above k.at.blocks b high)

  pub inode-beyond : (i : ℕ) → (eqb i 0 || ltb k.at.inodes i) ≡ true
      → Examines old k old k (step.SeeInode i) (Err refusal.BadRange)
  inode-beyond i outside = examined-beyond old k (step.SeeInode i)
      (goes-early old old k (step.SeeInode i) is safe (StaysButFaults-refl old) refl refusal.BadRange refl tt going
      (rw outside refl)
      (λ tells H p o. rw (subst (λ (n : ℕ). (eqb i 0 || ltb n i) ≡ true) (sym o.says.inodes) outside) refl))
      going outside

-- what an element that is seen leaves
goes-seen : (old new : DiskState) (k l : Books) (s : Step) (used : Bool) → StaysButFaults old new
    → new.faults ≡ old.faults → k.stopped ≡ false → l.stopped ≡ false → IsSafe new l
    → l.at ≡ k.at → l.history ≡ k.history
    → (IsTrue old.tells → (caller : ℕ) (H : List Entry1) (p : Past) → IsOpen old k H p
    → Follows old new l H p (entry caller old new s no_claims (reply.Seen used)))
    → Goes old k new l s no_claims (reply.Seen used)
goes-seen old new k l s used stays quiet going still safe at history follows = record {
  disk = stays.disk;
  past = stays.past;
  later = (let m = stays.cells.moment in omega (arith, m));
  cause = seen-causes old new k l used stays.cells quiet going still;
  order = LeavesDisk refl stays.cells stays.dirty;
  early = accepted-given k.at s (reply.Seen used) refl;
  safe = safe;
  at = at;
  history = history;
  sound = λ tells H p o from q. sounds-keep from old new stays.disk stays.past stays.cells q;
  from_open = follows;
  from_stopped = λ tells caller H p o. absurd (let t = o.stopped in cc (t, going));
}

module _ (old : DiskState) (k : Books) (s : Step) (stood : Option Bool) (learned : Bool → Books) (answer : Image → Bool)
    (Fits : Bool → Type 0)
    (is : IsDisk old) (safe : IsSafe old k) (going : k.stopped ≡ false)
    (element : IsElement old k s stood learned answer Fits) where
  pub element-seen : (new : DiskState) (l : Books) (result : Result Bool Failed) (used : Bool)
      → Verifies old k new l stood learned answer Fits result
      → result ≡ Ok used → Goes old k new l s no_claims (reply.Seen used)
  element-seen new l result used (Stood u is-stood stays quiet same e) is-ok =
      let su : u ≡ used = let z = sym e ∙ is-ok in cc z in
      subst (λ (m : Books). Goes old k new m s no_claims (reply.Seen used)) (sym same)
      (goes-seen old new k k s used stays quiet going going (safe-on old new k stays safe) refl refl
      (element.by_stood new used stays (is-stood ∙ ap Some su)))
  element-seen new l result used (Learned u none judged fits same e) is-ok =
      let su : u ≡ used = let z = sym e ∙ is-ok in cc z in
      let j : Judges old new k.agreement answer (Ok used) =
      subst (λ (q : Bool). Judges old new k.agreement answer (Ok q)) su judged in
      subst (λ (m : Books). Goes old k new m s no_claims (reply.Seen used)) (sym (same ∙ ap learned su))
      (goes-seen old new k (learned used) s used j.stays j.no_fault going (element.stopped used ∙ going)
      (element.safe new used j.stays (subst Fits su fits))
      (element.at used) (element.history used)
      (λ tells caller H p o. element.by_learned new used j.stays tells caller H p o
      (j.found tells (are-agreed old k H p safe o))))
  element-seen new l result used (Unread x judged same e) is-ok = absurd (let z = sym e ∙ is-ok in cc z)

  -- no read failed where it was found
  element-quiet : (new : DiskState) (l : Books) (result : Result Bool Failed) (used : Bool)
      → Verifies old k new l stood learned answer Fits result
      → result ≡ Ok used → new.faults ≡ old.faults
  element-quiet new l result used (Stood u is-stood stays quiet same e) is-ok = quiet
  element-quiet new l result used (Learned u none judged fits same e) is-ok = judged.no_fault
  element-quiet new l result used (Unread x judged same e) is-ok = absurd (let z = sym e ∙ is-ok in cc z)

  pub element-unread : (new : DiskState) (l : Books) (result : Result Bool Failed) (x : Failed)
      → Verifies old k new l stood learned answer Fits result
      → result ≡ Err x → Goes old k new l s no_claims (reply.Refused refusal.ReadFault)
  element-unread new l result x (Stood u is-stood stays quiet same e) is-err = absurd (let z = sym e ∙ is-err in cc z)
  element-unread new l result x (Learned u none judged fits same e) is-err = absurd (let z = sym e ∙ is-err in cc z)
  element-unread new l result x (Unread y judged same e) is-err =
      subst (λ (m : Books). Goes old k new m s no_claims (reply.Refused refusal.ReadFault)) (sym same)
      (goes-read old new k s is safe judged.stays going judged.cause
      (λ tells H p o why row. absurd (let none = element.no_row H p o in cc (none, row))))

-- what a verified element leaves, as it was read or not
pub record IsSeenStep (old : DiskState) (k : Books) (new : DiskState) (l : Books) (s : Step)
    (result : Result Bool Failed) : Type 0 where
  pub read : (used : Bool) → result ≡ Ok used → Examines old k new l s (Ok used)
  pub unread : (x : Failed) → result ≡ Err x → Examines old k new l s (Err refusal.ReadFault)

module _ (old : DiskState) (k : Books) (is : IsDisk old) (safe : IsSafe old k) (going : k.stopped ≡ false)
    (new : DiskState) (l : Books)
    (result : Result Bool Failed) where
  verified : (s : Step) (stood : Option Bool) (learned : Bool → Books) (answer : Image → Bool) (Fits : Bool → Type 0)
      → IsElement old k s stood learned answer Fits → is_beyond s k.at ≡ false
      → Verifies old k new l stood learned answer Fits result
      → IsSeenStep old k new l s result
  verified s stood learned answer Fits element within v = record {
    read = λ used e. examined-read old new k l s within used
        (element-seen old k s stood learned answer Fits is safe going element new l result used v e)
        (element-quiet old k s stood learned answer Fits is safe going element new l result used v e);
    unread = λ x e. examined-unread old new k l s within
        (element-unread old k s stood learned answer Fits is safe going element new l result x v e);
  }

  pub block-verified : (b : ℕ) → b < k.at.blocks
      → Verifies old k new l (verdict_of_block k b) (learned_block k b) (λ X. is_used_block X b) (InData k b) result
      → IsSeenStep old k new l (step.SeeBlock b) result
  block-verified b low =
      verified (step.SeeBlock b) (verdict_of_block k b) (learned_block k b) (λ X. is_used_block X b) (InData k b)
      (block-element old k is safe going b low) (above k.at.blocks b low)

  pub inode-verified : (i : ℕ) → (eqb i 0 || ltb k.at.inodes i) ≡ false
      → Verifies old k new l (verdict_of_inode k i) (learned_inode k i) (λ X. is_used_inode X i)
      (λ used. Unit {0}) result
      → IsSeenStep old k new l (step.SeeInode i) result
  inode-verified i e = let range = in-table k.at.inodes i e in
      verified (step.SeeInode i) (verdict_of_inode k i) (learned_inode k i) (λ X. is_used_inode X i) (λ used. Unit {0})
      (inode-element old k is safe going (λ used. Unit {0}) i range.0 range.1) e

-- A mount stands after a verdict of an earlier state is committed.
use Rattle.std.proofs.Common.{◌≡◌, ℕ, ◌^◌, ◌<◌, ◌≤◌, arith, Bool, true, false, List, [], ◌∷◌, ◌++◌}
use Rattle.std.proofs.Common.{set, IsTrue, ◌⊎◌, inl}
use Rattle.std.proofs.Common.{inr, refl, sym, ap, ◌∙◌, subst, le_refl}
use Rattle.nofs_disk.specs.Disk.{DiskState}
use Rattle.nofs_disk.specs.Chains.{IsSameDisk-refl, KeepsCells-refl, KeepsPast-refl}
use Rattle.nofs_super.specs.Format.{super_cell}
use Rattle.nofs_super.specs.declared.superblock.SuperBlock.{SuperBlock}
use Rattle.nofs_history.specs.Claims.{no_claims}
use Rattle.nofs_history.specs.HistoryState.{HistoryState}
use Rattle.nofs_history.specs.declared.machine.history.Entry1.{Entry1}
use Rattle.nofs_history.specs.declared.machine.steps.ElementKind.{ElementKind}
use Rattle.nofs_history.specs.declared.machine.steps.ElementKind.TheVariants as element
use Rattle.nofs_history.specs.declared.machine.steps.Step.{Step}
use Rattle.nofs_history.specs.declared.machine.replies.Reply.{Reply}
use Rattle.nofs_history.specs.declared.machine.replies.Reply.TheVariants as reply
use Rattle.nofs_history.specs.declared.machine.replies.Refusal.TheVariants as refusal
use Rattle.nofs_history.specs.Steps.{Fits, is_out_of_memory}
use Rattle.nofs_state.specs.Books.Maps.{with_history}
use Rattle.nofs_state.specs.Cores.Invariant.{IsOpen, IsStopped, Past}
use Rattle.nofs_state.specs.Cores.Steps.{IsSafeStep, LeavesDisk, entry}
use Rattle.nofs_state.specs.declared.books.maps.Books.{Books}
use Rattle.nofs_state.specs.Books.Verdicts.{LearnsIt, OffersVerdict, StaysSo}
use Rattle.nofs_scan.specs.Steps.Elements.{HasElement, is_used, learned, see_step, verdict_of}
use Rattle.nofs_scan.specs.Steps.Commits.{Commits, WasOpen}
use Rattle.nofs_shared.specs.Mount.Flushes.{names_whole}
use Rattle.nofs_shared.specs.Mount.Commits.{IsCommit, SeesVerdict}
use Rattle.nofs_shared.specs.Mount.Earlier.{IsOfBooks}
use Rattle.nofs_shared.specs.Mount.Entries.{AddsStep}
use Rattle.nofs_shared.specs.Acts.Sees.{is_see}
use Rattle.nofs_shared.specs.Mount.Invariant.{IsMount, IsSoundDisk, MountStands}
use Rattle.nofs_shared.proofs.OnMount.Histories.{entry_at}
use Rattle.nofs_shared.proofs.OnMount.Steps.{Leads, mount-more}

module _ (found early d : DiskState) (first : ℕ) (before k l : Books) (then : IsMount found early first before)
    (m : IsMount found d first k) (came : IsOfBooks before k) (going : k.stopped ≡ false) where
  -- the base of both is the disk that was found, with the mount number raised
  base-then : (p q : Past) → q.base ≡ early.was before.history.start → p.base ≡ d.was k.history.start → p.base ≡ q.base
  base-then p q eq ep =
      ep ∙ m.mounted.base ∙ ap (λ (at : SuperBlock). set found.now 0 (super_cell at)) (sym came.numbers)
      ∙ sym then.mounted.base ∙ sym eq

  pub was-open : IsSoundDisk found → (p : Past) → p.base ≡ d.was k.history.start
      → p.first ≡ first → WasOpen early before k k.history.entries p
  was-open q p base serial = go st.past st.base st.serial st.now
    where
      st : MountStands found early first before
      st = then.stands q

      go : (o : Past) → o.base ≡ early.was before.history.start → o.first ≡ first
          → IsOpen early before before.history.entries o ⊎ IsStopped early before before.history.entries o
          → WasOpen early before k k.history.entries p
      go o eb ef (inr s) = absurd (let e = s.stopped in let g = came.going in cc (e, g))
      go o eb ef (inl s) = record {
        tells = subst (λ (b : Bool). IsTrue b) (sym then.disk.tells) q.tells;
        before = before.history.entries;
        after = came.begins.0;
        whole = sym came.begins.1;
        start = came.begun;
        past = o;
        mount = record { base = base-then p o eb base; first = serial ∙ sym ef };
        stood = s;
      }

  module _ (kind : ElementKind) (item : ℕ) (used result : Bool) (cm : Commits early before d k l kind item used result)
      (caller : ℕ) where
    abbrev e : Entry1
    e = entry caller d d (see_step kind item) no_claims (reply.Seen result)

    safely : IsSafeStep d k d l (reply.Seen result)
    safely = record {
      disk = IsSameDisk-refl d;
      past = KeepsPast-refl d;
      later = le_refl d.moment;
      cause = cm.cause;
      safe = cm.safe;
      at = cm.at;
      history =
          cm.history;
    }

    pub mount-commits : (h : HistoryState) → h.start ≡ l.history.start → h.entries ≡ l.history.entries ++ e ∷ []
        → IsMount found d first (record l { history = h })
    mount-commits = mount-more found d d first k l m (see_step kind item) no_claims (reply.Seen result) caller safely
        (LeavesDisk refl (KeepsCells-refl d) refl) refl
        (λ q st. (go q st.past st.base st.serial st.now, st.sound))
      where
        go : IsSoundDisk found → (p : Past) → p.base ≡ d.was k.history.start → p.first ≡ first
            → IsOpen d k k.history.entries p ⊎ IsStopped d k k.history.entries p → Leads d l e k.history.entries p
        go q p eb ef (inr s) = absurd (let t = s.stopped in cc (t, going))
        go q p eb ef (inl o) =
            let t = (cm.from_open (subst (λ (b : Bool). IsTrue b) (sym m.disk.tells) q.tells) caller k.history.entries p
            o (was-open q p eb ef)).done refl
            refl in
            (t.0, t.1, inl t.2)

    abbrev more_history : ℕ → ℕ → ℕ → Step → HistoryState
    more_history from to spare s = record {
      start = l.history.start;
      entries = l.history.entries ++ entry_at caller from to s no_claims (reply.Seen result) ∷ [];
      spare = spare;
    }

    -- with the entry that the code writes
    pub mount-kept : (from to spare : ℕ) (s : Step) → s ≡ see_step kind item → from ≡ d.moment → to ≡ d.moment
        → IsMount found d first (with_history l (more_history from to spare s))
    mount-kept from to spare s same begin end = mount-commits (more_history from to spare s) refl
        (λ j. l.history.entries ++ entry_at caller (begin j) (end j) (same j) no_claims (reply.Seen result) ∷ [])

    -- the answer is the verdict that stands, and right
    pub mount-answers : (h : HistoryState) → IsCommit found d k (with_history l h) kind item used (reply.Seen result)
    mount-answers h = record {
      stopped = λ stopped memory. absurd (cc (stopped, going));
      seen = λ running memory. record { verdict = result; is = refl; settled = l; settles = cm.settles; books = refl };
      right = λ q v e. let st = m.stands q in let same : result ≡ v = cc e in
          sym same ∙ right q st.past st.base st.serial st.now;
    }
      where
        right : IsSoundDisk found → (p : Past) → p.base ≡ d.was k.history.start → p.first ≡ first
            → IsOpen d k k.history.entries p ⊎ IsStopped d k k.history.entries p → result ≡ is_used kind d.now item
        right q p eb ef (inr s) = absurd (let t = s.stopped in cc (t, going))
        right q p eb ef (inl o) = cm.right (subst (λ (b : Bool). IsTrue b) (sym m.disk.tells) q.tells) k.history.entries
            p o (was-open q p eb ef)

-- a mount that is stopped commits nothing
pub commit-stopped : (found d : DiskState) (k l : Books) (kind : ElementKind) (item : ℕ) (used : Bool) (r : Reply)
    → k.stopped ≡ true
    → r ≡ reply.Refused refusal.Stopped → IsCommit found d k l kind item used r
commit-stopped found d k l kind item used r is answer = record {
  stopped = λ stopped memory. answer;
  seen = λ running memory. absurd (cc (is, running));
  right = λ q v e. absurd (let z = sym answer ∙ e in cc z);
}

-- nor does one that finds no memory
pub commit-unmade : (found d : DiskState) (k l : Books) (kind : ElementKind) (item : ℕ) (used : Bool)
    → IsCommit found d k l kind item used (reply.Refused refusal.OutOfMemory)
commit-unmade found d k l kind item used = record {
  stopped = λ stopped memory. absurd (cc memory);
  seen = λ running memory. absurd (cc memory);
  right = λ q v e. absurd (cc e);
}

learned-beside : (k : Books) (h g : HistoryState) (kind : ElementKind) (item : ℕ) (used : Bool)
    → with_history (learned kind (with_history k h) item used) g ≡ with_history (learned kind k item used) g
learned-beside k h g element.Inode item used = refl
learned-beside k h g element.Block item used = refl

stood-beside : (k : Books) (h : HistoryState) (kind : ElementKind) (item : ℕ)
    → verdict_of kind (with_history k h) item ≡ verdict_of kind k item
stood-beside k h element.Inode item = refl
stood-beside k h element.Block item = refl

sees-beside : (k l : Books) (h : HistoryState) (kind : ElementKind) (item : ℕ) (used : Bool) (r : Reply)
    → SeesVerdict (with_history k h) l kind item used r
    → SeesVerdict k l kind item used r
sees-beside k l h kind item used r s = go s.settles
  where
    go : OffersVerdict (with_history k h) s.settled (verdict_of kind (with_history k h) item)
        (learned kind (with_history k h) item) used s.verdict
        → SeesVerdict k l kind item used r
    go (StaysSo stood e) = record {
      verdict = s.verdict;
      is = s.is;
      settled = k;
      settles = StaysSo (sym (stood-beside k h kind item) ∙ stood) refl;
      books = s.books ∙ ap (λ (m : Books). with_history m l.history) e;
    }
    go (LearnsIt none e is) = record {
      verdict = s.verdict;
      is = s.is;
      settled = learned kind k item used;
      settles = LearnsIt (sym (stood-beside k h kind item) ∙ none) refl is;
      books = s.books ∙ ap (λ (m : Books). with_history m l.history) e ∙ learned-beside k h l.history kind item used;
    }

-- room that was taken for the entry changes nothing of it
pub commit-beside : (found d : DiskState) (k l : Books) (h : HistoryState) (kind : ElementKind) (item : ℕ)
    (used : Bool) (r : Reply)
    → IsCommit found d (with_history k h) l kind item used r → IsCommit found d k l kind item used r
commit-beside found d k l h kind item used r c = record {
  stopped = c.stopped;
  seen =
      λ running memory. sees-beside k l h kind item used r (c.seen running memory);
  right = c.right;
}

-- the entry of a step of a mount that is stopped
pub adds-stopped : (caller : ℕ) (s : Step) (r : Reply) (e : Entry1) (H K : List Entry1)
    → r ≡ reply.Refused refusal.Stopped → K ≡ H ++ e ∷ [] → e.caller ≡ caller → e.step ≡ s
    → e.reply ≡ reply.Refused refusal.Stopped → AddsStep caller s r H K
adds-stopped caller s r e H K is whole by step answer = record {
  none = λ m. absurd (let z : false ≡ true = sym (ap is_out_of_memory is) ∙ m in cc z);
  one = λ m. (e, whole, by, step, answer ∙ sym is);
}

pub fits-stopped : (kind : ElementKind) (item : ℕ) (r : Reply) → r ≡ reply.Refused refusal.Stopped
    → Fits (see_step kind item) r
fits-stopped kind item r is = subst (λ (q : Reply). Fits (see_step kind item) q) (sym is) tt

-- what a See step's reply may be
pub fits-seen : (kind : ElementKind) (item : ℕ) (used : Bool) → Fits (see_step kind item) (reply.Seen used)
fits-seen element.Inode item used = tt
fits-seen element.Block item used = tt

pub see-is : (kind : ElementKind) (item : ℕ) → is_see (see_step kind item) ≡ true
see-is element.Inode item = refl
see-is element.Block item = refl

-- and no Flush
pub see-flushes-nothing : (kind : ElementKind) (item : ℕ) → names_whole (see_step kind item) ≡ true → ⊥
see-flushes-nothing element.Inode item e = cc e
see-flushes-nothing element.Block item e = cc e

-- the number of a verdict's element is small
pub item-small : (kind : ElementKind) (at : SuperBlock) (item : ℕ) → HasElement kind at item
    → at.inodes < 2 ^ 32 → at.blocks ≤ 2 ^ 32 → item < 2 ^ 32
item-small element.Inode at item r i b = let h = r.1 in omega (arith, h, i)
item-small element.Block at item r i b = let h = r.1 in omega (arith, h, b)

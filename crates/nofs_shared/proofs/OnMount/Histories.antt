-- The form of a history with one more entry, and what the calls of its entries come to.
use Rattle.std.proofs.Common.{◌≡◌, ℕ, ◌+◌, ◌-◌, ◌*◌, ◌^◌, ◌≤◌, min, Bool, true, false, ◌||◌, cond, List, [], ◌∷◌, ◌++◌}
use Rattle.std.proofs.Common.{length, ◌⊎◌, inl, inr, refl, sym, ap, ◌∙◌, subst, subst₂, arith}
use Rattle.nofs_disk.specs.Disk.{DiskState}
use Rattle.nofs_disk.specs.Chains.{IsSameDisk-refl}
use Rattle.nofs_history.specs.Allowed.{IsAllowed}
use Rattle.nofs_history.specs.History.{NoWriteFault}
use Rattle.nofs_history.specs.Since.{is_flushed, agreed_files, files_along}
use Rattle.nofs_model.specs.Files.{Files}
use Rattle.nofs_history.specs.Machine.{files_by, is_write_fault, is_refused}
use Rattle.nofs_history.specs.Faults.{is_fault}
use Rattle.nofs_history.specs.Next.{takes_time}
use Rattle.nofs_history.specs.Steps.{is_out_of_memory}
use Rattle.nofs_history.specs.HistoryState.{HistoryState}
use Rattle.nofs_history.specs.World.{world_of}
use Rattle.nofs_history.specs.declared.machine.history.Claims.{Claims}
use Rattle.nofs_history.specs.declared.machine.history.Entry1.{Entry1}
use Rattle.nofs_history.specs.declared.machine.steps.Step.{Step}
use Rattle.nofs_history.specs.declared.machine.steps.Step.TheVariants as step
use Rattle.nofs_history.specs.declared.machine.replies.Reply.{Reply}
use Rattle.nofs_history.specs.declared.machine.replies.Reply.TheVariants as reply
use Rattle.nofs_history.specs.declared.machine.replies.Refusal.TheVariants as refusal
use Rattle.nofs_state.specs.Books.Maps.{IsSafe, with_history}
use Rattle.nofs_state.specs.Cores.Invariant.{IsOpen, IsStopped, Past}
use Rattle.nofs_state.specs.Cores.Steps.{FlushesAlone, LeavesDisk, MeetsOpen}
use Rattle.nofs_state.specs.Cores.Steps.{NoOrder, WritesAlone, entry}
use Rattle.nofs_history.specs.Writes.{WritesSoMany, cells_along, cells_written, entry_cells, is_flush, makes_calls}
use Rattle.nofs_state.specs.declared.books.maps.Books.{Books}
use Rattle.nofs_state.proofs.OnBooks.Safe.{safe-over}
use Rattle.nofs_state.proofs.OnCores.Rows.{open-with, stopped-with}
use Rattle.nofs_turn.proofs.OnLists.Words.{prefix_length}
use Rattle.nofs_shared.specs.Mount.Images.{ImagesAlong, OnlyFlushesFailed}
use Rattle.nofs_shared.specs.Mount.Forms.{Cells, ExactCalls, Forms, IsNextEntry, NoCell, OnlyCalls, Wrote, flushes_in}
use Rattle.nofs_shared.specs.Mount.Forms.{flushes_of, faults_in}
use Rattle.nofs_shared.specs.Mount.Invariant.{IsMount, IsMounted}

-- an entry with these moments
abbrev pub entry_at : ℕ → ℕ → ℕ → Step → Claims → Reply → Entry1
entry_at caller from to s c r =
    record { caller = caller; from = from; to = to; step = s; reply = r; claims = c }

-- The same books with another history
pub safe-history : (k : Books) (h : HistoryState) (d : DiskState) → IsSafe d k → IsSafe d (with_history k h)
safe-history k h d = safe-over d d k k.stopped h (IsSameDisk-refl d) refl

-- the same mount with other room in its history
pub mount-history : (found d : DiskState) (first : ℕ) (k : Books) (h : HistoryState)
    → h.start ≡ k.history.start → h.entries ≡ k.history.entries
    → IsMount found d first k → IsMount found d first (record k { history = h })
mount-history found d first k h start entries m = record {
  safe = safe-history k h d m.safe;
  disk = m.disk;
  mounted = subst (λ (n : ℕ). IsMounted found d n k.at) (sym start) m.mounted;
  forms = subst₂ (λ (n : ℕ) (H : List Entry1). Forms n false H d.moment k.stopped) (sym start) (sym entries) m.forms;
  counted = subst (λ (H : List Entry1). min (found.faults + faults_in H) (2 ^ 64 - 1) ≤ d.faults)
      (sym entries) m.counted;
  stands = λ q. let s = m.stands q in record {
    past = s.past;
    base = subst (λ (n : ℕ). s.past.base ≡ d.was n) (sym start) s.base;
    serial = s.serial;
    raised = s.raised;
    now = subst (λ (H : List Entry1). IsOpen d (record k { history = h }) H s.past
        ⊎ IsStopped d (record k { history = h }) H s.past) (sym entries)
        (go s.past s.now);
    sound = s.sound;
    along = subst (λ (H : List Entry1). ImagesAlong [] (world_of s.past.base s.past.first) s.past.base H s.past.world
        d.now) (sym entries) s.along;
    machine = λ only. s.machine (subst (λ (H : List Entry1). OnlyFlushesFailed H) entries only);
    calls = subst₂ (λ (n : ℕ) (H : List Entry1). ExactCalls (agreed_files s.past.base) n d.moment H)
        (sym start) (sym entries) s.calls;
    rests = λ X p. subst (λ (H : List Entry1). IsAllowed s.past.base H d.moment X) (sym entries) (s.rests X p);
  };
}
  where
    go : (p : Past) → IsOpen d k k.history.entries p ⊎ IsStopped d k k.history.entries p
        → IsOpen d (record k { history = h }) k.history.entries p
        ⊎ IsStopped d (record k { history = h }) k.history.entries p
    go p (inl o) = inl (open-with d k h start k.history.entries p o)
    go p (inr o) = inr (stopped-with d k h start k.history.entries p o)

-- The form of a history

pub forms-later : (H : List Entry1) (m : ℕ) (b : Bool) (n : ℕ) (c : Bool) → Forms m b H n c → m ≤ n
forms-later [] m b n c f = let e = f.0 in omega (arith, e)
forms-later (e ∷ H) m b n c f =
    let rest = forms-later H e.to (b || is_write_fault e.reply) n c f.1 in
    let from = f.0.from in
    let later = f.0.later in
    omega (arith, rest, from, later)

pub forms-append : (H : List Entry1) (m : ℕ) (b : Bool) (n : ℕ) (c : Bool) (e : Entry1) (end : ℕ) (last : Bool)
    → Forms m b H n c → IsNextEntry n c e
    → end ≡ e.to → last ≡ (c || is_write_fault e.reply) → Forms m b (H ++ e ∷ []) end last
forms-append [] m b n c e end last f next is_end is_last = (
  subst₂ (λ (k : ℕ) (t : Bool). IsNextEntry k t e) f.0 f.1 next,
  (is_end, is_last ∙ ap (λ (t : Bool). t || is_write_fault e.reply) f.1),
)
forms-append (x ∷ H) m b n c e end last f next is_end is_last =
    (f.0, forms-append H x.to (b || is_write_fault x.reply) n c e end last f.1 next is_end is_last)

pub faults-more : (H : List Entry1) (e : Entry1) → faults_in (H ++ e ∷ []) ≡ faults_in H + cond (is_fault e.reply) 1 0
faults-more [] e = omega arith
faults-more (x ∷ H) e = let r = faults-more H e in omega (arith, r)

pub fault-is : (r : Reply) → is_write_fault r ≡ true → r ≡ reply.Refused refusal.WriteFault
fault-is (reply.Refused refusal.WriteFault) e = refl
fault-is _ e = cc

pub takes-when : (r : Reply) → takes_time r ≡ true → (r ≡ reply.Flushed) ⊎ (r ≡ reply.Refused refusal.WriteFault)
takes-when reply.Flushed e = inl refl
takes-when (reply.Refused refusal.WriteFault) e = inr refl
takes-when _ e = cc

pub flushed-is : (r : Reply) → is_flushed r ≡ true → r ≡ reply.Flushed
flushed-is reply.Flushed e = refl
flushed-is _ e = cc

pub memory-refused : (r : Reply) → is_out_of_memory r ≡ true → (is_refused r ≡ true) × (is_write_fault r ≡ false)
memory-refused (reply.Refused refusal.OutOfMemory) e = (refl, refl)
memory-refused _ e = cc

pub faulty : (r : Reply) → is_fault r ≡ true → (r ≡ reply.Refused refusal.ReadFault)
    ⊎ (r ≡ reply.Refused refusal.WriteFault)
faulty (reply.Refused refusal.ReadFault) e = inl refl
faulty (reply.Refused refusal.WriteFault) e = inr refl
faulty _ e = cc

-- what it wrote, and how long it took, by what it did to the device
pub record Calls (e : Entry1) : Type 0 where
  pub cells : ℕ
  pub wrote : Wrote e cells
  pub took : e.to ≡ e.from + 2 * cells + 2 * flushes_of e

quick : (r : Reply) → makes_calls r ≡ false → takes_time r ≡ false
quick reply.Flushed e = cc e
quick (reply.Refused refusal.WriteFault) e = cc e
quick _ e = refl

no-flush : (s : Step) (c : Claims) (n : ℕ) → WritesSoMany s c n → is_flush s ≡ false
no-flush (step.Flush i g) c n none = absurd none
no-flush _ c n count = refl

abbrev one_flush : Bool → Bool → ℕ
one_flush a b = cond a (cond b 1 0) 0

no-flushes : (a b : Bool) → b ≡ false → one_flush a b ≡ 0
no-flushes true b e = rw e refl
no-flushes false b e = refl

pub calls-by : (old new : DiskState) (k : Books) (caller : ℕ) (s : Step) (c : Claims) (r : Reply)
    → NoOrder old new (MeetsOpen old k) s c r
    → Calls (entry caller old new s c r)
calls-by old new k caller s c r (LeavesDisk none cells dirty) = record {
  cells = 0;
  wrote = NoCell (inl none) refl;
  took = (let m = cells.moment in let f : flushes_of (entry caller old new s c r) ≡ 0 = let t = quick r none in
      rw t refl in omega (arith, m, f));
}
calls-by old new k caller s c r (FlushesAlone is late f) = record {
  cells = 0;
  wrote = NoCell (inr is) refl;
  took = (let m = f.moment in let n : flushes_of (entry caller old new s c r) ≡ 1 = rw (late, is) refl in
      omega (arith, m, n));
}
calls-by old new k caller s c r (WritesAlone made w) = record {
  cells = length w.calls;
  wrote = Cells made (length w.row) w.count (prefix_length w.calls w.row w.first) (λ e. ap length (w.whole e));
  took = (
      let m = w.only.moment in
      let f : flushes_of (entry caller old new s c r) ≡ 0 =
      no-flushes (takes_time r) (is_flush s) (no-flush s c (length w.row) w.count) in
      omega (arith, m, f)
      );
}

-- of the whole history
pub only-calls : (H : List Entry1) (m : ℕ) (b : Bool) (n : ℕ) (c : Bool) → Forms m b H n c → OnlyCalls m n H
only-calls [] m b n c f = record { cells = 0; wrote = refl; moment = (let e = f.0 in omega (arith, e)) }
only-calls (e ∷ H) m b n c f =
    let rest = only-calls H e.to (b || is_write_fault e.reply) n c f.1 in
    record {
      cells = f.0.cells + rest.cells;
      wrote = (f.0.cells, rest.cells, f.0.wrote, rest.wrote, refl);
      moment = (let from = f.0.from in let took = f.0.took in let more = rest.moment in
          omega (arith, from, took, more));
    }

-- The calls of an entry, by the machine's files before it

pub record EntryCalls (F : Files) (from to : ℕ) (e : Entry1) : Type 0 where
  pub all : is_write_fault e.reply ≡ false → to ≡ from + 2 * entry_cells F e + 2 * flushes_of e
  pub most : to ≤ from + 2 * entry_cells F e + 2 * flushes_of e

flush-none : (F : Files) (s : Step) (c : Claims) → is_flush s ≡ true → cells_written F s c ≡ 0
flush-none F (step.Flush i g) c e = refl
flush-none F _ c e = cc

either-none : (b : Bool) (n : ℕ) → n ≡ 0 → cond b n 0 ≡ 0
either-none true n e = e
either-none false n e = refl

pub entry-calls : (old new : DiskState) (k : Books) (caller : ℕ) (s : Step) (c : Claims) (r : Reply) (F : Files)
    → NoOrder old new (MeetsOpen old k) s c r → MeetsOpen old k F ⊎ (r ≡ reply.Refused refusal.Stopped)
    → EntryCalls F old.moment new.moment (entry caller old new s c r)
entry-calls old new k caller s c r F (LeavesDisk none cells dirty) met =
    let m = cells.moment in
    let f : flushes_of (entry caller old new s c r) ≡ 0 = let t = quick r none in rw t refl in
    let n : entry_cells F (entry caller old new s c r) ≡ 0 = rw none refl in
    record { all = λ e. omega (arith, m, f, n); most = omega (arith, m, f, n) }
entry-calls old new k caller s c r F (FlushesAlone is late f) met =
    let m = f.moment in
    let o : flushes_of (entry caller old new s c r) ≡ 1 = rw (late, is) refl in
    let n : entry_cells F (entry caller old new s c r) ≡ 0 =
    either-none (makes_calls r) (cells_written F s c) (flush-none F s c is) in
    record { all = λ e. omega (arith, m, o, n); most = omega (arith, m, o, n) }
entry-calls old new k caller s c r F (WritesAlone made w) met =
    let m = w.only.moment in
    let f : flushes_of (entry caller old new s c r) ≡ 0 =
    no-flushes (takes_time r) (is_flush s) (no-flush s c (length w.row) w.count) in
    let n : entry_cells F (entry caller old new s c r) ≡ length w.row = rw made (sym (exact met)) in
    let short = prefix_length w.calls w.row w.first in
    record {
      all = λ e. let whole : length w.calls ≡ length w.row = ap length (w.whole e) in omega (arith, m, f, n, whole);
      most = omega (arith, m, f, n, short);
    }
  where
    exact : MeetsOpen old k F ⊎ (r ≡ reply.Refused refusal.Stopped) → length w.row ≡ cells_written F s c
    exact (inl open_now) = (w.told F open_now).exact
    exact (inr stopped) = absurd (let z = ap makes_calls stopped in cc (z, made))

cells-more : (F : Files) (H : List Entry1) (e : Entry1)
    → cells_along F (H ++ e ∷ []) ≡ cells_along F H + entry_cells (files_along F H) e
cells-more F [] e = omega arith
cells-more F (x ∷ H) e = let r = cells-more (files_by F x) H e in omega (arith, r)

flushes-more : (H : List Entry1) (e : Entry1) → flushes_in (H ++ e ∷ []) ≡ flushes_in H + flushes_of e
flushes-more [] e = omega arith
flushes-more (x ∷ H) e = let r = flushes-more H e in omega (arith, r)

none-before : (H : List Entry1) (e : Entry1) → NoWriteFault (H ++ e ∷ [])
    → NoWriteFault H × (is_write_fault e.reply ≡ false)
none-before [] e none = (tt, none.0)
none-before (x ∷ H) e none = let r = none-before H e none.1 in ((none.0, r.0), r.1)

pub calls-more : (F : Files) (H : List Entry1) (from mid : ℕ) (e : Entry1) (to : ℕ) → ExactCalls F from mid H
    → EntryCalls (files_along F H) mid to e → ExactCalls F from to (H ++ e ∷ [])
calls-more F H from mid e to was more =
    let c = cells-more F H e in let f = flushes-more H e in
    record {
      all = λ none.
          let n = none-before H e none in let a = was.all n.0 in let b = more.all n.1 in omega (arith, c, f, a, b);
      most = (let a = was.most in let b = more.most in omega (arith, c, f, a, b));
    }

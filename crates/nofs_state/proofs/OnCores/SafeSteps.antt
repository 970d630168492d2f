-- The exits of a step over any disk: no world is named.
use Rattle.std.proofs.Common.{◌≡◌, ℕ, ◌<◌, ◌⊎◌, Bool, true, false, ◌&&◌, not, List, Some, IsTrue, refl, sym, ap, ◌∙◌}
use Rattle.std.proofs.Common.{arith}
use Rattle.nofs_disk.specs.Disk.{DiskState, IsSameDisk, KeepsCells, KeepsPast, StaysButFaults, Rose}
use Rattle.nofs_disk.specs.Chains.{IsSameDisk-trans, KeepsPast-trans, KeepsCells-trans}
use Rattle.nofs_super.specs.declared.superblock.SuperBlock.{SuperBlock}
use Rattle.nofs_history.specs.Refusals.{reads_nothing}
use Rattle.nofs_state.specs.Cores.Early.{IsByGiven, refused_early}
use Rattle.nofs_history.specs.Faults.{is_fault}
use Rattle.nofs_history.specs.Machine.{is_refused, is_write_fault}
use Rattle.nofs_history.specs.Since.{is_flushed}
use Rattle.nofs_history.specs.Steps.{InRange, is_out_of_memory}
use Rattle.nofs_history.specs.declared.machine.history.Claims.{Claims}
use Rattle.nofs_history.specs.declared.machine.history.Entry1.{Entry1}
use Rattle.nofs_history.specs.declared.machine.steps.Step.{Step}
use Rattle.nofs_history.specs.declared.machine.replies.Reply.{Reply}
use Rattle.nofs_history.specs.declared.machine.replies.Reply.TheVariants as reply
use Rattle.nofs_history.specs.declared.machine.replies.Refusal.{Refusal}
use Rattle.nofs_history.specs.declared.machine.replies.Refusal.TheVariants as refusal
use Rattle.nofs_state.specs.Books.Maps.{IsSafe}
use Rattle.nofs_state.specs.Cores.Invariant.{IsOpen, IsStopped, Past, Sounds}
use Rattle.nofs_state.specs.Cores.Steps.{Causes, Follows, Goes, IsSafeStep, HasRange, MeetsOpen, NoOrder}
use Rattle.nofs_state.specs.Cores.Steps.{StaysStopped, entry, is_late, is_plain}
use Rattle.nofs_state.specs.declared.books.maps.Books.{Books}
use Rattle.nofs_state.proofs.OnBooks.Safe.{Keeping, reads-keep, safe-keeps}

-- A plain refusal is no want of memory, no write fault, and no fault at all

pub plain-memory : (why : Refusal) → is_plain why ≡ true → is_out_of_memory (reply.Refused why) ≡ false
plain-memory refusal.OutOfMemory e = cc
plain-memory _ e = refl

pub plain-fault : (why : Refusal) → is_plain why ≡ true → is_write_fault (reply.Refused why) ≡ false
plain-fault refusal.WriteFault e = cc
plain-fault _ e = refl

pub plain-no-fault : (why : Refusal) → is_plain why ≡ true → is_fault (reply.Refused why) ≡ false
plain-no-fault refusal.ReadFault e = cc
plain-no-fault refusal.WriteFault e = cc
plain-no-fault _ e = refl

pub late-plain : (why : Refusal) → is_late why ≡ true → is_plain why ≡ true
late-plain why e = go (is_plain why) (not (reads_nothing why)) e
  where
    go : (a b : Bool) → (a && b) ≡ true → a ≡ true
    go true b h = refl
    go false b h = h

late-reads : (why : Refusal) → is_late why ≡ true → reads_nothing why ≡ false
late-reads why e = go (is_plain why) (reads_nothing why) e
  where
    go : (a b : Bool) → (a && not b) ≡ true → b ≡ false
    go true false h = refl
    go true true h = cc h
    go false b h = cc h

-- No more is an answer that accepts, and it has no numbers that could be out of range

pub accepted-memory : (r : Reply) → is_refused r ≡ false → is_out_of_memory r ≡ false
accepted-memory (reply.Refused w) e = cc
accepted-memory _ e = refl

pub accepted-fault : (r : Reply) → is_refused r ≡ false → is_write_fault r ≡ false
accepted-fault (reply.Refused w) e = cc
accepted-fault _ e = refl

accepted-range : (r : Reply) → is_refused r ≡ false → HasRange r
accepted-range (reply.Refused w) e = cc
accepted-range _ e = tt

-- Which answers are none that need no disk

pub after-read : (at : SuperBlock) (s : Step) (why : Refusal) → reads_nothing why ≡ false
    → IsByGiven at s (reply.Refused why)
after-read at s why late w e t =
    absurd (let q : why ≡ w = cc e in let z = ap reads_nothing q in cc (z, late, t))

pub late-given : (at : SuperBlock) (s : Step) (why : Refusal) → is_late why ≡ true → IsByGiven at s (reply.Refused why)
late-given at s why late = after-read at s why (late-reads why late)

pub accepted-given : (at : SuperBlock) (s : Step) (r : Reply) → is_refused r ≡ false → IsByGiven at s r
accepted-given at s r accepted w e t = absurd (let z = ap is_refused e in cc (z, accepted))

pub row-given : (at : SuperBlock) (s : Step) (why : Refusal) → refused_early at s ≡ Some why
    → IsByGiven at s (reply.Refused why)
row-given at s why early w e t = let q : why ≡ w = cc e in early ∙ ap Some q

-- an answer with which nothing is written
pub record IsQuiet (old new : DiskState) (k : Books) (r : Reply) : Type 0 where
  pub stopped : k.stopped ≡ true → is_out_of_memory r ≡ false → r ≡ reply.Refused refusal.Stopped
  pub not_stopped : r ≡ reply.Refused refusal.Stopped → k.stopped ≡ true
  pub read : r ≡ reply.Refused refusal.ReadFault → Rose old.faults new.faults
  pub no_fault : is_write_fault r ≡ false
  pub no_flush : is_flushed r ≡ false
  pub same : is_fault r ≡ false → new.faults ≡ old.faults
  pub range : HasRange r

-- one that accepts
pub quiet-answer : (old new : DiskState) (k : Books) (r : Reply)
    → is_refused r ≡ false → is_flushed r ≡ false → k.stopped ≡ false → new.faults ≡ old.faults → IsQuiet old new k r
quiet-answer old new k r accepted plain going same = record {
  stopped = λ t n. absurd (cc (t, going));
  not_stopped = λ e. absurd (let z = ap is_refused e in cc (z, accepted));
  read = λ e. absurd (let z = ap is_refused e in cc (z, accepted));
  no_fault = accepted-fault r accepted;
  no_flush = plain;
  same = λ e. same;
  range = accepted-range r accepted;
}

-- its causes, where the cells stay
pub quiet-causes : (old new : DiskState) (k l : Books) (r : Reply) → KeepsCells old new → IsQuiet old new k r
    → l.stopped ≡ k.stopped
    → (is_out_of_memory r ≡ true → l ≡ k) → Causes old new k l r
quiet-causes old new k l r cells quiet same memory = record {
  stopped = quiet.stopped;
  not_stopped = quiet.not_stopped;
  read = quiet.read;
  write = λ e. absurd (no-fault e);
  no_fault = quiet.same;
  stops = λ going t. absurd (cc (same, going, t));
  fault = λ e. absurd (no-fault e);
  keeps = λ t. same ∙ t;
  flush = λ e. absurd (let z = ap is_flushed e in let f = quiet.no_flush in cc (z, f));
  still = λ e. cells;
  refused = λ t n. cells;
  memory = memory;
  range = quiet.range;
}
  where
    no-fault : r ≡ reply.Refused refusal.WriteFault → ⊥
    no-fault e = let z = ap is_write_fault e in let f = quiet.no_fault in cc (z, f)

-- such a step, where the books stay too
quietly : (old new : DiskState) (keep : Keeping old new) (k : Books) (r : Reply) → IsSafe old k → IsQuiet old new k r
    → IsSafeStep old k new k r
quietly old new keep k r safe quiet = record {
  disk = keep.disk;
  past = keep.past;
  later = (let m = keep.cells.moment in omega (arith, m));
  cause = quiet-causes old new k k r keep.cells quiet refl (λ t. refl);
  safe = safe-keeps old new keep k safe;
  at = refl;
  history = refl;
}

module _ (old new : DiskState) (k : Books) (safe : IsSafe old k) (stays : StaysButFaults old new) where
  -- the mount is stopped
  pub safely-stopped : new.faults ≡ old.faults → k.stopped ≡ true
      → IsSafeStep old k new k (reply.Refused refusal.Stopped)
  safely-stopped same stopped = quietly old new (reads-keep old new stays) k (reply.Refused refusal.Stopped) safe
      (record {
        stopped = λ t n. refl;
        not_stopped = λ e. stopped;
        read = λ e. absurd (cc);
        no_fault = refl;
        no_flush = refl;
        same = λ e. same;
        range = tt;
      })

  -- a refusal by a row
  pub safely-row : new.faults ≡ old.faults → (why : Refusal) → is_plain why ≡ true → InRange why
      → k.stopped ≡ false → IsSafeStep old k new k (reply.Refused why)
  safely-row same why plain range going =
      quietly old new (reads-keep old new stays) k (reply.Refused why) safe (record {
        stopped = λ t n. absurd (cc (t, going));
        not_stopped = λ e.
            absurd (let f : why ≡ refusal.Stopped = cc in
            let z : is_plain why ≡ false = ap is_plain f in cc (z, plain));
        read = λ e. absurd (let f : why ≡ refusal.ReadFault = cc in
            let z : is_plain why ≡ false = ap is_plain f in cc (z, plain));
        no_fault = plain-fault why plain;
        no_flush = refl;
        same = λ e. same;
        range = range;
      })

  -- a read failed
  pub safely-read : k.stopped ≡ false → Rose old.faults new.faults
      → IsSafeStep old k new k (reply.Refused refusal.ReadFault)
  safely-read going rose = quietly old new (reads-keep old new stays) k (reply.Refused refusal.ReadFault) safe
      (record {
        stopped = λ t n. absurd (cc (t, going));
        not_stopped = λ e. absurd (cc);
        read = λ e. rose;
        no_fault = refl;
        no_flush = refl;
        same = λ e. absurd (cc e);
        range = tt;
      })

  -- an answer
  pub safely-answer : new.faults ≡ old.faults → (r : Reply)
      → is_refused r ≡ false → is_flushed r ≡ false → k.stopped ≡ false → IsSafeStep old k new k r
  safely-answer same r accepted plain going =
      quietly old new (reads-keep old new stays) k r safe (quiet-answer old new k r accepted plain going same)

-- no memory
pub safely-memory : (old new : DiskState) (keep : Keeping old new)
    → new.faults ≡ old.faults → (k : Books) → IsSafe old k
    → IsSafeStep old k new k (reply.Refused refusal.OutOfMemory)
safely-memory old new keep same k safe = quietly old new keep k (reply.Refused refusal.OutOfMemory) safe
    (record {
      stopped = λ t n. absurd (cc);
      not_stopped = λ e. absurd (cc);
      read = λ e. absurd (cc);
      no_fault = refl;
      no_flush = refl;
      same = λ e. same;
      range = tt;
    })

-- a step from there on is one from here on
pub safely-after : (old new : DiskState) (keep : Keeping old new) → new.faults ≡ old.faults
    → (end : DiskState) (k l : Books) (r : Reply)
    → IsSafeStep new k end l r
    → IsSafeStep old k end l r
safely-after old new keep same end k l r g = record {
  disk = IsSameDisk-trans old new end keep.disk g.disk;
  past = KeepsPast-trans old new end (let m = keep.cells.moment in omega (arith, m)) keep.past g.past;
  later = (let m = keep.cells.moment in let q = g.later in omega (arith, m, q));
  cause = record {
    stopped = g.cause.stopped;
    not_stopped = g.cause.not_stopped;
    read = λ e. let f = keep.disk.faults in let h = g.cause.read e in omega (arith, f, h);
    write = λ e. let h = g.cause.write e in (
      (let f = keep.disk.faults in let q = h.0 in omega (arith, f, q)),
      (let m = keep.cells.moment in let q = h.1 in omega (arith, m, q)),
    );
    no_fault = λ e. g.cause.no_fault e ∙ same;
    stops = g.cause.stops;
    fault = g.cause.fault;
    keeps = g.cause.keeps;
    flush = λ e. let m = keep.cells.moment in let q = g.cause.flush e in omega (arith, m, q);
    refused = λ t n. KeepsCells-trans old new end keep.cells (g.cause.refused t n);
    memory = g.cause.memory;
    range = g.cause.range;
    still = λ e. KeepsCells-trans old new end keep.cells (g.cause.still (e ∙ sym keep.cells.moment));
  };
  safe = g.safe;
  at = g.at;
  history = g.history;
}

-- the writes are done
pub safely-done : (old new : DiskState) (k l : Books) (r : Reply)
    → k.stopped ≡ false → l.at ≡ k.at → l.history ≡ k.history → l.stopped ≡ false
    → IsSafe new l → is_refused r ≡ false → IsSameDisk old new → KeepsPast old new
    → old.moment < new.moment → new.faults ≡ old.faults → IsSafeStep old k new l r
safely-done old new k l r going at history runs safe accepted disk past later same = record {
  disk = disk;
  past = past;
  later = omega (arith, later);
  cause = record {
    stopped = λ t n. absurd (cc (t, going));
    not_stopped = λ e. absurd (let z = ap is_refused e in cc (z, accepted));
    read = λ e. absurd (let z = ap is_refused e in cc (z, accepted));
    write = λ e. absurd (let z = ap is_refused e in cc (z, accepted));
    no_fault = λ e. same;
    stops = λ a t. absurd (cc (t, runs));
    fault = λ e. absurd (let z = ap is_refused e in cc (z, accepted));
    keeps = λ t. absurd (cc (t, going));
    flush = λ e. later;
    refused = λ t n. absurd (cc (t, accepted));
    memory = λ t. absurd (let z = accepted-memory r accepted in cc (t, z));
    range = accepted-range r accepted;
    still = λ e. absurd (omega (arith, later, e));
  };
  safe = safe;
  at = at;
  history = history;
}

-- a write failed
pub safely-fault : (old new : DiskState) (k l : Books)
    → k.stopped ≡ false → l.at ≡ k.at → l.history ≡ k.history → l.stopped ≡ true → IsSafe new l
    → IsSameDisk old new → KeepsPast old new → Rose old.faults new.faults → old.moment < new.moment
    → IsSafeStep old k new l (reply.Refused refusal.WriteFault)
safely-fault old new k l going at history stopped safe disk past rose later = record {
  disk = disk;
  past = past;
  later = omega (arith, later);
  cause = record {
    stopped = λ t n. absurd (cc (t, going));
    not_stopped = λ e. absurd (cc);
    read = λ e. absurd (cc);
    write = λ e. (rose, later);
    no_fault = λ e. absurd (cc e);
    stops = λ a b. refl;
    fault = λ e. stopped;
    keeps = λ t. stopped;
    flush = λ e. absurd (cc);
    refused = λ t n. absurd (cc);
    memory = λ t. absurd (cc);
    range = tt;
    still = λ e. absurd (omega (arith, later, e));
  };
  safe = safe;
  at = at;
  history = history;
}

-- a safe step goes as the machine's, where it leads from what stands over a disk that tells to what stands
pub safely-goes : (old new : DiskState) (k l : Books) (s : Step) (c : Claims) (r : Reply) → IsSafeStep old k new l r
    → IsByGiven k.at s r → NoOrder old new (MeetsOpen old k) s c r
    → (IsTrue old.tells → (H : List Entry1) (p : Past) → IsOpen old k H p ⊎ IsStopped old k H p
    → (from : ℕ) → Sounds from old → Sounds from new)
    → (IsTrue old.tells → (caller : ℕ) (H : List Entry1) (p : Past) → IsOpen old k H p
    → Follows old new l H p (entry caller old new s c r))
    → (IsTrue old.tells → (caller : ℕ) (H : List Entry1) (p : Past) → IsStopped old k H p
    → StaysStopped old new l H p (entry caller old new s c r))
    → Goes old k new l s c r
safely-goes old new k l s c r safely early order sound from_open from_stopped = record {
  disk = safely.disk;
  past = safely.past;
  later = safely.later;
  cause = safely.cause;
  order = order;
  early = early;
  sound = λ tells H p o from q. sound tells H p o from q;
  safe = safely.safe;
  at = safely.at;
  history = safely.history;
  from_open = λ tells caller H p o. from_open tells caller H p o;
  from_stopped = λ tells caller H p o. from_stopped tells caller H p o;
}

-- Why a step of a mount was refused: what its step function says, whatever becomes of the history.
use Rattle.std.proofs.Common.{◌≡◌, ℕ, ◌⊎◌, inl, inr, Bool, IsTrue, List, [], ◌∷◌, length, eqb-true, eq-eqb}
use Rattle.std.proofs.Common.{refl, sym, ap, ◌∙◌, subst, arith}
use Rattle.std.proofs.Math.Logic.{∥∥₁_elim, ∥∥₁_prop}
use mathlib.Core.Bool.{Bool-set}
use Rattle.nofs_disk.specs.declared.tag.Cell.{Cell}
use Rattle.nofs_disk.specs.Disk.{DiskState}
use Rattle.nofs_disk.specs.Chains.{KeepsCells-refl}
use Rattle.nofs_disk.specs.Order.{IsApart, WritesOnce}
use Rattle.nofs_model.specs.Files.{Files}
use Rattle.nofs_model.specs.Geometry.{Image}
use Rattle.nofs_history.specs.Since.{agreed_files, files_along}
use Rattle.nofs_history.specs.Writes.{cells_written}
use Rattle.nofs_history.specs.HistoryState.{HistoryState}
use Rattle.nofs_history.specs.declared.machine.replies.Refusal.TheVariants as refusal
use Rattle.nofs_history.specs.declared.machine.replies.Reply.{Reply}
use Rattle.nofs_history.specs.declared.machine.replies.Reply.TheVariants as reply
use Rattle.nofs_history.specs.declared.machine.history.Claims.{Claims}
use Rattle.nofs_history.specs.declared.machine.history.Entry1.{Entry1}
use Rattle.nofs_history.specs.declared.machine.steps.Step.{Step}
use Rattle.nofs_history.specs.Claims.{no_claims}
use Rattle.nofs_state.proofs.OnCores.Rows.{open-with}
use Rattle.nofs_state.specs.Cores.Steps.{FlushesAlone, IsSafeStep, LeavesDisk, MeetsOpen, NoOrder, WritesAlone}
use Rattle.nofs_state.specs.declared.books.maps.Books.{Books}
use Rattle.nofs_shared.specs.Mount.Causes.{MeetsSound, StepCauses, StepOrder}
use Rattle.nofs_state.specs.Cores.Invariant.{IsOpen, IsStopped, Past}
use Rattle.nofs_shared.specs.Mount.Invariant.{IsMount}

-- after a step function, with an entry or without one
pub causes-kept : (old new : DiskState) (k l : Books) (r : Reply) (h : HistoryState) → IsSafeStep old k new l r
    → StepCauses old new k (record l { history = h }) r
causes-kept old new k l r h g = record {
  disk = g.disk;
  past = g.past;
  later = g.later;
  stopped = g.cause.stopped;
  not_stopped = g.cause.not_stopped;
  read = g.cause.read;
  write = g.cause.write;
  no_fault = g.cause.no_fault;
  fault = g.cause.fault;
  refused = g.cause.refused;
  memory = λ e. ap (λ (b : Books). record b { history = h }) (g.cause.memory e);
}

-- a step function that found no memory leaves the books
pub causes-none : (old new : DiskState) (k l : Books) (r : Reply) → IsSafeStep old k new l r → StepCauses old new k l r
causes-none old new k l r g = causes-kept old new k l r l.history g

-- room was taken for the entry before
pub causes-roomed : (old new : DiskState) (k l : Books) (r : Reply) (h : HistoryState)
    → StepCauses old new (record k { history = h }) l r
    → StepCauses old new k l r
causes-roomed old new k l r h g = record {
  disk = g.disk;
  past = g.past;
  later = g.later;
  stopped = g.stopped;
  not_stopped = g.not_stopped;
  read = g.read;
  write = g.write;
  no_fault = g.no_fault;
  fault = g.fault;
  refused = g.refused;
  memory = g.memory;
}

-- there was no room for the entry
pub causes-unroomed : (d : DiskState) (k : Books) (h : HistoryState)
    → StepCauses d d k (record k { history = h }) (reply.Refused refusal.OutOfMemory)
causes-unroomed d k h = record {
  disk = record { blocks = refl; tells = refl; holds_back = refl; faults = omega arith };
  past = record { was = λ m le. refl; no_more = λ m X le x. x; no_less = λ m X le x. x };
  later = omega arith;
  stopped = λ e f. absurd (cc f);
  not_stopped = λ e. absurd (cc e);
  read = λ e. absurd (cc e);
  write = λ e. absurd (cc e);
  no_fault = λ e. refl;
  fault = λ e. absurd (cc e);
  refused = λ e f. record { now = refl; may = refl; moment = refl };
  memory = λ e. refl;
}

-- What a step did to the device

-- what has at most one proof is so where it is known to have one
bottom : (a b : ⊥) → a ≡ b
bottom a b = absurd a

apart-known : (ws : List (ℕ × Cell)) (b : ℕ) → ∥ IsApart ws b ∥₁ → IsApart ws b
apart-known [] b known = tt
apart-known (w ∷ ws) b known = (
  λ e. ∥∥₁_elim known bottom (λ a. a.0 e),
  apart-known ws b (∥∥₁_elim known ∥∥₁_prop (λ a. ∣ a.1 ∣₁)),
)

once-known : (ws : List (ℕ × Cell)) → ∥ WritesOnce ws ∥₁ → WritesOnce ws
once-known [] known = tt
once-known (w ∷ ws) known = (
  apart-known ws w.0 (∥∥₁_elim known ∥∥₁_prop (λ a. ∣ a.0 ∣₁)),
  once-known ws (∥∥₁_elim known ∥∥₁_prop (λ a. ∣ a.1 ∣₁)),
)

number-known : (a b : ℕ) → ∥ a ≡ b ∥₁ → a ≡ b
number-known a b known = eqb-true a b (∥∥₁_elim known (Bool-set _ _) (λ e. eq-eqb a b e))

-- a step owes the same where it is known that the device tells
pub order-known : (old new : DiskState) (P Q : Files → Type 0) (s : Step) (c : Claims) (r : Reply)
    → ((F : Files) → Q F → ∥ P F ∥₁)
    → NoOrder old new P s c r → NoOrder old new Q s c r
order-known old new P Q s c r known (LeavesDisk none cells dirty) = LeavesDisk none cells dirty
order-known old new P Q s c r known (FlushesAlone is quick f) = FlushesAlone is quick f
order-known old new P Q s c r known (WritesAlone made w) = WritesAlone made (record {
  row = w.row;
  count = w.count;
  told = λ F q. record {
    once = once-known w.row (∥∥₁_elim (known F q) ∥∥₁_prop (λ p. ∣ (w.told F p).once ∣₁));
    exact = number-known (length w.row) (cells_written F s c)
        (∥∥₁_elim (known F q) ∥∥₁_prop (λ p. ∣ (w.told F p).exact ∣₁));
  };
  calls = w.calls;
  first = w.first;
  whole = w.whole;
  only = w.only;
})

-- an open mount over a disk that was found sound; room was taken for the entry before
pub order-sound : (found old new : DiskState) (first : ℕ) (k : Books) (s : Step) (r : Reply) (K : List Entry1)
    (h : HistoryState)
    → h.start ≡ k.history.start
    → ∥ IsMount found old first k ∥₁ → StepOrder old new (MeetsOpen old (record k { history = h })) s r K
    → StepOrder old new (MeetsSound found old k) s r K
order-sound found old new first k s r K h start stands o = record {
  claims = o.claims;
  entry = o.entry;
  order = order-known old new (MeetsOpen old (record k { history = h })) (MeetsSound found old k) s o.claims r
      (λ F q. ∥∥₁_elim stands ∥∥₁_prop (λ m. ∣ meets F q m ∣₁)) o.order;
}
  where
    meets : (F : Files) → MeetsSound found old k F → IsMount found old first k
        → MeetsOpen old (record k { history = h }) F
    meets F q m = go (m.stands q.0).past (m.stands q.0).base (m.stands q.0).now
      where
        told : IsTrue old.tells
        told = subst (λ (b : Bool). IsTrue b) (sym m.disk.tells) q.0.tells

        go : (p : Past) → p.base ≡ old.was k.history.start
            → IsOpen old k k.history.entries p ⊎ IsStopped old k k.history.entries p
            → MeetsOpen old (record k { history = h }) F
        go p base (inl o) = (
          k.history.entries,
          p,
          told,
          open-with old k h start k.history.entries p o,
          o.files ∙ ap (λ (B : Image). files_along (agreed_files B) k.history.entries) base ∙ sym q.2,
        )
        go p base (inr o) = absurd (let t = o.stopped in let g = q.1 in cc (t, g))

-- there was no room for the entry
pub order-unroomed : (d : DiskState) (P : Files → Type 0) (s : Step) (K : List Entry1)
    → StepOrder d d P s (reply.Refused refusal.OutOfMemory) K
order-unroomed d P s K =
    record { claims = no_claims; entry = λ e. cc; order = LeavesDisk refl (KeepsCells-refl d) refl }

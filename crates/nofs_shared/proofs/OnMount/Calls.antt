-- What calls a mount made: a step makes its own, and nothing else makes any.
use Rattle.std.proofs.Common.{◌≡◌, ℕ, Bool, true, false, List, [], ◌∷◌, ◌++◌, Option, Result, refl, sym, ap, ◌∙◌, subst}
use Rattle.nofs_disk.specs.Disk.{DiskState, IsSameDisk, KeepsCells, StaysButFaults}
use Rattle.nofs_disk.specs.Chains.{IsSameDisk-refl, IsSameDisk-trans, KeepsCells-refl}
use Rattle.nofs_disk.specs.declared.OutFault.{OutFault}
use Rattle.nofs_model.specs.Files.{Files}
use Rattle.nofs_history.specs.Next.{takes_time}
use Rattle.nofs_history.specs.Steps.{is_out_of_memory}
use Rattle.nofs_history.specs.Writes.{makes_calls}
use Rattle.nofs_history.specs.declared.machine.history.Claims.{Claims}
use Rattle.nofs_history.specs.declared.machine.history.Entry1.{Entry1}
use Rattle.nofs_history.specs.declared.machine.replies.Refusal.TheVariants as refusal
use Rattle.nofs_history.specs.declared.machine.replies.Reply.{Reply}
use Rattle.nofs_history.specs.declared.machine.replies.Reply.TheVariants as reply
use Rattle.nofs_history.specs.declared.machine.steps.Step.{Step}
use Rattle.nofs_state.specs.Cores.Steps.{FlushesAlone, LeavesDisk, NoOrder, WritesAlone}
use Rattle.nofs_state.specs.Cores.WriteOuts.{WroteOne}
use Rattle.nofs_shared.specs.Mount.Calls.{CallsAlong, MadeCalls, NoFiles, Rests}
use Rattle.nofs_shared.specs.Mount.Causes.{StepOrder}
use Rattle.nofs_shared.specs.Mount.Entries.{AddsStep}
use Rattle.nofs_shared.proofs.OnMount.Causes.{order-known}

pub rests-none : (d : DiskState) → Rests d d
rests-none d = record { disk = IsSameDisk-refl d; cells = KeepsCells-refl d }

pub rests-on : (a b c : DiskState) → Rests a b → Rests b c → Rests a c
rests-on a b c p q = record {
  disk = IsSameDisk-trans a b c p.disk q.disk;
  cells = record {
    now = q.cells.now ∙ p.cells.now;
    may = q.cells.may ∙ p.cells.may;
    moment = q.cells.moment ∙ p.cells.moment;
  };
}

pub rests-reads : (old new : DiskState) → StaysButFaults old new → Rests old new
rests-reads old new s = record { disk = s.disk; cells = s.cells }

pub rests-out : (old new : DiskState) (r : Result (Option ℕ) OutFault) → WroteOne old new r → Rests old new
rests-out old new r w = record { disk = w.disk; cells = w.cells }

-- the last one of a list
last-of : Entry1 → List Entry1 → Entry1
last-of d [] = d
last-of d (x ∷ H) = last-of x H

last-of-more : (d e : Entry1) (H : List Entry1) → last-of d (H ++ e ∷ []) ≡ e
unfolding last-of
last-of-more d e [] = refl
last-of-more d e (x ∷ H) = last-of-more x e H

same-last : (e f : Entry1) (G H K : List Entry1) → K ≡ G ++ e ∷ [] → K ≡ H ++ f ∷ [] → f ≡ e
same-last e f G H K p q = sym (last-of-more e f H) ∙ ap (last-of e) (sym q ∙ p) ∙ last-of-more e e G

memory-is : (r : Reply) → is_out_of_memory r ≡ true → r ≡ reply.Refused refusal.OutOfMemory
memory-is (reply.Refused refusal.OutOfMemory) e = refl
memory-is _ e = cc e

-- a step that found no memory made no call
unmade : (old new : DiskState) (P : Files → Type 0) (s : Step) (c : Claims) (r : Reply) → is_out_of_memory r ≡ true
    → NoOrder old new P s c r → KeepsCells old new
unmade old new P s c r memory (LeavesDisk none cells dirty) = cells
unmade old new P s c r memory (WritesAlone made w) =
    absurd (let z : false ≡ true = ap makes_calls (sym (memory-is r memory)) ∙ made in cc z)
unmade old new P s c r memory (FlushesAlone is quick f) =
    absurd (let z : false ≡ true = ap takes_time (sym (memory-is r memory)) ∙ quick in cc z)

module _ {D : Type 0} (state : D → DiskState) where
  calls-on : (begun last next : D) (H : List Entry1) → CallsAlong state begun H last → Rests (state last) (state next)
      → CallsAlong state begun H next
  calls-on begun last next [] c r = rests-on (state begun) (state last) (state next) c r
  calls-on begun last next (e ∷ H) (old, new, first, order, more) r =
      (old, new, first, order, calls-on new last next H more r)

  calls-more : (begun last next : D) (H : List Entry1) (e : Entry1) → CallsAlong state begun H last
      → NoOrder (state last) (state next) NoFiles e.step e.claims e.reply → CallsAlong state begun (H ++ e ∷ []) next
  calls-more begun last next [] e c o = (last, next, c, o, rests-none (state next))
  calls-more begun last next (x ∷ H) e (old, new, first, order, more) o =
      (old, new, first, order, calls-more new last next H e more o)

  -- nothing was asked of the device
  pub made-on : (start from : ℕ) (H K : List Entry1) (last next : D) → from ≡ start → K ≡ H
      → Rests (state last) (state next) → MadeCalls state start H last → MadeCalls state from K next
  made-on start from H K last next begun same r (d, m, c) = (
    d,
    m ∙ sym begun,
    subst (λ (L : List Entry1). CallsAlong state d L next) (sym same) (calls-on d last next H c r),
  )

  -- a step was made
  pub made-step : (start from : ℕ) (H K : List Entry1) (last next : D) (P : Files → Type 0) (caller : ℕ) (s : Step)
      (r : Reply) → from ≡ start → IsSameDisk (state last) (state next) → StepOrder (state last) (state next) P s r K
      → AddsStep caller s r H K → MadeCalls state start H last → MadeCalls state from K next
  made-step start from H K last next P caller s r begun disk o adds (d, m, c) =
      (d, m ∙ sym begun, go (is_out_of_memory r) refl)
    where
      go : (b : Bool) → is_out_of_memory r ≡ b → CallsAlong state d K next
      go true memory = subst (λ (L : List Entry1). CallsAlong state d L next) (sym (adds.none memory))
          (calls-on d last next H c (record {
            disk = disk;
            cells = unmade (state last) (state next) P s o.claims r memory o.order;
          }))
      go false memory =
          let (e, whole, by, is, answer) = adds.one memory in
          let (before, f, ends, claims) = o.entry memory in
          let same : f ≡ e = same-last e f H before K whole ends in
          subst (λ (L : List Entry1). CallsAlong state d L next) (sym whole)
          (calls-more d last next H e c
          (subst (λ (q : Step × Claims × Reply). NoOrder (state last) (state next) NoFiles q.0 q.1 q.2)
          (λ i. (sym is i, (sym claims ∙ ap (λ (x : Entry1). x.claims) same) i, sym answer i))
          (order-known (state last) (state next) P NoFiles s o.claims r (λ F none. absurd none) o.order)))

  -- one was that made no call
  pub made-quiet : (start from : ℕ) (H K : List Entry1) (last next : D) (caller : ℕ) (s : Step) (r : Reply)
      → from ≡ start → next ≡ last → makes_calls r ≡ false → AddsStep caller s r H K
      → MadeCalls state start H last → MadeCalls state from K next
  made-quiet start from H K last next caller s r begun same quiet adds (d, m, c) =
      (d, m ∙ sym begun, go (is_out_of_memory r) refl)
    where
      rests : Rests (state last) (state next)
      rests = subst (λ (x : D). Rests (state last) (state x)) (sym same) (rests-none (state last))

      go : (b : Bool) → is_out_of_memory r ≡ b → CallsAlong state d K next
      go true memory = subst (λ (L : List Entry1). CallsAlong state d L next) (sym (adds.none memory))
          (calls-on d last next H c rests)
      go false memory =
          let (e, whole, by, is, answer) = adds.one memory in
          subst (λ (L : List Entry1). CallsAlong state d L next) (sym whole)
          (calls-more d last next H e c (LeavesDisk (ap makes_calls answer ∙ quiet) rests.cells
          (ap (λ (x : D). (state x).dirty) same)))

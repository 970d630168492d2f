-- A last flush of the whole disk, in a history in which nothing failed, was made.
use Rattle.std.proofs.Common.{◌≡◌, ℕ, Bool, true, false, cond, ◌||◌, List, [], ◌∷◌, ◌++◌, refl, sym, ap, ◌∙◌, subst}
use Rattle.nofs_history.specs.Faults.{has_fault, is_fault}
use Rattle.nofs_history.specs.Machine.{is_write_fault}
use Rattle.nofs_history.specs.Steps.{is_out_of_memory}
use Rattle.nofs_history.specs.declared.machine.history.Entry1.{Entry1}
use Rattle.nofs_history.specs.declared.machine.replies.Refusal.TheVariants as refusal
use Rattle.nofs_history.specs.declared.machine.replies.Reply.{Reply}
use Rattle.nofs_history.specs.declared.machine.replies.Reply.TheVariants as reply
use Rattle.nofs_shared.specs.Laws.{LawLastFlush}
use Rattle.nofs_shared.specs.Mount.Flushes.{is_whole_answer}
use Rattle.nofs_shared.specs.Mount.Forms.{Forms}
use Rattle.nofs_shared.proofs.OnMount.Histories.{fault-is}

no-write-fault : (r : Reply) → is_fault r ≡ false → is_write_fault r ≡ false
no-write-fault r none = go (is_write_fault r) refl
  where
    go : (b : Bool) → is_write_fault r ≡ b → is_write_fault r ≡ false
    go false e = e
    go true e = absurd (let z : is_fault r ≡ true = ap is_fault (fault-is r e) in cc (z, none))

-- the first has none, and those behind it have none
first-none : (b : Bool) (H : List Entry1) → cond b true (has_fault H) ≡ false → (b ≡ false) × (has_fault H ≡ false)
first-none false H e = (refl, e)
first-none true H e = absurd (cc e)

last-none : (H : List Entry1) (e : Entry1) → has_fault (H ++ e ∷ []) ≡ false → is_fault e.reply ≡ false
last-none [] e none = (first-none (is_fault e.reply) [] none).0
last-none (x ∷ H) e none = last-none H e (first-none (is_fault x.reply) (H ++ e ∷ []) none).1

-- so the mount was never stopped
going : (H : List Entry1) (e : Entry1) (from to : ℕ) (stopped last : Bool) → Forms from stopped (H ++ e ∷ []) to last
    → has_fault (H ++ e ∷ []) ≡ false → stopped ≡ false → e.reply ≡ reply.Refused refusal.Stopped → true ≡ false
going [] e from to stopped last f none start is = sym (f.0.stopped_only is) ∙ start
going (x ∷ H) e from to stopped last f none start is =
    let (first, more) = first-none (is_fault x.reply) (H ++ e ∷ []) none in
    going H e x.to to (stopped || is_write_fault x.reply) last f.1 more
    (both stopped (is_write_fault x.reply) start (no-write-fault x.reply first)) is
  where
    both : (a b : Bool) → a ≡ false → b ≡ false → (a || b) ≡ false
    both false false p q = refl
    both true b p q = absurd (cc p)
    both false true p q = absurd (cc q)

made : (r : Reply) → is_whole_answer r ≡ true → is_out_of_memory r ≡ false → is_fault r ≡ false
    → (r ≡ reply.Refused refusal.Stopped → true ≡ false) → r ≡ reply.Flushed
made reply.Flushed whole memory none stopped = refl
made (reply.Refused refusal.WriteFault) whole memory none stopped = absurd (cc none)
made (reply.Refused refusal.OutOfMemory) whole memory none stopped = absurd (cc memory)
made (reply.Refused refusal.Stopped) whole memory none stopped = absurd (let z = stopped refl in cc z)
made _ whole memory none stopped = absurd (cc whole)

pub last-flush : LawLastFlush
last-flush H K from to last caller r forms told memory none =
    let (e, whole, by, step, answer) = told.adds.one memory in
    made r (told.whole refl) memory
    (subst (λ (q : Reply). is_fault q ≡ false) answer
    (last-none H e (subst (λ (L : List Entry1). has_fault L ≡ false) whole none)))
    (λ stopped. going H e from to false last (subst (λ (L : List Entry1). Forms from false L to last) whole forms)
    (subst (λ (L : List Entry1). has_fault L ≡ false) whole none) refl (answer ∙ stopped))

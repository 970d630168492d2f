-- What an entry of a run does: nothing, or what its step gives where no row refuses it.
use Rattle.std.proofs.Common.{◌≡◌, ℕ, Bool, true, false, cond, not, ◌||◌, Option, Some, None, ◌⊎◌, inl, inr, refl, sym}
use Rattle.std.proofs.Common.{ap, ◌∙◌, subst}
use Rattle.nofs_dirent.specs.declared.entry.Entry.{Entry}
use Rattle.nofs_model.specs.Files.{Files, entry_at}
use Rattle.nofs_history.specs.Search.{first_of}
use Rattle.nofs_history.specs.Machine.{Given, nothing, gives, at_place, found, drop_given, link_to, generation_of}
use Rattle.nofs_history.specs.Machine.{files_after, is_refused, is_write_fault, may_give, given_by, files_by}
use Rattle.nofs_history.specs.Faults.{is_fault}
use Rattle.nofs_history.specs.World.{World}
use Rattle.nofs_history.specs.Refusals.{rows}
use Rattle.nofs_history.specs.Answers.{reply_of, dropped_entry, dropped_reply}
use Rattle.nofs_history.specs.Claims.{IsClaim}
use Rattle.nofs_history.specs.Next.{Next, AfterFault, ByRow, Done, ByRead, ByWrite}
use Rattle.nofs_history.specs.declared.machine.history.Claims.{Claims}
use Rattle.nofs_history.specs.declared.machine.history.Entry1.{Entry1}
use Rattle.nofs_history.specs.declared.machine.steps.Step.{Step}
use Rattle.nofs_history.specs.declared.machine.steps.Step.TheVariants as step
use Rattle.nofs_history.specs.declared.machine.replies.Reply.{Reply}
use Rattle.nofs_history.specs.declared.machine.replies.Reply.TheVariants as reply
use Rattle.nofs_history.specs.declared.machine.replies.Refusal.{Refusal}
use Rattle.nofs_history.specs.declared.machine.replies.Refusal.TheVariants as refusal
use Rattle.nofs_crashlaw.proofs.OnHistories.FlushStage.{files-stay}
use Rattle.nofs_history.proofs.Faultless.{FaultFree, first-free, rows-free}

pub data Acts (W : World) (e : Entry1) : Type 0 where
  Idle : given_by W.files e ≡ nothing → Acts W e
  Acting : (V : World) → given_by W.files e ≡ gives W.files e.step e.claims
      → first_of (rows W V e.step) ≡ None → IsClaim W e.step e.claims → Acts W e

pub faultless : (r : Reply) → is_fault r ≡ false → is_write_fault r ≡ false
faultless (reply.Refused refusal.WriteFault) e = cc e
faultless (reply.Refused refusal.ReadFault) e = refl
faultless (reply.Refused _) e = refl
faultless _ e = refl

-- a row is no fault of writing
pub row-faultless : (W V : World) (s : Step) (why : Refusal) → first_of (rows W V s) ≡ Some why
    → is_write_fault (reply.Refused why) ≡ false
row-faultless W V s why e =
    faultless (reply.Refused why) (subst FaultFree e (first-free (rows W V s) (rows-free W V s)))

refused-idle : (F : Files) (e : Entry1) (why : Refusal) → e.reply ≡ reply.Refused why
    → is_write_fault (reply.Refused why) ≡ false → given_by F e ≡ nothing
refused-idle F e why r f = ap (λ (q : Reply). cond (may_give q) (gives F e.step e.claims) nothing) r
    ∙ ap (λ (b : Bool). cond b (gives F e.step e.claims) nothing) f

pub acts : (W V : World) (e : Entry1) → Next W e V → Acts W e
acts W V e (AfterFault s r c same) = Idle (refused-idle W.files e refusal.Stopped r refl)
acts W V e (ByRow why s row (inl r) c k t l) = Idle (refused-idle W.files e why r (row-faultless W V e.step why row))
acts W V e (ByRow why s row (inr r) c k t l) = Idle (refused-idle W.files e refusal.ReadFault r.0 refl)
acts W V e (ByRead s row r c k t l) = Idle (refused-idle W.files e refusal.ReadFault r refl)
acts W V e (ByWrite s row m r claim k t l) =
    Acting V (ap (λ (q : Reply). cond (may_give q) (gives W.files e.step e.claims) nothing) r) row claim
acts W V e (Done s row r claim fs hs se vs l) = go (may_give e.reply) refl
  where
    go : (b : Bool) → may_give e.reply ≡ b → Acts W e
    go true q = Acting V (ap (λ (b : Bool). cond b (gives W.files e.step e.claims) nothing) q) row claim
    go false q = Idle (ap (λ (b : Bool). cond b (gives W.files e.step e.claims) nothing) q)

-- what accepts is done
pub accepted-acts : (W V : World) (e : Entry1) → Next W e V → is_refused e.reply ≡ false
    → (first_of (rows W V e.step) ≡ None) × IsClaim W e.step e.claims × (e.reply ≡ reply_of W e.step e.claims) ×
    (given_by W.files e ≡ gives W.files e.step e.claims)
accepted-acts W V e (AfterFault s r c same) ok =
    absurd (let z : is_refused e.reply ≡ true = ap is_refused r in cc (z, ok))
accepted-acts W V e (ByRow why s row (inl r) c k t l) ok =
    absurd (let z : is_refused e.reply ≡ true = ap is_refused r in cc (z, ok))
accepted-acts W V e (ByRow why s row (inr r) c k t l) ok =
    absurd (let z : is_refused e.reply ≡ true = ap is_refused r.0 in cc (z, ok))
accepted-acts W V e (ByRead s row r c k t l) ok =
    absurd (let z : is_refused e.reply ≡ true = ap is_refused r in cc (z, ok))
accepted-acts W V e (ByWrite s row m r claim k t l) ok =
    absurd (let z : is_refused e.reply ≡ true = ap is_refused r in cc (z, ok))
accepted-acts W V e (Done s row r claim fs hs se vs l) ok = (
  row,
  claim,
  r,
  ap (λ (b : Bool). cond (not b || is_write_fault e.reply) (gives W.files e.step e.claims) nothing) ok,
)

-- The files after an entry

-- what no step that gives answers
abbrev tells_giving : Reply → Bool
tells_giving (reply.Refused why) = false
tells_giving reply.Flushed = false
tells_giving _ = true

gives-told : (W : World) (s : Step) (c : Claims) → (gives W.files s c ≡ nothing)
    ⊎ (tells_giving (reply_of W s c) ≡ true)
unfolding gives
gives-told W (step.Put i g k at bytes) c = inr refl
gives-told W (step.Resize i g size) c = inr refl
gives-told W (step.Make d g name kind) c = inr refl
gives-told W (step.Link d g name i of) c = inr refl
gives-told W (step.Rename d g old new) c = inr refl
gives-told W (step.Drop d g name) c = go (found W.files d name)
  where
    entry : (p : ℕ) (o : Option Entry) → entry_at W.files d p ≡ o
        → (drop_given W.files d g p ≡ nothing)
        ⊎ (tells_giving (dropped_entry W.files (link_to d p (generation_of W.files d)) o) ≡ true)
    entry p None eo = inl (rw (eo, drop_given) refl)
    entry p (Some x) eo = inr refl

    go : (o : Option ℕ) → (at_place o (λ p. drop_given W.files d g p) ≡ nothing)
        ⊎ (tells_giving (dropped_reply W.files d o) ≡ true)
    go None = inl refl
    go (Some p) = entry p (entry_at W.files d p) refl
gives-told W _ c = inl refl

refused-nothing : (W : World) (s : Step) (c : Claims) → is_refused (reply_of W s c) ≡ true → gives W.files s c ≡ nothing
refused-nothing W s c e =
    elim (gives-told W s c) [ inl none ↦ none | inr told ↦ absurd (not-both (reply_of W s c) e told) ]
  where
    not-both : (r : Reply) → is_refused r ≡ true → tells_giving r ≡ true → ⊥
    not-both (reply.Refused why) e t = cc t
    not-both _ e t = cc e

pub flush-gives : (W : World) (s : Step) (c : Claims) → reply_of W s c ≡ reply.Flushed → gives W.files s c ≡ nothing
flush-gives W s c e = elim (gives-told W s c) [
  | inl none ↦ none
  | inr told ↦ let quiet : tells_giving (reply_of W s c) ≡ false = ap tells_giving e in absurd (cc (quiet, told))
]

pub files-next : (W V : World) (e : Entry1) → Next W e V → V.files ≡ files_by W.files e
files-next W V e (AfterFault s r c same) = ap (λ (q : World). q.files) same
    ∙ sym (ap (λ (q : Reply). cond (is_refused q) W.files (files_after W.files (gives W.files e.step e.claims))) r)
files-next W V e (ByRow why s row (inl r) c k t l) = k.files
    ∙ sym (ap (λ (q : Reply). cond (is_refused q) W.files (files_after W.files (gives W.files e.step e.claims))) r)
files-next W V e (ByRow why s row (inr r) c k t l) = k.files
    ∙ sym (ap (λ (q : Reply). cond (is_refused q) W.files (files_after W.files (gives W.files e.step e.claims))) r.0)
files-next W V e (ByRead s row r c k t l) = k.files ∙ sym (ap
    (λ (q : Reply). cond (is_refused q) W.files (files_after W.files (gives W.files e.step e.claims))) r)
files-next W V e (ByWrite s row m r claim k t l) = k.files ∙ sym
    (ap (λ (q : Reply). cond (is_refused q) W.files (files_after W.files (gives W.files e.step e.claims))) r)
files-next W V e (Done s row r claim fs hs se vs l) = fs ∙ go (is_refused e.reply) refl
  where
    go : (b : Bool) → is_refused e.reply ≡ b → files_after W.files (gives W.files e.step e.claims) ≡ cond b W.files
        (files_after W.files (gives W.files e.step e.claims))
    go false q = refl
    go true q = ap (λ (g : Given). files_after W.files g)
        (refused-nothing W e.step e.claims (sym (ap is_refused r) ∙ q)) ∙ files-stay W.files

-- The steps that a walk makes, one list after the other.
use Rattle.std.proofs.Common.{◌≡◌, ℕ, ◌++◌, List, [], ◌∷◌, false, Option, Some, None, refl, sym, ap, ◌∙◌, subst}
use Rattle.std.proofs.Common.{append_assoc}
use Rattle.std.specs.Prelude.{All}
use Rattle.std.proofs.lemmas.List.{append_cancel_left, append-nil}
use Rattle.std.proofs.lemmas.List.Elements.{All-nil, All-cons, All-head, All-tail, All-append}
use Rattle.nofs_history.specs.Search.{first_of}
use Rattle.nofs_history.specs.World.{World}
use Rattle.nofs_history.specs.Steps.{Made, with_made}
use Rattle.nofs_history.specs.declared.machine.steps.Step.{Step}
use Rattle.nofs_history.specs.declared.machine.steps.Step.TheVariants as step
use Rattle.nofs_history.specs.declared.machine.replies.Reply.{Reply}
use Rattle.nofs_history.specs.declared.machine.replies.Reply.TheVariants as reply
use Rattle.nofs_history.specs.declared.machine.replies.Refusal.{Refusal}
use Rattle.nofs_history.specs.declared.machine.replies.Refusal.TheVariants as refusal
use Rattle.nofs_salvage.specs.Walk.Steps.{IsReadingStep, MakesReads, is_get, refusal_of, first_refusal, refusal_in}
use Rattle.nofs_salvage.specs.Walk.Steps.{refusal_by, fault_by, got_by}
use Rattle.nofs_salvage.specs.Walk.Answers.{IsAnswered, AreAnswered}

-- All of two lists

pub all-first : {X : Type 0} (P : X → Type 0) (xs ys : List X) → All P (xs ++ ys) → All P xs
all-first P [] ys h = All-nil P
all-first P (x ∷ xs) ys h = All-cons P x xs (All-head P x (xs ++ ys) h) (all-first P xs ys (All-tail P x (xs ++ ys) h))

pub all-last : {X : Type 0} (P : X → Type 0) (xs ys : List X) → All P (xs ++ ys) → All P ys
all-last P [] ys h = h
all-last P (x ∷ xs) ys h = all-last P xs ys (All-tail P x (xs ++ ys) h)

-- The first refusal

only : (o : Option Refusal) → first_of (o ∷ []) ≡ o
only None = refl
only (Some why) = refl

both-none : (o p : Option Refusal) → first_of (o ∷ p ∷ []) ≡ None → (o ≡ None) × (p ≡ None)
both-none None None h = (refl, refl)
both-none None (Some why) h = absurd (cc h)
both-none (Some why) p h = absurd (cc h)

first-later : (ms ns : List Made) → first_refusal ms ≡ None → first_refusal (ms ++ ns) ≡ first_refusal ns
first-later [] ns h = refl
first-later (m ∷ ms) ns h =
    let none = both-none (refusal_of m) (first_refusal ms) h in
    ap (λ o. first_of (o ∷ first_refusal (ms ++ ns) ∷ [])) none.0 ∙ only (first_refusal (ms ++ ns))
    ∙ first-later ms ns none.1

-- Steps that read

-- no step was made
pub reads-none : (old : List Made) → MakesReads old old None
reads-none old =
    record { made = []; more = sym (append-nil old); read = All-nil (λ (m : Made). IsReadingStep m.0); refused = refl }

-- one step was made
pub reads-one : (old : List Made) (s : Step) (r : Reply) → IsReadingStep s
    → MakesReads old (old ++ (s, r) ∷ []) (refusal_of (s, r))
reads-one old s r read = record {
  made = (s, r) ∷ [];
  more = refl;
  read = All-cons (λ (m : Made). IsReadingStep m.0) (s, r) [] read (All-nil (λ (m : Made). IsReadingStep m.0));
  refused = only-two (refusal_of (s, r));
}
  where
    only-two : (o : Option Refusal) → first_of (o ∷ None ∷ []) ≡ o
    only-two None = refl
    only-two (Some why) = refl

-- more steps were made behind steps that were not refused
pub reads-on : (old mid new : List Made) (why : Option Refusal) → MakesReads old mid None → MakesReads mid new why
    → MakesReads old new why
reads-on old mid new why a b = record {
  made = a.made ++ b.made;
  more = b.more ∙ ap (λ l. l ++ b.made) a.more ∙ append_assoc old a.made b.made;
  read = All-append (λ (m : Made). IsReadingStep m.0) a.made b.made a.read b.read;
  refused = first-later a.made b.made a.refused ∙ b.refused;
}

-- a refused step that is no get
pub refused-step : (old : List Made) (s : Step) (why : Refusal) → IsReadingStep s → is_get s ≡ false
    → MakesReads old (with_made old s (reply.Refused why)) (refusal_in (fault_by why))
refused-step old s refusal.OutOfMemory read no-get = reads-none old
refused-step old s why read no-get = rw no-get at (reads-one old s (reply.Refused why) read)

-- a get
pub get-reads : (old : List Made) (i g k : ℕ) (r : Reply)
    → MakesReads old (with_made old (step.Get i g k) r) (refusal_by (got_by r))
get-reads old i g k (reply.Refused refusal.OutOfMemory) = reads-none old
get-reads old i g k (reply.Refused why) = reads-one old (step.Get i g k) (reply.Refused why) tt
get-reads old i g k r = reads-one old (step.Get i g k) r tt

-- What was answered

-- of the steps from old to new, those up to mid and those behind
pub answered-both : (W : World) (old mid new : List Made) (a b : Option Refusal) → MakesReads old mid a
    → MakesReads mid new b → AreAnswered W old new
    → AreAnswered W old mid × AreAnswered W mid new
answered-both W old mid new a b first last h =
    let parts : h.made ≡ first.made ++ last.made = append_cancel_left old h.made (first.made ++ last.made)
    (sym h.more ∙ last.more ∙ ap (λ l. l ++ last.made) first.more ∙ append_assoc old first.made last.made) in
    let each : All (IsAnswered W) (first.made ++ last.made) = subst (All (IsAnswered W)) parts h.each in (
      record { made = first.made; more = first.more; each = all-first (IsAnswered W) first.made last.made each },
      record { made = last.made; more = last.more; each = all-last (IsAnswered W) first.made last.made each },
    )

-- the one step that was made
pub answered-one : (W : World) (old new : List Made) (m : Made) → new ≡ old ++ m ∷ [] → AreAnswered W old new
    → IsAnswered W m
answered-one W old new m is h =
    let same : h.made ≡ m ∷ [] = append_cancel_left old h.made (m ∷ []) (sym h.more ∙ is) in
    All-head (IsAnswered W) m [] (subst (All (IsAnswered W)) same h.each)

-- A sweep goes on, batch by batch.
use Rattle.std.proofs.Common.{◌≡◌, ℕ, ◌+◌, ◌-◌, ◌<◌, ◌≤◌, List, [], ◌++◌, length, get_or, take, map, Bool, true, false}
use Rattle.std.proofs.Common.{refl, sym, ap, ◌∙◌, subst, arith}
use Rattle.std.proofs.Common.{append_assoc}
use Rattle.std.proofs.lemmas.List.{append-nil, map-append, length-append, length-take-le, get_or-take}
use Rattle.std.proofs.lemmas.List.{get_or_append_left, get_or-append-add}
use Rattle.std.proofs.lemmas.Bool.{true≢false}
use mathlib.Core.Logic.{dite}
use Rattle.std.proofs.Math.Decide.{dec_lt}
use Rattle.nofs_history.specs.Steps.{Made}
use Rattle.nofs_history.specs.declared.machine.steps.ElementKind.{ElementKind}
use Rattle.nofs_history.specs.Callers.{made_step}
use Rattle.nofs_workers.specs.Sweep.{Makes, MakesFirst, Sweeps, IsOrdered, AreOrdered, see_of}

pub makes-none : (kind : ElementKind) (old : List Made) → Makes kind [] old old
makes-none kind old = record { made = []; more = sym (append-nil old); steps = refl }

module _ (Item : ℕ → ℕ → Type 0) (kind : ElementKind) where
  pub sweeps-none : (old : List Made) → Sweeps Item kind 0 0 false old old
  sweeps-none old = record {
    elements = [];
    at_most = omega arith;
    whole = λ _. refl;
    ordered = λ k lt. absurd (omega arith);
    makes = makes-none kind old;
  }

  -- the elements of one batch
  pub sweeps-batch : (place count : ℕ) (elements : List ℕ) (out : Bool) (old new : List Made)
      → length elements ≡ count → AreOrdered Item kind place elements
      → MakesFirst kind elements out old new → Sweeps Item kind place count out old new
  sweeps-batch place count elements out old new len ordered m =
      let taken : length (take m.count elements) ≡ m.count = length-take-le m.count elements m.at_most in
      record {
        elements = take m.count elements;
        at_most = let le = m.at_most in omega arith;
        whole = λ e. taken ∙ m.whole e ∙ len;
        ordered = λ k lt. let le = m.at_most in let below : k < m.count = omega arith in
            subst (λ x. IsOrdered Item kind (place + k) x) (sym (get_or-take m.count elements k 0 below))
            (ordered k (omega arith));
        makes = m.makes;
      }

  joined : (place : ℕ) (xs ys : List ℕ) → AreOrdered Item kind place xs → AreOrdered Item kind (place + length xs) ys
      → AreOrdered Item kind place (xs ++ ys)
  joined place xs ys first second k lt = dite (dec_lt k (length xs))
      (λ left. subst (λ x. IsOrdered Item kind (place + k) x) (sym (get_or_append_left xs ys 0 k left)) (first k left))
      (λ right.
      let long = length-append xs ys in
      let n = k - length xs in
      let is : k ≡ length xs + n = omega arith in
      let there : get_or (xs ++ ys) k 0 ≡ get_or ys n 0 = ap (λ m. get_or (xs ++ ys) m 0) is
      ∙ get_or-append-add xs ys n 0 in
      let p : place + k ≡ place + length xs + n = omega arith in
      subst (λ (q : ℕ × ℕ). IsOrdered Item kind q.0 q.1) (λ i. (sym p i, sym there i)) (second n (omega arith)))

  -- one more batch, after places that were all examined
  pub sweeps-more : (place count : ℕ) (out : Bool) (old mid new : List Made) → Sweeps Item kind 0 place false old mid
      → Sweeps Item kind place count out mid new → Sweeps Item kind 0 (place + count) out old new
  sweeps-more place count out old mid new a b =
      let long = length-append a.elements b.elements in
      let all : length a.elements ≡ place = a.whole refl in
      record {
        elements = a.elements ++ b.elements;
        at_most = let le = b.at_most in omega arith;
        whole = λ e. let w = b.whole e in omega arith;
        ordered = joined 0 a.elements b.elements a.ordered
            (subst (λ p. AreOrdered Item kind p b.elements) (let e : place ≡ 0 + length a.elements =
            omega arith in e) b.ordered);
        makes = record {
          made = a.makes.made ++ b.makes.made;
          more = b.makes.more ∙ ap (λ l. l ++ b.makes.made) a.makes.more ∙ append_assoc old a.makes.made b.makes.made;
          steps = map-append made_step a.makes.made b.makes.made
              ∙ ap (λ l. l ++ map made_step b.makes.made) a.makes.steps
              ∙ ap (λ l. map (see_of kind) a.elements ++ l) b.makes.steps
              ∙ sym (map-append (see_of kind) a.elements b.elements);
        };
      }

  -- a sweep that was short is one of more places too
  pub sweeps-short : (place count more : ℕ) (old new : List Made)
      → count ≤ more → Sweeps Item kind place count true old new
      → Sweeps Item kind place more true old new
  sweeps-short place count more old new le s = record {
    elements = s.elements;
    at_most = let l = s.at_most in omega arith;
    whole = λ e. absurd (true≢false e);
    ordered = s.ordered;
    makes = s.makes;
  }

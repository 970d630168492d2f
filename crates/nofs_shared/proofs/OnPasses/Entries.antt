-- What a step under the turn adds to the caller's own entries.
use Rattle.std.proofs.Common.{◌≡◌, ℕ, ◌+◌, ◌%◌, ◌<◌, ◌≤◌, length-append, eqb, eq-eqb, Bool, true, false, ◌&&◌, List, []}
use Rattle.std.proofs.Common.{◌∷◌, ◌++◌, length, Result, Ok, Err}
use Rattle.std.proofs.Common.{IfOk, IfErr, refl, sym, ap, ◌∙◌, subst, arith}
use Rattle.std.proofs.lemmas.List.{append-nil}
use mathlib.Core.List.{IsPrefix}
use Rattle.nofs_turn.specs.declared.rule.view.View.{View}
use Rattle.nofs_turn.specs.Lists.{numbered}
use Rattle.nofs_turn.specs.Rule.Views.{looked}
use Rattle.nofs_turn.specs.Passes.{Ran}
use Rattle.nofs_turn.proofs.OnLists.Words.{drop_prefix}
use Rattle.nofs_history.specs.Steps.{Made, is_out_of_memory, with_made}
use Rattle.nofs_history.specs.declared.machine.history.Entry1.{Entry1}
use Rattle.nofs_history.specs.declared.machine.steps.Step.{Step}
use Rattle.nofs_history.specs.declared.machine.replies.Reply.{Reply}
use Rattle.nofs_history.specs.Callers.{done_of, is_by}
use Rattle.nofs_shared.specs.Mount.Entries.{AddsStep}
use Rattle.nofs_shared.specs.Passes.Entries.{TellsStep, all_by, own_steps}

-- the entries that a step added
record News (c : ℕ) (s : Step) (r : Reply) (H K : List Entry1) : Type 0 where
  more : List Entry1
  whole : H ++ more ≡ K
  owned : (n : ℕ) → all_by c (numbered n more) ≡ true
  made : (xs : List Made) (n : ℕ) → xs ++ own_steps (numbered n more) ≡ with_made xs s r

news : (c : ℕ) (s : Step) (r : Reply) (H K : List Entry1) → AddsStep c s r H K → News c s r H K
news c s r H K a = go (is_out_of_memory r) refl
  where
    go : (b : Bool) → is_out_of_memory r ≡ b → News c s r H K
    go true e = record {
      more = [];
      whole = append-nil H ∙ sym (a.none e);
      owned = λ n. refl;
      made = λ xs n. append-nil xs ∙ sym (rw e refl);
    }
    go false e =
        let o = a.one e in
        record {
          more = o.0 ∷ [];
          whole = sym o.1;
          owned = λ n. let t : eqb o.0.caller c ≡ true = eq-eqb o.0.caller c o.2 in rw t refl;
          made = λ xs n. ap (λ (m : Made). xs ++ m ∷ []) (λ i. (o.3 i, o.4 i)) ∙ sym (rw e refl);
        }

all_by-append : (c : ℕ) (xs ys : List (ℕ × Entry1))
    → all_by c xs ≡ true → all_by c ys ≡ true → all_by c (xs ++ ys) ≡ true
all_by-append c [] ys e k = k
all_by-append c (x ∷ xs) ys e k = both (is_by c x.1) (all_by c xs) e (λ h. all_by-append c xs ys h k)
  where
    both : (a b : Bool) → a && b ≡ true → (b ≡ true → all_by c (xs ++ ys) ≡ true) → a && all_by c (xs ++ ys) ≡ true
    both true b e more = more e
    both false b e more = absurd (cc)

own_steps-append : (xs ys : List (ℕ × Entry1)) → own_steps (xs ++ ys) ≡ own_steps xs ++ own_steps ys
own_steps-append [] ys = refl
own_steps-append (x ∷ xs) ys = λ i. done_of x.1 ∷ own_steps-append xs ys i

-- what a section tells a pass, it tells less
pub ran-less : {F Out : Type 0} (tells less : F → List Entry1 → List Entry1 → Out → Type 0) {v w : View Entry1 F}
    {out : Out} → ((f : F) (xs ys : List Entry1) (q : Out) → tells f xs ys q → less f xs ys q) → Ran tells v w out
    → Ran less v w out
ran-less tells less to h = record {
  part = h.part;
  before = h.before;
  after = h.after;
  looks_now = h.looks_now;
  same_part = h.same_part;
  told = to h.part h.before h.after _ h.told;
  begins = h.begins;
  keeps = h.keeps;
  at_most_one = h.at_most_one;
  looked_more = h.looked_more;
  now = h.now;
}

-- a step through a pass is one
pub step-ran : {F : Type 0} {Also Done : F → List Entry1 → List Entry1 → Reply → Type 0} (caller : ℕ) (s : Step)
    (v w : View Entry1 F) (r : Reply)
    → Ran (λ f xs ys q. (TellsStep caller s xs ys q × Also f xs ys q) × Done f xs ys q) v w r
    → Ran (λ f xs ys q. TellsStep caller s xs ys q) v w r
step-ran caller s v w r h = ran-less _ (λ f xs ys q. TellsStep caller s xs ys q) (λ f xs ys q t. t.0.0) h

module _ {F : Type 0} (c : ℕ) (s : Step) (r : Reply) (v w : View Entry1 F)
    (h : Ran (λ (f : F) xs ys q. TellsStep c s xs ys q) v w r) where
  new_ones : News c s r h.before h.after
  new_ones = news c s r h.before h.after h.told.adds

  mine_is : w.mine ≡ v.mine ++ numbered (length h.before) new_ones.more
  mine_is = ap (λ (u : View Entry1 F). u.mine) h.now ∙ ap (λ es. v.mine ++ numbered (length h.before) es)
      (drop_prefix h.before h.after (new_ones.more, new_ones.whole))

  pub ran_owns : all_by c v.mine ≡ true → all_by c w.mine ≡ true
  ran_owns e = subst (λ l. all_by c l ≡ true) (sym mine_is)
      (all_by-append c v.mine (numbered (length h.before) new_ones.more) e (new_ones.owned (length h.before)))

  pub ran_made : own_steps w.mine ≡ with_made (own_steps v.mine) s r
  ran_made = ap own_steps mine_is ∙ (own_steps-append v.mine (numbered (length h.before) new_ones.more)
      ∙ new_ones.made (own_steps v.mine) (length h.before))

-- the same of a try
pub tried_owns : {B F : Type 0} (Also Done : F → List Entry1 → List Entry1 → Reply → Type 0) (Same : B → Type 0)
    (c : ℕ) (s : Step) (res : Result Reply B) (word : B → ℕ) (v w : View Entry1 F)
    → IfOk res (λ r. Ran (λ f xs ys q. (TellsStep c s xs ys q × Also f xs ys q) × Done f xs ys q) v w r)
    → IfErr res (λ b. Same b × (word b % 2 ≡ 1) × (w ≡ looked v (word b)))
    → all_by c v.mine ≡ true → all_by c w.mine ≡ true
tried_owns Also Done Same c s (Ok r) word v w ok err e = ran_owns c s r v w (step-ran c s v w r ok) e
tried_owns {F = F} Also Done Same c s (Err b) word v w ok err e =
    subst (λ (u : View Entry1 F). all_by c u.mine ≡ true) (sym err.2) e

-- a history grows by one entry at most
pub adds-prefix : (c : ℕ) (s : Step) (r : Reply) (H K : List Entry1) → AddsStep c s r H K → IsPrefix H K
adds-prefix c s r H K a = let n = news c s r H K a in (n.more, n.whole)

pub adds-few : (c : ℕ) (s : Step) (r : Reply) (H K : List Entry1) → AddsStep c s r H K
    → (n : ℕ) → length H < n → length K ≤ n
adds-few c s r H K a n low = go (is_out_of_memory r) refl
  where
    go : (b : Bool) → is_out_of_memory r ≡ b → length K ≤ n
    go true e = let q = ap length (a.none e) in omega (arith, q, low)
    go false e = let o = a.one e in let q = ap length o.1 in omega (arith, q, low, length-append H (o.0 ∷ []))

pub adds-one : (c : ℕ) (s : Step) (r : Reply) (H K : List Entry1) → AddsStep c s r H K → length K ≤ length H + 1
adds-one c s r H K a = go (is_out_of_memory r) refl
  where
    go : (b : Bool) → is_out_of_memory r ≡ b → length K ≤ length H + 1
    go true e = let q = ap length (a.none e) in omega (arith, q)
    go false e = let o = a.one e in let q = ap length o.1 in omega (arith, q, length-append H (o.0 ∷ []))

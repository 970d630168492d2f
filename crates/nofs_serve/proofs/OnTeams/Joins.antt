-- Passes that are joined: what each caller made.
use Rattle.std.proofs.Common.{◌≡◌, ◌≢◌, ℕ, ◌+◌, Bool, true, false, cond, List, [], ◌∷◌, length, ltb, refl, sym, ap, ◌∙◌}
use Rattle.std.proofs.Common.{drop, subst, arith}
use mathlib.Core.List.{IsPrefix}
use Rattle.nofs_turn.specs.declared.rule.view.View.{View}
use Rattle.nofs_turn.specs.Lists.{chosen, numbered}
use Rattle.nofs_turn.proofs.OnLists.Words.{prefix_trans}
use Rattle.nofs_turn.proofs.OnPasses.{joined_own, joined_other}
use Rattle.nofs_history.specs.declared.machine.history.Entry1.{Entry1}
use Rattle.nofs_history.specs.Callers.{is_by, steps_by}
use Rattle.nofs_shared.specs.Passes.Entries.{all_by, own_steps}
use Rattle.nofs_shared.specs.Passes.Seats.{SameSeat}
use Rattle.nofs_shared.proofs.OnPasses.Joined.{chosen_by, chosen_not, steps_of}
use Rattle.nofs_serve.specs.Teams.Joins.{JoinsOwn, Gathers, made_by}

none_chosen : (m : List (ℕ × Entry1)) → own_steps m ≡ [] → m ≡ []
none_chosen [] e = refl
none_chosen (x ∷ m) e = absurd (cc)

longer-begins : (H xs ys : List Entry1) → IsPrefix H xs → IsPrefix H ys → (b : Bool) → IsPrefix H (cond b ys xs)
longer-begins H xs ys p q true = q
longer-begins H xs ys p q false = p

module _ {F : Type 0} where
  -- a pass of one caller
  pub made_by-own : (c : ℕ) (v : View Entry1 F) → all_by c v.mine ≡ true → made_by c v ≡ own_steps v.mine
  made_by-own c v own = ap own_steps (chosen_by c v.mine own)

  pub made_by-other : (c d : ℕ) (v : View Entry1 F) → all_by d v.mine ≡ true → c ≢ d → made_by c v ≡ []
  made_by-other c d v own apart = ap own_steps (chosen_not c d v.mine own apart)

  -- after one was joined
  pub joins-own : (c : ℕ) (v w u : View Entry1 F) → JoinsOwn c v w u → made_by c v ≡ [] → made_by c u ≡ own_steps w.mine
  joins-own c v w u j none =
      ap (λ (z : View Entry1 F). made_by c z) j.now
      ∙ ap own_steps (joined_own (is_by c) v.mine w.mine j.rising j.rising_own
      (none_chosen (chosen (is_by c) v.mine) none) ∙ chosen_by c w.mine j.own)

  pub joins-other : (c d : ℕ) (v w u : View Entry1 F) → JoinsOwn c v w u → d ≢ c → made_by d u ≡ made_by d v
  joins-other c d v w u j apart =
      ap (λ (z : View Entry1 F). made_by d z) j.now
      ∙ ap own_steps (joined_other (is_by d) v.mine w.mine j.rising j.rising_own (chosen_not d c w.mine j.own apart))

  -- once the passes are one and closed, its steps are those of the history
  pub closes-made : (n : ℕ) (H K : List Entry1) (v u : View Entry1 F) → v.start ≡ length H → Gathers v u n
      → u.mine ≡ numbered u.start (drop u.start K) → (c : ℕ) → made_by c u ≡ steps_by c (drop (length H) K)
  closes-made n H K v u start g all c =
      ap (λ m. own_steps (chosen (is_by c) m)) (all
      ∙ ap (λ (n : ℕ). numbered n (drop n K)) (g.start ∙ start)) ∙ sym (steps_of c (length H) (drop (length H) K))

  pub closes-grown : (n : ℕ) (H K : List Entry1) (v u : View Entry1 F) → v.seen ≡ H → Gathers v u n
      → IsPrefix u.seen K → IsPrefix H K
  closes-grown n H K v u seen g begins = prefix_trans H u.seen K (subst (λ l. IsPrefix l u.seen) seen g.seen) begins

  -- the first pass
  pub gathers-one : (v u : View Entry1 F) → v.stands ≡ 1 → SameSeat v u → Gathers v u 1
  gathers-one v u one same = record {
    fixed = same.fixed;
    start = same.start;
    seats = same.seats;
    stands = same.stands ∙ one;
    seen = same.seen;
  }

  -- one more
  pub gathers-more : (c n : ℕ) (v u w x : View Entry1 F) → v.stands ≡ 1 → Gathers v u n → JoinsOwn c u w x
      → SameSeat v w → Gathers v x (n + 1)
  gathers-more c n v u w x one g j same = record {
    fixed = ap (λ (z : View Entry1 F). z.fixed) j.now ∙ g.fixed;
    start = ap (λ (z : View Entry1 F). z.start) j.now ∙ g.start;
    seats = ap (λ (z : View Entry1 F). z.seats) j.now ∙ g.seats;
    stands = (let s = ap (λ (z : View Entry1 F). z.stands) j.now in let a = g.stands in let b = same.stands in
        omega (arith, s, a, b, one));
    seen = subst (λ l. IsPrefix v.seen l) (sym (ap (λ (z : View Entry1 F). z.seen) j.now))
        (longer-begins v.seen u.seen w.seen g.seen same.seen (ltb (length u.seen) (length w.seen)));
  }

-- The entries of one caller among those of several.
use Rattle.std.proofs.Common.{◌≡◌, ◌≢◌, ℕ, ne_eqb, eqb-true, Bool, true, false, cond, ◌&&◌, List, [], ◌∷◌, map}
use Rattle.std.proofs.Common.{refl, sym, ap, ◌∙◌}
use Rattle.std.specs.Prelude.{filter}
use Rattle.nofs_turn.specs.Lists.{numbered, chosen}
use Rattle.nofs_turn.proofs.OnPasses.{entries_of-numbered, filter-entries_of}
use Rattle.nofs_history.specs.declared.machine.history.Entry1.{Entry1}
use Rattle.nofs_history.specs.Callers.{done_of, is_by, steps_by}
use Rattle.nofs_shared.specs.Passes.Entries.{all_by, own_steps}

pub chosen_by : (c : ℕ) (m : List (ℕ × Entry1)) → all_by c m ≡ true → chosen (is_by c) m ≡ m
chosen_by c [] e = refl
chosen_by c (x ∷ m) e = both (is_by c x.1) e (λ h. chosen_by c m h)
  where
    both : (b : Bool) → b && all_by c m ≡ true → (all_by c m ≡ true → chosen (is_by c) m ≡ m)
        → cond b (x ∷ chosen (is_by c) m) (chosen (is_by c) m) ≡ x ∷ m
    both true h more = λ i. x ∷ more h i
    both false h more = absurd (cc)

pub chosen_not : (c d : ℕ) (m : List (ℕ × Entry1)) → all_by d m ≡ true → c ≢ d → chosen (is_by c) m ≡ []
chosen_not c d [] e apart = refl
chosen_not c d (x ∷ m) e apart = both (is_by d x.1) refl e (λ h. chosen_not c d m h apart)
  where
    both : (b : Bool) → is_by d x.1 ≡ b → b && all_by d m ≡ true → (all_by d m ≡ true → chosen (is_by c) m ≡ [])
        → cond (is_by c x.1) (x ∷ chosen (is_by c) m) (chosen (is_by c) m) ≡ []
    both true is h more =
        let d_is : x.1.caller ≡ d = eqb-true x.1.caller d is in
        let not_c : is_by c x.1 ≡ false = ne_eqb x.1.caller c (λ e. apart (sym e ∙ d_is)) in
        rw not_c (more h)
    both false is h more = absurd (cc)

-- what the numbered history has of a caller
pub steps_of : (c n : ℕ) (log : List Entry1) → steps_by c log ≡ own_steps (chosen (is_by c) (numbered n log))
steps_of c n log = ap (λ es. map done_of (filter (is_by c) es)) (sym (entries_of-numbered n log))
    ∙ ap (map done_of) (filter-entries_of (is_by c) (numbered n log))

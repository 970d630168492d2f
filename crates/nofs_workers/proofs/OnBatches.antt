-- A slice that is filled from its beginning.
use Rattle.std.proofs.Common.{◌≡◌, ℕ, ◌+◌, ◌^◌, ◌<◌, List, length, get_or, set, sym, subst, arith}
use Rattle.std.proofs.Math.Decide.{dec_lt}
use Rattle.std.proofs.lemmas.List.{get_or-set_other}
use Rattle.std.proofs.lemmas.Grind.{get_or-set_at, get_or_default_zero}
use mathlib.Core.Logic.{dite}
use Rattle.nofs_history.specs.declared.machine.steps.ElementKind.{ElementKind}
use Rattle.nofs_history.specs.declared.machine.steps.ElementKind.TheVariants as kind
use Rattle.nofs_workers.specs.Sweep.{AreInRange}

-- one number more is filled in
pub filled-more : (P : ℕ → ℕ → Type 0) (xs : List ℕ) (at y : ℕ) → at < length xs
    → ((k : ℕ) → k < at → P k (get_or xs k 0)) → P at y
    → (k : ℕ) → k < at + 1 → P k (get_or (set xs at y) k 0)
filled-more P xs at y lt before now k below = dite (dec_lt k at)
    (λ less. subst (P k) (sym (get_or-set_other xs at k y 0 (λ e. omega (arith, e)))) (before k less))
    (λ not. let is : k ≡ at = omega arith in
    subst (P k) (sym (get_or-set_at xs at k y 0 is lt)) (subst (λ m. P m y) (sym is) now))

pub in-range : (k : ElementKind) (xs : List ℕ) → ((i : ℕ) → i < length xs → k ≡ kind.Inode → get_or xs i 0 < 2 ^ 32)
    → AreInRange k xs
in-range k xs each is i d lt = subst (λ x. x < 2 ^ 32) (sym (get_or_default_zero xs i d lt)) (each i lt is)

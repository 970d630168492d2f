-- A cell of pointers from which those behind a place are taken.
use Rattle.std.proofs.Common.{◌≡◌, ◌≢◌, ℕ, ◌+◌, ◌<◌, ◌≤◌, true, inl, inr, List, refl, ap, ◌∙◌, arith, le_refl}
use Rattle.std.proofs.lemmas.Bool.{cases_eq}
use Rattle.nofs_disk.specs.Pointer.{null, is_null}
use Rattle.nofs_ptrs.specs.Cells.{pointer_at}

-- so far up to a place
pub record Cutting (from to : ℕ) (old now : List ℕ) : Type 0 where
  pub kept : (n : ℕ) → n < from → n < 64 → pointer_at now n ≡ pointer_at old n
  pub cut : (n : ℕ) → from ≤ n → n < to → is_null (pointer_at now n) ≡ true
  pub order : from ≤ to

pub cutting-begins : (from : ℕ) (old : List ℕ) → Cutting from from old old
cutting-begins from old =
    record { kept = λ n low most. refl; cut = λ n high low. absurd (omega (arith, high, low)); order = le_refl from }

pub cutting-goes : (from place : ℕ) (old now new : List ℕ) → Cutting from place old now
    → place < 64 → pointer_at new place ≡ null
    → ((j : ℕ) → j ≢ place → j < 64 → pointer_at new j ≡ pointer_at now j) → Cutting from (place + 1) old new
cutting-goes from place old now new c low written others = record {
  kept = λ n lt most. others n (λ e. let o = c.order in omega (arith, e, lt, o)) most ∙ c.kept n lt most;
  cut = λ n high lt. elim (cases_eq n place) [
    | inl here ↦ ap (λ (q : ℕ). is_null (pointer_at new q)) here ∙ ap is_null written
    | inr other ↦ ap is_null (others n other (omega (arith, lt, low))) ∙ c.cut n high (omega (arith, lt, other))
  ];
  order = (let o = c.order in omega (arith, o));
}

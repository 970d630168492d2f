-- A back link that is there, as a pair.
use Rattle.std.proofs.Common.{◌≡◌, ℕ, zero, suc, ◌+◌, ◌-◌, ◌<◌, Bool, true, false, eqb, ◌&&◌, ◌||◌, List, [], ◌∷◌, Some}
use Rattle.std.proofs.Common.{None, refl, ap, ◌∙◌, eqb-true, arith}
use Rattle.std.specs.List.{list_any}
use Rattle.nofs_inode.specs.declared.inode.BackLink.{BackLink}
use Rattle.nofs_history.specs.Machine.{same_link}
use Rattle.nofs_history.specs.Search.{least_from}

both : (a b : Bool) → a && b ≡ true → (a ≡ true) × (b ≡ true)
both true b e = (refl, e)
both false b e = absurd (cc e)

pub same-is : (a b : BackLink) → same_link a b ≡ true → a ≡ b
same-is a b e =
    let p = both (eqb a.directory b.directory) (eqb a.entry b.entry && eqb a.generation b.generation) e in
    let q = both (eqb a.entry b.entry) (eqb a.generation b.generation) p.1 in
    λ j. record {
      directory = eqb-true a.directory b.directory p.0 j;
      entry = eqb-true a.entry b.entry q.0 j;
      generation = eqb-true a.generation b.generation q.1 j;
    }

-- among links, only the wanted one itself is asked for
pub any_same : (p : BackLink → Bool) (wanted : BackLink) (links : List BackLink)
    → list_any (λ l. same_link l wanted && p l) links ≡ (list_any (λ l. same_link l wanted) links && p wanted)
any_same p wanted [] = refl
any_same p wanted (x ∷ xs) = go (same_link x wanted) refl (p wanted) refl (list_any (λ l. same_link l wanted && p l) xs)
    (list_any (λ l. same_link l wanted) xs) (any_same p wanted xs)
  where
    go : (b : Bool) → same_link x wanted ≡ b → (c : Bool) → p wanted ≡ c → (all some : Bool) → all ≡ (some && p wanted)
        → ((b && p x) || all) ≡ ((b || some) && p wanted)
    go false e c ec all some ih = ih
    go true e true ec all some ih = let px : p x ≡ true = ap p (same-is x wanted e) ∙ ec in rw (px, ec) refl
    go true e false ec all true ih = let px : p x ≡ false = ap p (same-is x wanted e) ∙ ec in rw (px, ec) (ih ∙ ec)
    go true e false ec all false ih = let px : p x ≡ false = ap p (same-is x wanted e) ∙ ec in rw (px, ec) ih

-- A search, one step at a time

pub least_none : (test : ℕ → Bool) (at n : ℕ) → n ≡ 0 → least_from test at n ≡ None
unfolding least_from
least_none test at zero e = refl
least_none test at (suc n) e = absurd (omega (arith, e))

pub least_here : (test : ℕ → Bool) (at n : ℕ) → 0 < n → test at ≡ true → least_from test at n ≡ Some at
unfolding least_from
least_here test at zero lt e = absurd (omega (arith, lt))
least_here test at (suc n) lt e = rw e refl

pub least_further : (test : ℕ → Bool) (at n : ℕ)
    → 0 < n → test at ≡ false → least_from test at n ≡ least_from test (at + 1) (n - 1)
unfolding least_from
least_further test at zero lt e = absurd (omega (arith, lt))
least_further test at (suc n) lt e =
    let next : suc at ≡ at + 1 = omega arith in
    let rest : n ≡ suc n - 1 = omega arith in
    rw e (ap (λ (a : ℕ). least_from test a n) next ∙ ap (λ (m : ℕ). least_from test (at + 1) m) rest)

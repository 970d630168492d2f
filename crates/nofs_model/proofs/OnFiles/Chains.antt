-- Agreement: the test, its equation, and the least relation are one.
use Rattle.std.proofs.Common.{◌≡◌, ℕ, zero, suc, ◌<◌, ◌⊎◌, inl, inr, Bool, true, false, eqb, ltb, ◌&&◌, ◌||◌, not, List}
use Rattle.std.proofs.Common.{[], ◌∷◌, Option, Some, None, refl}
use Rattle.std.proofs.Common.{sym, ap, ◌∙◌, subst, arith, Contains, eqb-true, ltb-true}
use Rattle.std.specs.List.{list_any}
use Rattle.std.proofs.lemmas.List.Folds.{list_any_at}
use Rattle.nofs_inode.specs.declared.inode.BackLink.{BackLink}
use Rattle.nofs_model.specs.Files.{FileState, Files, is_folder, entry_in_file, pairs, names, is_pair, links_of, is_root}
use Rattle.nofs_model.specs.Files.{is_special, agreed_below, agreed, Agreed, root, linked}
use Rattle.nofs_model.proofs.OnSlots.Find.{and-both}

pub any-same : (f g : BackLink → Bool) (xs : List BackLink) → ((x : BackLink) → f x ≡ g x)
    → list_any f xs ≡ list_any g xs
any-same f g [] h = refl
any-same f g (x ∷ xs) h = rw (h x, any-same f g xs h)

pub any-true : (p : BackLink → Bool) (xs : List BackLink)
    → list_any p xs ≡ true → (x : BackLink) × Contains xs x × (p x ≡ true)
any-true p [] e = cc
any-true p (x ∷ xs) e = go (p x) refl (λ h. any-true p xs h) e
  where
    go : (b : Bool) → p x ≡ b → (list_any p xs ≡ true → (y : BackLink) × Contains xs y × (p y ≡ true))
        → (b || list_any p xs) ≡ true
        → (y : BackLink) × Contains (x ∷ xs) y × (p y ≡ true)
    go true eb ih h = (x, (0, omega arith, refl), eb)
    go false eb ih h = let (y, at, py) = ih h in (y, (suc at.0, omega arith, at.2), py)

pub true-any : (p : BackLink → Bool) (xs : List BackLink) (x : BackLink) → Contains xs x
    → p x ≡ true → list_any p xs ≡ true
true-any p xs x (k, lt, e) px = list_any_at p xs k x lt (subst (λ (y : BackLink). p y ≡ true) (sym e) px)

-- what a pair is
pub record PairOf (F : Files) (i : ℕ) (link : BackLink) : Type 0 where
  pub own : FileState
  pub own_is : F i ≡ Some own
  pub parent : FileState
  pub parent_is : F link.directory ≡ Some parent
  pub parent_folder : is_folder parent.kind ≡ true
  pub parent_generation : parent.generation ≡ link.generation
  pub older : is_folder own.kind ≡ true → link.generation < own.generation

pub pair-of : (F : Files) (i : ℕ) (link : BackLink) → is_pair F i link ≡ true → PairOf F i link
pair-of F i link e = go (F i) refl (F link.directory) refl e
  where
    older : (b : Bool) (x y : ℕ) → (not b || ltb x y) ≡ true → b ≡ true → x < y
    older true x y e h = ltb-true x y e
    older false x y e h = cc

    go : (o : Option FileState) → F i ≡ o → (p : Option FileState)
        → F link.directory ≡ p → pairs o p i link ≡ true → PairOf F i link
    go None eo p ep h = cc
    go (Some f) eo None ep h = cc
    go (Some f) eo (Some d) ep h =
        let a = and-both (is_folder d.kind && eqb d.generation link.generation)
        (names (entry_in_file (Some d) link.entry) i f.generation
        && (not (is_folder f.kind) || ltb link.generation f.generation)) h in
        let b = and-both (is_folder d.kind) (eqb d.generation link.generation) a.0 in
        let c = and-both (names (entry_in_file (Some d) link.entry) i f.generation)
        (not (is_folder f.kind) || ltb link.generation f.generation) a.1 in
        record {
          own = f;
          own_is = eo;
          parent = d;
          parent_is = ep;
          parent_folder = b.0;
          parent_generation =
              eqb-true d.generation link.generation b.1;
          older = older (is_folder f.kind) link.generation f.generation c.1;
        }

-- the directory that a directory's back link pairs it with is older
older-parent : (F : Files) (d : ℕ) (f : FileState) (link : BackLink) → F d ≡ Some f
    → is_folder f.kind ≡ true → (p : PairOf F d link)
    → p.parent.generation < f.generation
older-parent F d f link e k p =
    let same : p.own ≡ f = cc (p.own_is, e) in
    let lt = p.older (rw same k) in
    let own : p.own.generation ≡ f.generation = ap (λ (q : FileState). q.generation) same in
    let parent = p.parent_generation in
    omega (arith, lt, own, parent)

and-same : (b c d : Bool) → (b ≡ true → c ≡ d) → (b && c) ≡ (b && d)
and-same true c d h = h refl
and-same false c d h = refl

-- the bound does not matter, as long as it is above the directory's generation
pub below-same : (a b : ℕ) (F : Files) (d : ℕ) (f : FileState) → F d ≡ Some f
    → is_folder f.kind ≡ true → f.generation < a → f.generation < b
    → agreed_below a F d ≡ agreed_below b F d
below-same zero b F d f e k la lb = absurd (omega (arith, la))
below-same (suc a) zero F d f e k la lb = absurd (omega (arith, lb))
below-same (suc a) (suc b) F d f e k la lb =
    let each : (link : BackLink)
    → (is_pair F d link && agreed_below a F link.directory) ≡ (is_pair F d link && agreed_below b F link.directory) =
    λ link. and-same (is_pair F d link) (agreed_below a F link.directory) (agreed_below b F link.directory) (λ pair.
    let p = pair-of F d link pair in
    let older = older-parent F d f link e k p in
    below-same a b F link.directory p.parent p.parent_is p.parent_folder (omega (arith, older, la))
    (omega (arith, older, lb))) in
    ap (λ (x : Bool). is_root F d || (not (is_special d) && x))
    (any-same (λ link. is_pair F d link && agreed_below a F link.directory)
    (λ link. is_pair F d link && agreed_below b F link.directory) (links_of F d) each)

-- for a directory the test with a bound is the test
pub below-agreed : (n : ℕ) (F : Files) (d : ℕ) (f : FileState) → F d ≡ Some f
    → is_folder f.kind ≡ true → f.generation < suc n
    → agreed_below (suc n) F d ≡ agreed F d
unfolding agreed
below-agreed n F d f e k lt =
    let each : (link : BackLink) → (is_pair F d link && agreed_below n F link.directory) ≡
    (is_pair F d link && agreed_below (suc link.generation) F link.directory) =
    λ link. and-same (is_pair F d link) (agreed_below n F link.directory)
    (agreed_below (suc link.generation) F link.directory) (λ pair.
    let p = pair-of F d link pair in
    let older = older-parent F d f link e k p in
    let generation = p.parent_generation in
    below-same n (suc link.generation) F link.directory p.parent p.parent_is p.parent_folder (omega (arith, older, lt))
    (omega (arith, generation))) in
    ap (λ (x : Bool). is_root F d || (not (is_special d) && x))
    (any-same (λ link. is_pair F d link && agreed_below n F link.directory)
    (λ link. is_pair F d link && agreed_below (suc link.generation) F link.directory)
    (links_of F d) each)

opened : (F : Files) (i : ℕ) → agreed F i ≡ (is_root F i ||
    (not (is_special i)
    && list_any (λ link. is_pair F i link && agreed_below (suc link.generation) F link.directory) (links_of F i)))
unfolding agreed
opened F i = refl

-- the equation of agreement
pub agreed-is : (F : Files) (i : ℕ) → agreed F i ≡ (is_root F i
    || (not (is_special i) && list_any (λ link. is_pair F i link && agreed F link.directory) (links_of F i)))
agreed-is F i =
    let each : (link : BackLink) → (is_pair F i link && agreed_below (suc link.generation) F link.directory)
    ≡ (is_pair F i link && agreed F link.directory) =
    λ link. and-same (is_pair F i link) (agreed_below (suc link.generation) F link.directory)
    (agreed F link.directory) (λ pair.
    let p = pair-of F i link pair in
    let pg = p.parent_generation in
    below-agreed link.generation F link.directory p.parent p.parent_is p.parent_folder (omega (arith, pg))) in
    opened F i ∙ ap (λ (x : Bool). is_root F i || (not (is_special i) && x))
    (any-same (λ link. is_pair F i link && agreed_below (suc link.generation) F link.directory)
    (λ link. is_pair F i link && agreed F link.directory)
    (links_of F i) each)

or-cases : (a b : Bool) → (a || b) ≡ true → (a ≡ true) ⊎ (b ≡ true)
or-cases true b e = inl refl
or-cases false b e = inr e

not-true : (b : Bool) → not b ≡ true → b ≡ false
not-true true e = cc
not-true false e = refl

-- from the test to the relation
below-holds : (n : ℕ) (F : Files) (i : ℕ) → agreed_below n F i ≡ true → Agreed F i
below-holds zero F i e = cc
below-holds (suc n) F i e = elim (or-cases (is_root F i) (not (is_special i)
    && list_any (λ link. is_pair F i link && agreed_below n F link.directory) (links_of F i)) e) [
      | inl r ↦ root r
      | inr l ↦
          let a = and-both (not (is_special i))
          (list_any (λ link. is_pair F i link && agreed_below n F link.directory) (links_of F i)) l in
          let (link, has, both) = any-true (λ link. is_pair F i link && agreed_below n F link.directory)
          (links_of F i) a.1 in
          let c = and-both (is_pair F i link) (agreed_below n F link.directory) both in
          linked link (not-true (is_special i) a.0) has c.0 (below-holds n F link.directory c.1)
    ]

pub agreed-holds : (F : Files) (i : ℕ) → agreed F i ≡ true → Agreed F i
unfolding agreed
agreed-holds F i e = elim (or-cases (is_root F i) (not (is_special i)
    && list_any (λ link. is_pair F i link && agreed_below (suc link.generation) F link.directory) (links_of F i)) e) [
      | inl r ↦ root r
      | inr l ↦
          let a = and-both (not (is_special i)) (list_any (λ link. is_pair F i link
          && agreed_below (suc link.generation) F link.directory) (links_of F i)) l in
          let (link, has, both) = any-true (λ link. is_pair F i link
          && agreed_below (suc link.generation) F link.directory) (links_of F i) a.1 in
          let c = and-both (is_pair F i link) (agreed_below (suc link.generation) F link.directory) both in
          linked link (not-true (is_special i) a.0) has c.0 (below-holds (suc link.generation) F link.directory c.1)
    ]

or-right : (a : Bool) → (a || true) ≡ true
or-right true = refl
or-right false = refl

-- and back
pub holds-agreed : (F : Files) (i : ℕ) → Agreed F i → agreed F i ≡ true
holds-agreed F i (root r) = rw (agreed-is F i, r)
holds-agreed F i (linked link plain has pair up) =
    let ih = holds-agreed F link.directory up in
    let one : (is_pair F i link && agreed F link.directory) ≡ true = rw (pair, ih) in
    let any = true-any (λ link. is_pair F i link && agreed F link.directory) (links_of F i) link has one in
    rw (agreed-is F i, plain, any) (or-right (is_root F i))

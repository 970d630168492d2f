-- As many blocks as a step needs can be claimed, where no row refuses it.
use Rattle.std.proofs.Common.{◌≡◌, ◌≢◌, ℕ, zero, suc, ◌+◌, ◌≤◌, Bool, true, false, eqb, ltb, List, [], ◌∷◌, length}
use Rattle.std.proofs.Common.{Option, Some, None, refl, subst, arith, Contains, ne_eqb, ltb-false}
use Rattle.std.proofs.lemmas.Bool.{eqb-false}
use Rattle.nofs_disk.specs.declared.tag.Pointer.{Pointer}
use Rattle.nofs_disk.specs.Pointer.{null}
use Rattle.nofs_history.specs.Search.{first_of}
use Rattle.nofs_history.specs.World.{World, is_free_inode, is_free_block, free_inodes, free_blocks, inodes_needed}
use Rattle.nofs_history.specs.World.{blocks_needed}
use Rattle.nofs_history.specs.Refusals.{row, full, rows}
use Rattle.nofs_history.specs.Claims.{claimed_blocks, Apart, Claimed, Unclaimed, IsBlockClaim, ClaimedInode, NoInode}
use Rattle.nofs_history.specs.Claims.{IsInodeClaim, next_stamp}
use Rattle.nofs_history.specs.declared.machine.history.Claims.{Claims}
use Rattle.nofs_history.specs.declared.machine.steps.Step.{Step}
use Rattle.nofs_history.specs.declared.machine.steps.Step.TheVariants as step
use Rattle.nofs_history.specs.declared.machine.replies.Refusal.{Refusal}
use Rattle.nofs_crashlaw.proofs.OnMaps.ClaimParts.{few, used-zero}
use Rattle.nofs_crashlaw.proofs.OnMaps.Choices.{pick, Falls, pick-falls, pick-length}

-- As many blocks as are needed can be claimed

pointer : ℕ → ℕ → Pointer
pointer block stamp = record { block = block; stamp = stamp }

abbrev pub claims : ℕ → ℕ → Pointer → Pointer → Pointer → Claims
claims i g cell leaf top = record { inode = i; generation = g; cell = cell; leaf = leaf; top = top }

module _ (W : World) (first : ℕ) where
  abbrev free : ℕ → Bool
  free p = is_free_block W p

  not-zero : (p : ℕ) → free p ≡ true → eqb p 0 ≡ false
  not-zero p f =
      ne_eqb p 0 (λ z. let u = used-zero W in let t : free 0 ≡ true = subst (λ (q : ℕ). free q ≡ true) z f in cc (u, t))

  pub record Blocks (i g n : ℕ) : Type 0 where
    pub cell : Pointer
    pub leaf : Pointer
    pub top : Pointer
    pub has_cell : IsBlockClaim W first cell (ltb 0 n)
    pub has_leaf : IsBlockClaim W (first + 1) leaf (ltb 1 n)
    pub has_top : IsBlockClaim W (first + 2) top (ltb 2 n)
    pub apart : Apart (claimed_blocks (claims i g cell leaf top))

  none : (y : Pointer) → Contains [] y → ⊥
  none y (k, lt, e) = omega (arith, lt)

  sole : (P : Pointer → Type 0) (x y : Pointer) → P x → Contains (x ∷ []) y → P y
  sole P x y px (zero, lt, e) = subst P e px
  sole P x y px (suc k, lt, e) = absurd (omega (arith, lt))

  both : (P : Pointer → Type 0) (x z y : Pointer) → P x → P z → Contains (x ∷ z ∷ []) y → P y
  both P x z y px pz (zero, lt, e) = subst P e px
  both P x z y px pz (suc k, lt, e) = sole P z y pz (k, omega (arith, lt), e)

  pub choose : (i g n : ℕ) (xs : List ℕ) → n ≤ 3 → length xs ≡ n → Falls free W.blocks xs → Blocks i g n
  choose i g zero [] le len f = record {
    cell = null;
    leaf = null;
    top = null;
    has_cell = Unclaimed refl;
    has_leaf = Unclaimed refl;
    has_top = Unclaimed refl;
    apart = tt;
  }
  choose i g (suc zero) (x ∷ []) le len f = record {
    cell = record { block = x; stamp = first };
    leaf = null;
    top = null;
    has_cell = Claimed f.1.0 f.0 refl;
    has_leaf = Unclaimed refl;
    has_top = Unclaimed refl;
    apart = rw (not-zero x f.1.0) ((λ y c. absurd (none y c)), tt);
  }
  choose i g (suc (suc zero)) (x ∷ y ∷ []) le len f = record {
    cell = record { block = x; stamp = first };
    leaf = record { block = y; stamp = first + 1 };
    top = null;
    has_cell = Claimed f.1.0 f.0 refl;
    has_leaf = Claimed f.1.1.1.0 (let a = f.0 in let b = f.1.1.0 in omega (arith, a, b)) refl;
    has_top = Unclaimed refl;
    apart = rw (not-zero x f.1.0, not-zero y f.1.1.1.0) (
      (λ q c. sole (λ (r : Pointer). x ≢ r.block) (record { block = y; stamp = first + 1 }) q
          (λ e. let b = f.1.1.0 in omega (arith, b, e)) c),
      ((λ q c. absurd (none q c)), tt),
    );
  }
  choose i g (suc (suc (suc zero))) (x ∷ y ∷ z ∷ []) le len f = record {
    cell = record { block = x; stamp = first };
    leaf = record { block = y; stamp = first + 1 };
    top = record { block = z; stamp = first + 2 };
    has_cell = Claimed f.1.0 f.0 refl;
    has_leaf = Claimed f.1.1.1.0 (let a = f.0 in let b = f.1.1.0 in omega (arith, a, b)) refl;
    has_top = Claimed f.1.1.1.1.1.0
        (let a = f.0 in let b = f.1.1.0 in let c = f.1.1.1.1.0 in omega (arith, a, b, c)) refl;
    apart = rw (not-zero x f.1.0, not-zero y f.1.1.1.0, not-zero z f.1.1.1.1.1.0) (
      (λ q c. both (λ (r : Pointer). x ≢ r.block) (record { block = y; stamp = first + 1 })
          (record { block = z; stamp = first + 2 }) q
          (λ e. let b = f.1.1.0 in omega (arith, b, e))
          (λ e. let b = f.1.1.0 in let d = f.1.1.1.1.0 in omega (arith, b, d, e)) c),
      (
        (λ q c. sole (λ (r : Pointer). y ≢ r.block) (record { block = z; stamp = first + 2 }) q
            (λ e. let d = f.1.1.1.1.0 in omega (arith, d, e)) c),
        ((λ q c. absurd (none q c)), tt),
      ),
    );
  }
  choose i g (suc (suc (suc (suc n)))) xs le len f = absurd (omega (arith, le))
  choose i g zero (x ∷ xs) le len f = absurd (omega (arith, len))
  choose i g (suc zero) [] le len f = absurd (omega (arith, len))
  choose i g (suc zero) (x ∷ y ∷ xs) le len f = absurd (omega (arith, len))
  choose i g (suc (suc zero)) [] le len f = absurd (omega (arith, len))
  choose i g (suc (suc zero)) (x ∷ []) le len f = absurd (omega (arith, len))
  choose i g (suc (suc zero)) (x ∷ y ∷ z ∷ xs) le len f = absurd (omega (arith, len))
  choose i g (suc (suc (suc zero))) [] le len f = absurd (omega (arith, len))
  choose i g (suc (suc (suc zero))) (x ∷ []) le len f = absurd (omega (arith, len))
  choose i g (suc (suc (suc zero))) (x ∷ y ∷ []) le len f = absurd (omega (arith, len))
  choose i g (suc (suc (suc zero))) (x ∷ y ∷ z ∷ w ∷ xs) le len f = absurd (omega (arith, len))

-- Where no row comes, there is enough

abbrev AllNone : List (Option Refusal) → Type 0
AllNone [] = Unit {0}
AllNone (o ∷ os) = (o ≡ None) × AllNone os

none-all : (os : List (Option Refusal)) → first_of os ≡ None → AllNone os
none-all [] e = tt
none-all (None ∷ os) e = (refl, none-all os e)
none-all (Some why ∷ os) e = absurd (cc e)

passed : (t : Bool) (why : Refusal) → row t why ≡ None → t ≡ false
passed true why e = absurd (cc e)
passed false why e = refl

enough : (W : World) (s : Step) → first_of (rows W W s) ≡ None → blocks_needed W.files s ≤ free_blocks W
enough W (step.Put i g k at bytes) e = ltb-false (free_blocks W) (blocks_needed W.files (step.Put i g k at bytes))
    (passed _ _ (none-all (rows W W (step.Put i g k at bytes)) e).1.1.1.1.1.1.0)
enough W (step.Make d g name kind) e = ltb-false (free_blocks W) (blocks_needed W.files (step.Make d g name kind))
    (passed _ _ (none-all (rows W W (step.Make d g name kind)) e).1.1.1.1.1.1.0)
enough W (step.Link d g name i of) e = ltb-false (free_blocks W) (blocks_needed W.files (step.Link d g name i of))
    (passed _ _ (none-all (rows W W (step.Link d g name i of)) e).1.1.1.1.1.1.1.1.0)
enough W _ e = omega arith

module _ (W : World) (s : Step) (none : first_of (rows W W s) ≡ None) where
  abbrev n : ℕ
  n = blocks_needed W.files s

  abbrev first : ℕ
  first = next_stamp W + inodes_needed s

  -- an inode for those steps that need one
  pub record Inode : Type 0 where
    pub i : ℕ
    pub g : ℕ
    pub has : (cell leaf top : Pointer)
        → IsInodeClaim W (next_stamp W) (claims i g cell leaf top) (ltb 0 (inodes_needed s))

  some-inode : (xs : List ℕ) → length xs ≡ 1 → Falls (λ m. is_free_inode W (suc m)) W.inodes xs
      → (i : ℕ) × ((is_free_inode W i ≡ true) × ((1 ≤ i) × (i ≤ W.inodes)))
  some-inode (x ∷ []) len f = (suc x, (f.1.0, (omega arith, let l = f.0 in omega (arith, l))))
  some-inode [] len f = absurd (omega (arith, len))
  some-inode (x ∷ y ∷ xs) len f = absurd (omega (arith, len))

  pub blocks : (i g : ℕ) → Blocks W first i g n
  blocks i g =
      let some : n ≤ free_blocks W = enough W s none in
      choose W first i g n (pick (λ p. is_free_block W p) W.blocks n) (few W.files s)
      (pick-length (λ p. is_free_block W p) W.blocks n some)
      (pick-falls (λ p. is_free_block W p) W.blocks n)

pub inode-for : (W : World) (s : Step) (none : first_of (rows W W s) ≡ None) → Inode W s none
inode-for W (step.Make d g name kind) none =
    let t : eqb (free_inodes W) 0 ≡ false =
    passed _ _ (none-all (rows W W (step.Make d g name kind)) none).1.1.1.1.1.0 in
    let ne : free_inodes W ≢ 0 = eqb-false (free_inodes W) 0 t in
    let some : 1 ≤ free_inodes W = omega (arith, ne) in
    let test : ℕ → Bool = λ m. is_free_inode W (suc m) in
    let x = some-inode W (step.Make d g name kind) none (pick test W.inodes 1) (pick-length test W.inodes 1 some)
    (pick-falls test W.inodes 1) in
    record { i = x.0; g = next_stamp W; has = λ cell leaf top. ClaimedInode x.1.0 x.1.1.0 x.1.1.1 refl }
inode-for W _ none = record { i = 0; g = 0; has = λ cell leaf top. NoInode refl refl }

-- Whether a row comes does not hang on the world after

row-none : (t : Bool) (why other : Refusal) → row t why ≡ None → row t other ≡ None
row-none true why other e = absurd (cc e)
row-none false why other e = refl

all-first : (os : List (Option Refusal)) → AllNone os → first_of os ≡ None
all-first [] a = refl
all-first (None ∷ os) a = all-first os a.1
all-first (Some why ∷ os) a = absurd (cc a.0)

pub none-later : (W U V : World) (s : Step) → first_of (rows W U s) ≡ None → first_of (rows W V s) ≡ None
none-later W U V s e = all-first (rows W V s) (go s (none-all (rows W U s) e))
  where
    spare : (s : Step) → full W U s ≡ None → full W V s ≡ None
    spare s e = row-none (ltb (free_blocks W) (blocks_needed W.files s)) _ _ e

    go : (s : Step) → AllNone (rows W U s) → AllNone (rows W V s)
    go (step.Make d g name kind) (a, (b, (c, (d1, (e, (f, (h, r))))))) =
        (a, (b, (c, (d1, (e, (row-none (eqb (free_inodes W) 0) _ _ f, (spare (step.Make d g name kind) h, r)))))))
    go (step.Link d g name i of) (a, (b, (c, (d1, (e, (f, (h, (k, (l, r))))))))) =
        (a, (b, (c, (d1, (e, (f, (h, (k, (spare (step.Link d g name i of) l, r)))))))))
    go (step.Put i g k at bytes) (a, (b, (c, (d, (e, (f, (h, r))))))) =
        (a, (b, (c, (d, (e, (f, (spare (step.Put i g k at bytes) h, r)))))))
    go (step.Look d g name) a = a
    go (step.Drop d g name) a = a
    go (step.Rename d g old new) a = a
    go (step.List d g k) a = a
    go (step.Get i g k) a = a
    go (step.Resize i g size) a = a
    go (step.Stat i g) a = a
    go (step.Flush i g) a = a
    go (step.SeeInode i) a = a
    go (step.SeeBlock p) a = a

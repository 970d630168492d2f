-- What a claim's parts say together: how many blocks it has, that each is free, and its stamps.
use Rattle.std.proofs.Common.{◌≡◌, ◌≢◌, ℕ, zero, suc, ◌+◌, ◌-◌, ◌*◌, ◌/◌, ◌%◌, ◌^◌, ◌<◌, ◌≤◌, Bool, true, false, cond}
use Rattle.std.proofs.Common.{eqb, ltb, ◌&&◌, not, List, [], ◌∷◌}
use Rattle.std.proofs.Common.{◌++◌, length, Option, Some, None, refl, sym, ap, ◌∙◌, subst, arith, Contains, inl, inr}
use Rattle.std.proofs.Common.{get_or, eqb-true}
use Rattle.std.proofs.lemmas.Bool.{le-leb}
use Rattle.std.proofs.lemmas.List.Elements.{Contains-append_cases}
use Rattle.nofs_disk.specs.declared.tag.Pointer.{Pointer}
use Rattle.nofs_disk.specs.Pointer.{null}
use Rattle.nofs_ptrs.specs.Paths.{slot_limit, Path, InRecord, Under, path_of}
use Rattle.nofs_model.specs.Files.{NodeState, Absent, Present, Damaged, Files}
use Rattle.nofs_history.specs.Meta.{is_bytes}
use Rattle.nofs_history.specs.Machine.{value_of, node_of, place_for}
use Rattle.nofs_history.specs.World.{World, is_free_block, is_free_inode, absent_above, blocks_for, blocks_at}
use Rattle.nofs_history.specs.World.{blocks_needed, inodes_needed}
use Rattle.nofs_history.specs.Claims.{is_claimed, claimed_blocks, Claimed, Unclaimed, IsBlockClaim, ClaimedInode}
use Rattle.nofs_history.specs.Claims.{NoInode, IsInodeClaim, next_stamp, IsClaim}
use Rattle.nofs_history.specs.declared.machine.history.Claims.{Claims}
use Rattle.nofs_history.specs.declared.machine.steps.Step.{Step}
use Rattle.nofs_history.specs.declared.machine.steps.Step.TheVariants as step

-- the stamps from this one on, one after the other
abbrev pub CountsUp : ℕ → List Pointer → Type 0
CountsUp s [] = Unit {0}
CountsUp s (x ∷ xs) = (x.stamp ≡ s) × CountsUp (suc s) xs

-- No step needs more than three blocks

abbrev one-of : NodeState → ℕ
one-of state = elim state [ Absent ↦ 1 | Present ↦ 0 | Damaged ↦ 0 ]

one-at-most : (state : NodeState) → one-of state ≤ 1
one-at-most Absent = omega arith
one-at-most Present = omega arith
one-at-most Damaged = omega arith

two-above : (F : Files) (i k : ℕ) → absent_above F i (path_of k) ≤ 2
unfolding path_of
two-above F i k = go (ltb k 8) (ltb k 72) (ltb k slot_limit) (ltb k (2 ^ 32 + 2))
  where
    under : (above : Path) (n : ℕ) → absent_above F i above ≤ 1 → absent_above F i (Under above n) ≤ 2
    under above n le = let one = one-at-most (node_of F i above) in omega (arith, le, one)

    one-under : (n j : ℕ) → absent_above F i (Under (InRecord n) j) ≤ 1
    one-under n j = let one = one-at-most (node_of F i (InRecord n)) in omega (arith, one)

    go : (a b c d : Bool) → absent_above F i (cond a (InRecord k)
        (cond b (Under (InRecord 8) (k - 8)) (cond c (Under (Under (InRecord 9) ((k - 72) / 64)) ((k - 72) % 64))
        (cond d (InRecord (8 + (k - 2 ^ 32))) (Under (InRecord 9) (k - (2 ^ 32 + 2))))))) ≤ 2
    go true b c d = omega arith
    go false true c d = under (InRecord 8) (k - 8) (omega arith)
    go false false true d = under (Under (InRecord 9) ((k - 72) / 64)) ((k - 72) % 64) (one-under 9 ((k - 72) / 64))
    go false false false true = omega arith
    go false false false false = under (InRecord 9) (k - (2 ^ 32 + 2)) (omega arith)

few-for : (F : Files) (i k : ℕ) → blocks_for F i k ≤ 3
few-for F i k = go (is_bytes (value_of F i k))
  where
    go : (b : Bool) → cond b 0 (1 + absent_above F i (path_of k)) ≤ 3
    go true = omega arith
    go false = let two = two-above F i k in omega (arith, two)

pub few : (F : Files) (s : Step) → blocks_needed F s ≤ 3
few F (step.Put i g k at bytes) = few-for F i k
few F (step.Make d g name kind) = few-at (place_for F d name)
  where
    few-at : (o : Option ℕ) → blocks_at F d o ≤ 3
    few-at None = omega arith
    few-at (Some e) = few-for F d (e / 16)
few F (step.Link d g name i of) = few-at (place_for F d name)
  where
    few-at : (o : Option ℕ) → blocks_at F d o ≤ 3
    few-at None = omega arith
    few-at (Some e) = few-for F d (e / 16)
few F _ = omega arith

-- Each part

not-null : (x : Pointer) → x ≡ null → is_claimed x ≡ false
not-null x e = ap is_claimed e

pub used-zero : (W : World) → is_free_block W 0 ≡ false
used-zero W = rw (le-leb 0 (W.inodes / 4) (omega arith)) (go (W.known_blocks 0))
  where
    go : (k : Bool) → (k && false) ≡ false
    go true = refl
    go false = refl

pub part : (W : World) (s : ℕ) (x : Pointer) (wanted : Bool) → IsBlockClaim W s x wanted → is_claimed x ≡ wanted
part W s x true (Claimed free range stamp) = go (eqb x.block 0) refl
  where
    go : (b : Bool) → eqb x.block 0 ≡ b → not b ≡ true
    go false e = refl
    go true e = let z = subst (λ (p : ℕ). is_free_block W p ≡ true) (eqb-true x.block 0 e) free in
        let u = used-zero W in absurd (cc (z, u))
part W s x false (Unclaimed e) = not-null x e

module _ (W : World) (s : Step) (c : Claims) (claim : IsClaim W s c) where
  abbrev n : ℕ
  n = blocks_needed W.files s

  abbrev first : ℕ
  first = next_stamp W + inodes_needed s

  -- the parts that are there
  abbrev blocks : Bool → Bool → Bool → List Pointer
  blocks x y z = cond x (c.cell ∷ []) [] ++ cond y (c.leaf ∷ []) [] ++ cond z (c.top ∷ []) []

  listed : claimed_blocks c ≡ blocks (ltb 0 n) (ltb 1 n) (ltb 2 n)
  listed =
      ap (λ (b : Bool). blocks b (is_claimed c.leaf) (is_claimed c.top)) (part W first c.cell (ltb 0 n) claim.cell)
      ∙ ap (λ (b : Bool). blocks (ltb 0 n) b (is_claimed c.top)) (part W (first + 1) c.leaf (ltb 1 n) claim.leaf)
      ∙ ap (λ (b : Bool). blocks (ltb 0 n) (ltb 1 n) b) (part W (first + 2) c.top (ltb 2 n) claim.top)

  by-number : (m : ℕ) → m ≤ 3 → length (blocks (ltb 0 m) (ltb 1 m) (ltb 2 m)) ≡ m
  by-number zero le = refl
  by-number (suc zero) le = refl
  by-number (suc (suc zero)) le = refl
  by-number (suc (suc (suc zero))) le = refl
  by-number (suc (suc (suc (suc m)))) le = absurd (omega (arith, le))

  -- as many blocks are claimed as are needed
  pub claim-count : length (claimed_blocks c) ≡ blocks_needed W.files s
  claim-count = ap length listed ∙ by-number n (few W.files s)

  -- each with the next stamp
  pub claim-stamps : CountsUp (next_stamp W + inodes_needed s) (claimed_blocks c)
  claim-stamps = subst (λ (xs : List Pointer). CountsUp first xs) (sym listed)
      (go n (few W.files s) claim.cell claim.leaf claim.top)
    where
      stamped : (t : ℕ) (x : Pointer) → IsBlockClaim W t x true → x.stamp ≡ t
      stamped t x (Claimed free range stamp) = stamp

      go : (m : ℕ) → m ≤ 3 → IsBlockClaim W first c.cell (ltb 0 m) → IsBlockClaim W (first + 1) c.leaf (ltb 1 m)
          → IsBlockClaim W (first + 2) c.top (ltb 2 m)
          → CountsUp first (blocks (ltb 0 m) (ltb 1 m) (ltb 2 m))
      go zero le x y z = tt
      go (suc zero) le x y z = (stamped first c.cell x, tt)
      go (suc (suc zero)) le x y z = let b = stamped (first + 1) c.leaf y in
          (stamped first c.cell x, (omega (arith, b), tt))
      go (suc (suc (suc zero))) le x y z = let b = stamped (first + 1) c.leaf y in let t =
          stamped (first + 2) c.top z in (stamped first c.cell x, (omega (arith, b), (omega (arith, t), tt)))
      go (suc (suc (suc (suc m)))) le x y z = absurd (omega (arith, le))

  -- and each known and free
  pub claim-free : (x : Pointer) → Contains (claimed_blocks c) x
      → (is_free_block W x.block ≡ true) × (x.block < W.blocks)
  claim-free x h = from (subst (λ (xs : List Pointer). Contains xs x) listed h)
    where
      Free : Pointer → Type 0
      Free y = (is_free_block W y.block ≡ true) × (y.block < W.blocks)

      sole : (y : Pointer) → Free y → Contains (y ∷ []) x → Free x
      sole y f (k, lt, e) = subst Free (only k lt e) f
        where
          only : (k : ℕ) → k < 1 → get_or (y ∷ []) k x ≡ x → y ≡ x
          only zero lt e = e
          only (suc k) lt e = absurd (omega (arith, lt))

      none : Contains [] x → Free x
      none (k, lt, e) = absurd (omega (arith, lt))

      part-free : (t : ℕ) (y : Pointer) (wanted : Bool) → IsBlockClaim W t y wanted
          → Contains (cond wanted (y ∷ []) []) x → Free x
      part-free t y true (Claimed free range stamp) h = sole y (free, range) h
      part-free t y false p h = none h

      from : Contains (blocks (ltb 0 n) (ltb 1 n) (ltb 2 n)) x → Free x
      from h = elim (Contains-append_cases (cond (ltb 0 n) (c.cell ∷ []) [] ++ cond (ltb 1 n) (c.leaf ∷ []) [])
          (cond (ltb 2 n) (c.top ∷ []) []) x h) [
            | inr t ↦ part-free (first + 2) c.top (ltb 2 n) claim.top t
            | inl r ↦
                elim (Contains-append_cases (cond (ltb 0 n) (c.cell ∷ []) []) (cond (ltb 1 n) (c.leaf ∷ []) []) x r) [
                  | inl a ↦ part-free first c.cell (ltb 0 n) claim.cell a
                  | inr b ↦ part-free (first + 1) c.leaf (ltb 1 n) claim.leaf b
                ]
          ]

  -- an inode is claimed where one is needed: known and free, with the next generation
  pub claim-inode : c.inode ≢ 0 → (is_free_inode W c.inode ≡ true) × (c.inode ≤ W.inodes)
      × (c.generation ≡ W.mount * 2 ^ 40 + W.serial) × (inodes_needed s ≡ 1)
  claim-inode ne = go s (ltb 0 (inodes_needed s)) refl claim.inode
    where
      one : (s : Step) → ltb 0 (inodes_needed s) ≡ true → inodes_needed s ≡ 1
      one (step.Make d g name kind) e = refl
      one _ e = cc e

      go : (s : Step) (wanted : Bool) → ltb 0 (inodes_needed s) ≡ wanted → IsInodeClaim W (next_stamp W) c wanted
          → (is_free_inode W c.inode ≡ true) × (c.inode ≤ W.inodes) × (c.generation ≡ W.mount * 2 ^ 40 + W.serial)
          × (inodes_needed s ≡ 1)
      go s true e (ClaimedInode free some range is) = (free, range, is, one s e)
      go s false e (NoInode none zero_too) = absurd (ne none)

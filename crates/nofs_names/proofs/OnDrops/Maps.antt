-- What the maps say after an inode and its blocks were freed.
use Rattle.std.proofs.Common.{◌≡◌, ◌≢◌, ℕ, ◌-◌, ◌<◌, ◌≤◌, ◌⊎◌, inl, inr, Bool, true, false, leb, ltb, eqb, eq-eqb}
use Rattle.std.proofs.Common.{lt-ltb, ◌&&◌, ◌||◌, not, List, length, refl}
use Rattle.std.proofs.Common.{sym, ap, ◌∙◌, arith, Option, None, Some, subst}
use Rattle.nofs_agree.proofs.OnKnown.{told-other, told-set}
use Rattle.nofs_agree.specs.Chain.{known_agreement}
use Rattle.std.specs.Prelude.{slice_set}
use Rattle.std.proofs.lemmas.Bool.{cases_lt, cases_eq, ne_eqb}
use Rattle.std.proofs.Math.Bool.{or-false, or-true}
use Rattle.std.proofs.lemmas.Bool.Decides.{nat_tests}
use Rattle.nofs_bits.specs.Bits.{is_set}
use Rattle.nofs_state.specs.Books.Maps.{knows_inode, knows_block}
use Rattle.nofs_state.specs.declared.books.maps.Books.{Books}
use Rattle.nofs_state.proofs.OnBooks.Bits.{set-here, set-other}
use Rattle.nofs_names.specs.Drops.Removal.{FreedAs}
use Rattle.nofs_names.proofs.OnDrops.Freed.{Freed}

high-none : (q n : ℕ) → n ≤ q → ltb q n ≡ false
high-none q n h = grind (arith, nat_tests)

known-bit : (u f : Bool) → not (u && not f) ≡ (not u || f)
known-bit true true = refl
known-bit true false = refl
known-bit false true = refl
known-bit false false = refl

module _ (k l : Books) (i : ℕ) (freed : List Bool) (owned : ℕ → Bool) (sizes : (length k.unknown_inodes ≡ k.at.inodes) ×
    (length k.free_inodes ≡ k.at.inodes)) (above : 1 ≤ i) (below : i ≤ k.at.inodes)
    (a : FreedAs k l i freed) (same : (q : ℕ) → q < k.at.blocks → is_set freed q ≡ owned q)
    (beyond : (q : ℕ) → k.at.blocks ≤ q → owned q ≡ false) where
  place : i - 1 < k.at.inodes
  place = omega (arith, above, below)

  -- a bit of the map of inodes
  bit-here : (bits : List Bool) (v : Bool) → length bits ≡ k.at.inodes → is_set (slice_set bits (i - 1) v) (i - 1) ≡ v
  bit-here bits v e = set-here bits (i - 1) v (let p = place in omega (arith, e, p))

  bit-other : (bits : List Bool) (v : Bool) (j : ℕ)
      → 1 ≤ j → j ≢ i → is_set (slice_set bits (i - 1) v) (j - 1) ≡ is_set bits (j - 1)
  bit-other bits v j one ne = set-other bits (i - 1) (j - 1) v (λ e. ne (omega (arith, e, one, above)))

  known-inode : (j : ℕ) → knows_inode l j ≡ (knows_inode k j || eqb j i)
  known-inode j = (λ z. leb 1 j && (leb j (a.at z).inodes && not (is_set (a.unknown_inodes z) (j - 1))))
      ∙ go (cases_eq j i) (cases_lt j 1)
    where
      go : (j ≡ i) ⊎ (j ≢ i) → (j < 1) ⊎ (1 ≤ j)
          → (leb 1 j && (leb j k.at.inodes && not (is_set (slice_set k.unknown_inodes (i - 1) false) (j - 1))))
          ≡ (knows_inode k j || eqb j i)
      go (inl here) low =
          let b : is_set (slice_set k.unknown_inodes (i - 1) false) (j - 1) ≡ false =
          ap (λ (n : ℕ). is_set (slice_set k.unknown_inodes (i - 1) false) (n - 1)) here
          ∙ bit-here k.unknown_inodes false sizes.0 in
          let t : eqb j i ≡ true = eq-eqb j i here in
          let one : leb 1 j ≡ true = ap (leb 1) here ∙ first in
          let most : leb j k.at.inodes ≡ true = ap (λ (n : ℕ). leb n k.at.inodes) here ∙ last in
          (λ z. one z && (most z && not (b z))) ∙ sym ((λ z. knows_inode k j || t z) ∙ or-true (knows_inode k j))
        where
          first : leb 1 i ≡ true
          first = grind (arith, nat_tests)

          last : leb i k.at.inodes ≡ true
          last = le-is i k.at.inodes below
            where
              le-is : (x y : ℕ) → x ≤ y → leb x y ≡ true
              le-is x y h = grind (arith, nat_tests)
      go (inr other) (inl zero) =
          let n : leb 1 j ≡ false = none j zero in
          let t : eqb j i ≡ false = ne_eqb j i other in
          (λ z. n z && (leb j k.at.inodes && not (is_set (slice_set k.unknown_inodes (i - 1) false) (j - 1))))
          ∙ sym ((λ z. (n z && (leb j k.at.inodes && not (is_set k.unknown_inodes (j - 1)))) || t z))
        where
          none : (j : ℕ) → j < 1 → leb 1 j ≡ false
          none j h = grind (arith, nat_tests)
      go (inr other) (inr one) =
          let b = bit-other k.unknown_inodes false j one other in
          let t : eqb j i ≡ false = ne_eqb j i other in
          (λ z. leb 1 j && (leb j k.at.inodes && not (b z)))
          ∙ sym ((λ z. knows_inode k j || t z) ∙ or-false (knows_inode k j))

  known-block : (q : ℕ) → knows_block l q ≡ (knows_block k q || owned q)
  known-block q = (λ z. ltb q (a.at z).blocks && not (is_set l.unknown_blocks q)) ∙ go (cases_lt q k.at.blocks)
    where
      go : (q < k.at.blocks) ⊎ (k.at.blocks ≤ q)
          → (ltb q k.at.blocks && not (is_set l.unknown_blocks q)) ≡ (knows_block k q || owned q)
      go (inl low) =
          let t = lt-ltb q k.at.blocks low in
          (λ z. t z && not ((a.blocks.knowing q low ∙ (λ j. is_set k.unknown_blocks q && not (same q low j))) z))
          ∙ known-bit (is_set k.unknown_blocks q) (owned q)
          ∙ sym (λ z. (t z && not (is_set k.unknown_blocks q)) || owned q)
      go (inr high) =
          let t = high-none q k.at.blocks high in
          let o = beyond q high in
          (λ z. t z && not (is_set l.unknown_blocks q)) ∙ sym (λ z. (t z && not (is_set k.unknown_blocks q)) || o z)

  pub freed-from : Freed k l i owned
  freed-from = record {
    at = a.at;
    serial = a.serial;
    stopped = a.stopped;
    known_inodes = known-inode;
    known_blocks = known-block;
    free_inodes = λ j one most. ap (λ (bits : List Bool). is_set bits (j - 1)) a.free_inodes ∙ (elim (cases_eq j i) [
      | inl here ↦ ap (λ (n : ℕ). is_set (slice_set k.free_inodes (i - 1) true) (n - 1)) here
          ∙ bit-here k.free_inodes true sizes.1
          ∙ sym ((λ z. is_set k.free_inodes (j - 1) || eq-eqb j i here z) ∙ or-true (is_set k.free_inodes (j - 1)))
      | inr other ↦ bit-other k.free_inodes true j one other
          ∙ sym ((λ z. is_set k.free_inodes (j - 1) || ne_eqb j i other z) ∙ or-false (is_set k.free_inodes (j - 1)))
    ]);
    free_blocks = λ q low. a.blocks.freeing q low ∙ (λ z. is_set k.free_blocks q || same q low z);
    agreement = λ j v t. elim (cases_eq j i) [
      | inl here ↦
          let set : known_agreement (slice_set k.agreement (i - 1) None) j ≡ Some v =
          sym (ap (λ (known : List (Option Bool)). known_agreement known j) a.agreement) ∙ t in
          absurd (cc (told-set k.agreement i None v above
          (subst (λ (n : ℕ). known_agreement (slice_set k.agreement (i - 1) None) n ≡ Some v) here set)))
      | inr other ↦ (
        other,
        sym (ap (λ (known : List (Option Bool)). known_agreement known j) a.agreement
            ∙ told-other k.agreement i j None above other) ∙ t,
      )
    ];
  }

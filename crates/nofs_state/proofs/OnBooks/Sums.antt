-- The counts of used, free and unknown elements.
use Rattle.std.proofs.Common.{◌≡◌, ℕ, zero, suc, ◌+◌, ◌-◌, ◌<◌, min, Bool, true, false, cond, not, ◌&&◌, leb, ltb}
use Rattle.std.proofs.Common.{lt-ltb, List, length, refl, sym, ap, ◌∙◌, arith}
use Rattle.std.proofs.Common.{le-leb}
use Rattle.nofs_bits.specs.Bits.{count_set, is_set}
use Rattle.nofs_history.specs.Search.{count_below}
use Rattle.nofs_history.specs.World.{World, free_blocks, free_inodes, is_free_block, is_free_inode, unverified_blocks}
use Rattle.nofs_history.specs.World.{unverified_inodes, uses_block}
use Rattle.nofs_history.specs.World.{uses_inode}
use Rattle.nofs_state.specs.Books.Maps.{Says, knows_block, knows_inode}
use Rattle.nofs_state.specs.Books.Counts.{used_blocks, used_inodes}
use Rattle.nofs_state.specs.declared.books.maps.Books.{Books}
use Rattle.nofs_state.proofs.OnBooks.Counts.{count-is, count-same}

-- each element is used, free or unknown
each-way : (known uses : Bool) (a b c n : ℕ) → a + b + c ≡ n
    → cond (known && uses) (1 + a) a + cond (known && not uses) (1 + b) b + cond (not known) (1 + c) c ≡ 1 + n
each-way true true a b c n e = omega (arith, e)
each-way true false a b c n e = omega (arith, e)
each-way false true a b c n e = omega (arith, e)
each-way false false a b c n e = omega (arith, e)

pub three-ways : (known uses : ℕ → Bool) (n : ℕ)
    → count_below (λ m. known m && uses m) n + count_below (λ m. known m && not (uses m)) n + count_below
    (λ m. not (known m)) n ≡ n
unfolding count_below
three-ways known uses zero = refl
three-ways known uses (suc n) =
    let q = each-way (known n) (uses n) (count_below (λ m. known m && uses m) n)
    (count_below (λ m. known m && not (uses m)) n)
    (count_below (λ m. not (known m)) n) n (three-ways known uses n) in
    let s : 1 + n ≡ suc n = omega arith in
    q ∙ s

pub all-blocks : (W : World) → used_blocks W + free_blocks W + unverified_blocks W ≡ W.blocks
all-blocks W = three-ways (λ p. W.known_blocks p) (λ p. uses_block W p) W.blocks

pub all-inodes : (W : World) → used_inodes W + free_inodes W + unverified_inodes W ≡ W.inodes
all-inodes W = three-ways (λ n. W.known_inodes (suc n)) (λ n. uses_inode W (suc n)) W.inodes

-- so many places of a map are set as there are elements of which the machine says so
counted : (bits : List Bool) (P : ℕ → Bool) (n all : ℕ) → length bits ≡ n → all ≡ n
    → ((m : ℕ) → m < n → is_set bits m ≡ P m) → count_set bits ≡ count_below P all
counted bits P n all len whole same = count-is bits
    ∙ count-same (λ m. is_set bits m) P (length bits) (λ m lt. same m (omega (arith, lt, len)))
    ∙ ap (count_below P) (len ∙ sym whole)

twice : (b : Bool) → not (not b) ≡ b
twice true = refl
twice false = refl

-- the counts of the maps
module _ (k : Books) (W : World) (says : Says k W) where
  pub free-inodes-count : length k.free_inodes ≡ k.at.inodes → count_set k.free_inodes ≡ free_inodes W
  free-inodes-count len =
      counted k.free_inodes (λ n. is_free_inode W (suc n)) k.at.inodes W.inodes len says.inodes
      (λ m lt. let s : suc m - 1 ≡ m = omega arith in
      ap (is_set k.free_inodes) (sym s) ∙ says.free_inodes (suc m) (omega arith) (omega (arith, lt)))

  unknown-inode : (n : ℕ) → n < k.at.inodes → is_set k.unknown_inodes n ≡ not (W.known_inodes (suc n))
  unknown-inode n lt =
      let a : leb 1 (suc n) ≡ true = le-leb 1 (suc n) (omega arith) in
      let t : leb (suc n) k.at.inodes ≡ true = le-leb (suc n) k.at.inodes (omega (arith, lt)) in
      let s : suc n - 1 ≡ n = omega arith in
      let q : knows_inode k (suc n) ≡ not (is_set k.unknown_inodes (suc n - 1)) = rw (a, t) refl in
      sym (ap not (says.known_inodes (suc n) ∙ q) ∙ twice (is_set k.unknown_inodes (suc n - 1))
      ∙ ap (is_set k.unknown_inodes) s)

  pub unknown-inodes-count : length k.unknown_inodes ≡ k.at.inodes → count_set k.unknown_inodes ≡ unverified_inodes W
  unknown-inodes-count len =
      counted k.unknown_inodes (λ n. not (W.known_inodes (suc n))) k.at.inodes W.inodes len says.inodes unknown-inode

  pub free-blocks-count : length k.free_blocks ≡ k.at.blocks → count_set k.free_blocks ≡ free_blocks W
  free-blocks-count len =
      counted k.free_blocks (λ q. is_free_block W q) k.at.blocks W.blocks len says.blocks says.free_blocks

  unknown-block : (q : ℕ) → q < k.at.blocks → is_set k.unknown_blocks q ≡ not (W.known_blocks q)
  unknown-block q lt =
      let t : ltb q k.at.blocks ≡ true = lt-ltb q k.at.blocks lt in
      let n : knows_block k q ≡ not (is_set k.unknown_blocks q) = rw t refl in
      sym (ap not (says.known_blocks q ∙ n) ∙ twice (is_set k.unknown_blocks q))

  pub unknown-blocks-count : length k.unknown_blocks ≡ k.at.blocks → count_set k.unknown_blocks ≡ unverified_blocks W
  unknown-blocks-count len =
      counted k.unknown_blocks (λ q. not (W.known_blocks q)) k.at.blocks W.blocks len says.blocks unknown-block

-- the three numbers that are kept are those of the machine, where they are so many together
pub split-is : (all used free unchecked u f n : ℕ) → u + f + n ≡ all → unchecked ≡ n → free ≡ min f (all - n)
    → used + free + unchecked ≡ all
    → (used ≡ u) × (free ≡ f) × (unchecked ≡ n)
split-is all used free unchecked u f n whole en ef sum =
    (omega (arith, whole, en, ef, sum), omega (arith, whole, en, ef, sum), en)

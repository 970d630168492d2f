-- Blocks that move from the unknown ones to the free ones.
use Rattle.std.proofs.Common.{◌≡◌, ℕ, zero, suc, ◌+◌, ◌<◌, ◌≤◌, inl, inr, Bool, true, false, ◌&&◌, ◌||◌, not, List, []}
use Rattle.std.proofs.Common.{◌∷◌, ◌++◌, length, replicate}
use Rattle.std.proofs.Common.{slice_index_or, take, refl, sym, ap, ◌∙◌, subst, arith}
use Rattle.std.specs.Prelude.{slice_set}
use Rattle.std.specs.List.{All}
use Rattle.std.proofs.Math.Seq.{take-suc}
use Rattle.std.proofs.lemmas.List.{length-replicate}
use Rattle.std.proofs.lemmas.List.Elements.{All-append}
use Rattle.std.proofs.lemmas.Bool.{cases_eq}
use Rattle.nofs_bits.specs.Bits.{is_set}
use Rattle.nofs_state.specs.Inodes.Blocks.{AreFreed, BlocksFreed, with_all}
use Rattle.nofs_state.specs.Books.Verdicts.{learned_block}
use Rattle.nofs_state.specs.declared.books.maps.Books.{Books}
use Rattle.nofs_state.proofs.OnBooks.Bits.{and-false, and-true, set-here, set-none, set-other, set-length}

-- a block at the end is set last
pub with-last : (bits : List Bool) (bs : List ℕ) (b : ℕ)
    → with_all bits (bs ++ b ∷ []) ≡ slice_set (with_all bits bs) b true
with-last bits [] b = refl
with-last bits (x ∷ bs) b = with-last (slice_set bits x true) bs b

pub with-length : (bits : List Bool) (bs : List ℕ) → length (with_all bits bs) ≡ length bits
with-length bits [] = refl
with-length bits (x ∷ bs) = with-length (slice_set bits x true) bs ∙ set-length bits x true

or-false : (b : Bool) → b ≡ (b || false)
or-false true = refl
or-false false = refl

or-true : (b : Bool) → true ≡ (b || true)
or-true true = refl
or-true false = refl

-- a place below this bound is one of a map that kept its size
pub in-map : {n a b c d : ℕ} → n < a → a ≡ b → c ≡ d → d ≡ b → n < c
in-map low size now old = omega (arith, low, size, now, old)

-- nothing is freed
pub freed-begins : (k : Books) (n : ℕ) → BlocksFreed k k (replicate n false)
freed-begins k n = record {
  same = refl;
  blocks = record {
    free_size = refl;
    unknown_size = refl;
    freeing = λ q low. or-false (is_set k.free_blocks q) ∙ (λ j. is_set k.free_blocks q || sym (set-none n q) j);
    knowing = λ q low. and-true (is_set k.unknown_blocks q)
        ∙ (λ j. is_set k.unknown_blocks q && not (sym (set-none n q) j));
    free_rest = λ q high. refl;
    unknown_rest = λ q high. refl;
  };
}

-- one more block
module _ (freed free unknown f u : List Bool) (bound n : ℕ) (a : AreFreed freed bound free unknown f u)
    (low : n < bound)
    (size : length freed ≡ bound) (sf : length free ≡ bound) (su : length unknown ≡ bound) where
  in-free : n < length f
  in-free = let e = a.free_size in omega (arith, e, sf, low)

  in-unknown : n < length u
  in-unknown = let e = a.unknown_size in omega (arith, e, su, low)

  in-freed : n < length freed
  in-freed = omega (arith, size, low)

  frees : (q : ℕ) → q < bound → is_set (slice_set f n true) q ≡ (is_set free q || is_set (slice_set freed n true) q)
  frees q h = elim (cases_eq q n) [
    | inl here ↦ ap (is_set (slice_set f n true)) here ∙ set-here f n true in-free ∙ or-true (is_set free q) ∙
        (λ j. is_set free q || sym (ap (is_set (slice_set freed n true)) here ∙ set-here freed n true in-freed) j)
    | inr other ↦ set-other f n q true other ∙ a.freeing q h
        ∙ (λ j. is_set free q || sym (set-other freed n q true other) j)
  ]

  knows : (q : ℕ)
      → q < bound → is_set (slice_set u n false) q ≡ (is_set unknown q && not (is_set (slice_set freed n true) q))
  knows q h = elim (cases_eq q n) [
    | inl here ↦ ap (is_set (slice_set u n false)) here ∙ set-here u n false in-unknown ∙ and-false (is_set unknown q) ∙
        (λ j. is_set unknown q
        && not (sym (ap (is_set (slice_set freed n true)) here ∙ set-here freed n true in-freed) j))
    | inr other ↦ set-other u n q false other ∙ a.knowing q h
        ∙ (λ j. is_set unknown q && not (sym (set-other freed n q true other) j))
  ]

  pub are-freed-more : AreFreed (slice_set freed n true) bound free unknown (slice_set f n true) (slice_set u n false)
  are-freed-more = record {
    free_size = set-length f n true ∙ a.free_size;
    unknown_size = set-length u n false ∙ a.unknown_size;
    freeing = frees;
    knowing = knows;
    free_rest = λ q h. set-other f n q true (λ s. omega (arith, s, h, low)) ∙ a.free_rest q h;
    unknown_rest = λ q h. set-other u n q false (λ s. omega (arith, s, h, low)) ∙ a.unknown_rest q h;
  }

pub freed-goes : (k l m : Books) (freed : List Bool) (n : ℕ) → BlocksFreed k l freed
    → n < k.at.blocks → length freed ≡ k.at.blocks
    → length k.free_blocks ≡ k.at.blocks → length k.unknown_blocks ≡ k.at.blocks → m ≡ learned_block l n false
    → BlocksFreed k m (slice_set freed n true)
freed-goes k l m freed n b low size sf su e =
    subst (λ (z : Books). BlocksFreed k z (slice_set freed n true)) (sym e) (record {
      same = ap (λ (z : Books). learned_block z n false) b.same;
      blocks = are-freed-more freed k.free_blocks k.unknown_blocks l.free_blocks l.unknown_blocks k.at.blocks n
          b.blocks low size sf su;
    })

-- all lie below a bound, and so does one more
pub below-more : (n : ℕ) (bs : List ℕ) (b : ℕ) → All (λ x. x < n) bs → b < n → All (λ x. x < n) (bs ++ b ∷ [])
below-more n bs b all low = All-append (λ x. x < n) bs (b ∷ []) all one
  where
    one : All (λ x. x < n) (b ∷ [])
    one zero d h = low
    one (suc k) d h = absurd (omega (arith, h))

pub with-size : (n : ℕ) (bs : List ℕ) → length (with_all (replicate n false) bs) ≡ n
with-size n bs = with-length (replicate n false) bs ∙ length-replicate n false

-- all were gone through
pub take-whole : (xs : List ℕ) (i : ℕ) → length xs ≤ i → take i xs ≡ xs
take-whole [] zero h = refl
take-whole [] (suc i) h = refl
take-whole (x ∷ xs) zero h = absurd (omega (arith, h))
take-whole (x ∷ xs) (suc i) h = ap (λ (l : List ℕ). x ∷ l) (take-whole xs i (omega (arith, h)))

-- one more turn
pub freed-turn : (k l m : Books) (n i : ℕ) (items : List ℕ)
    → BlocksFreed k l (with_all (replicate n false) (take i items)) → i < length items
    → All (λ b. b < n) items
    → n ≡ k.at.blocks → length k.free_blocks ≡ k.at.blocks → length k.unknown_blocks ≡ k.at.blocks
    → m ≡ learned_block l (slice_index_or items i 0) false
    → BlocksFreed k m (with_all (replicate n false) (take (i + 1) items))
freed-turn k l m n i items b low all size sf su e =
    let F : List Bool = with_all (replicate n false) (take i items) in
    let block : ℕ = slice_index_or items i 0 in
    let next : i + 1 ≡ suc i = omega arith in
    let more : take (i + 1) items ≡ take i items ++ block ∷ [] = ap (λ (j : ℕ). take j items) next
    ∙ take-suc items i 0 low in
    let last : slice_set F block true ≡ with_all (replicate n false) (take (i + 1) items) =
    sym (ap (with_all (replicate n false)) more ∙ with-last (replicate n false) (take i items) block) in
    let fits : block < k.at.blocks = (let h = all i 0 low in omega (arith, h, size)) in
    subst (λ (z : List Bool). BlocksFreed k m z) last
    (freed-goes k l m F block b fits (with-size n (take i items) ∙ size) sf su e)

-- What a write leaves as it was.
use Rattle.std.specs.Prelude.{◌≡◌, ℕ, zero, suc, ◌+◌, ◌-◌, ◌<◌, ◌≤◌, ◌⊎◌, List, length, drop, slice_index, refl}
use Rattle.std.proofs.Common.{arith, sym, ap, ◌∙◌, inl, inr, ⊎_elim, subst}
use Rattle.std.proofs.lemmas.List.{get_or-drop, get_or-take}
use Rattle.byteorder.specs.Endian.{little_from}
use Rattle.nofs_disk.specs.Number.{number_at, put_number, length-put_number}
use Rattle.nofs_disk.specs.Parts.{drop-put_number, take-put_number}
use Rattle.nofs_disk.specs.Pointer.{pointer_in, put_pointer}
use Rattle.nofs_disk.specs.declared.tag.Pointer.{Pointer}

-- every byte but the n at this place stays
pub record SameBeside (at n : ℕ) (old new : List ℕ) : Type 0 where
  pub len : length new ≡ length old
  pub byte : (k : ℕ) → (k < at) ⊎ (at + n ≤ k) → slice_index new k ≡ slice_index old k

-- the n bytes at this place are the same
abbrev pub SameRange : ℕ → ℕ → List ℕ → List ℕ → Type 0
SameRange at n xs ys = (k : ℕ) → at ≤ k → k < at + n → slice_index xs k ≡ slice_index ys k

-- the same bytes are the same number
little_from-range : (i n : ℕ) (xs ys : List ℕ) → SameRange i n xs ys → little_from i n xs ≡ little_from i n ys
little_from-range i zero xs ys same = refl
little_from-range i (suc n) xs ys same =
    let first : slice_index xs i ≡ slice_index ys i = same i (omega arith) (omega arith) in
    let rest = little_from-range (suc i) n xs ys (λ k low high. same k (omega arith) (omega arith)) in
    omega arith

pub number_at-range : (n at : ℕ) (xs ys : List ℕ) → SameRange at n xs ys → number_at n at xs ≡ number_at n at ys
unfolding number_at
number_at-range n at xs ys same =
    little_from-range 0 n (drop at xs) (drop at ys)
    (λ k low high. get_or-drop at xs k 0 ∙ same (at + k) (omega arith) (omega arith)
    ∙ sym (get_or-drop at ys k 0))

-- what stands beside a write stays
pub SameBeside-range : (at n to m : ℕ) (old new : List ℕ) → SameBeside at n old new → (to + m ≤ at) ⊎ (at + n ≤ to)
    → SameRange to m new old
SameBeside-range at n to m old new same apart k low high =
    same.byte k (⊎_elim (λ before. inl (omega arith)) (λ behind. inr (omega arith)) apart)

pub number_at-beside : (at n m to : ℕ) (old new : List ℕ) → SameBeside at n old new → (to + m ≤ at) ⊎ (at + n ≤ to)
    → number_at m to new ≡ number_at m to old
number_at-beside at n m to old new same apart =
    number_at-range m to new old (SameBeside-range at n to m old new same apart)

pub pointer_in-beside : (at n to : ℕ) (old new : List ℕ) → SameBeside at n old new → (to + 16 ≤ at) ⊎ (at + n ≤ to)
    → pointer_in to new ≡ pointer_in to old
unfolding pointer_in
pointer_in-beside at n to old new same apart =
    let block = number_at-beside at n 8 to old new same
    (⊎_elim (λ before. inl (omega arith)) (λ behind. inr (omega arith)) apart) in
    let stamp = number_at-beside at n 8 (to + 8) old new same
    (⊎_elim (λ before. inl (omega arith)) (λ behind. inr (omega arith)) apart) in
    λ i. record { block = block i; stamp = stamp i }

-- one write, then another, in a part
pub SameBeside-refl : (at n : ℕ) (xs : List ℕ) → SameBeside at n xs xs
SameBeside-refl at n xs = record { len = refl; byte = λ k out. refl }

pub SameBeside-wider : (at n a m : ℕ) (old new : List ℕ) → SameBeside a m old new
    → at ≤ a → a + m ≤ at + n → SameBeside at n old new
SameBeside-wider at n a m old new same low high = record {
  len = same.len;
  byte = λ k out. same.byte k (⊎_elim (λ before. inl (omega arith)) (λ behind. inr (omega arith)) out);
}

pub SameBeside-trans : (at n : ℕ) (old mid new : List ℕ) → SameBeside at n old mid → SameBeside at n mid new
    → SameBeside at n old new
SameBeside-trans at n old mid new p q = record { len = q.len ∙ p.len; byte = λ k out. q.byte k out ∙ p.byte k out }

pub SameBeside-put_number : (n at x : ℕ) (bytes : List ℕ) → at + n ≤ length bytes
    → SameBeside at n bytes (put_number n at x bytes)
SameBeside-put_number n at x bytes fits = record {
  len = length-put_number n at x bytes fits;
  byte = λ k out. ⊎_elim
      (λ before. sym (get_or-take at (put_number n at x bytes) k 0 before)
      ∙ ap (λ l. slice_index l k) (take-put_number n at x at bytes (omega arith) (omega arith))
      ∙ get_or-take at bytes k 0 before)
      (λ behind.
      let whole : at + n + (k - (at + n)) ≡ k = omega arith in
      let part : (l : List ℕ) → slice_index (drop (at + n) l) (k - (at + n)) ≡ slice_index l k =
      λ l. get_or-drop (at + n) l (k - (at + n)) 0 ∙ ap (slice_index l) whole in
      sym (part (put_number n at x bytes))
      ∙ ap (λ l. slice_index l (k - (at + n))) (drop-put_number n at x (at + n) bytes (omega arith) (omega arith))
      ∙ part bytes)
      out;
}

pub SameBeside-put_pointer : (at : ℕ) (it : Pointer) (bytes : List ℕ) → at + 16 ≤ length bytes
    → SameBeside at 16 bytes (put_pointer at it bytes)
unfolding put_pointer
SameBeside-put_pointer at it bytes fits =
    let len = length-put_number 8 at it.block bytes (omega arith) in
    SameBeside-trans at 16 bytes (put_number 8 at it.block bytes)
    (put_number 8 (at + 8) it.stamp (put_number 8 at it.block bytes))
    (SameBeside-wider at 16 at 8 bytes (put_number 8 at it.block bytes)
    (SameBeside-put_number 8 at it.block bytes (omega arith)) (omega arith) (omega arith))
    (SameBeside-wider at 16 (at + 8) 8 (put_number 8 at it.block bytes)
    (put_number 8 (at + 8) it.stamp (put_number 8 at it.block bytes))
    (SameBeside-put_number 8 (at + 8) it.stamp (put_number 8 at it.block bytes) (omega arith))
    (omega arith) (omega arith))

-- a write, and one right behind it
pub SameBeside-then : (a n b m : ℕ) (old mid new : List ℕ) → b ≡ a + n → SameBeside a n old mid → SameBeside b m mid new
    → SameBeside a (n + m) old new
SameBeside-then a n b m old mid new e p q =
    SameBeside-trans a (n + m) old mid new (SameBeside-wider a (n + m) a n old mid p (omega arith) (omega arith))
    (SameBeside-wider a (n + m) b m mid new q (omega arith) (omega arith))

pub SameBeside-number : (n at x : ℕ) (old new : List ℕ) → at + n ≤ length old → new ≡ put_number n at x old
    → SameBeside at n old new
SameBeside-number n at x old new fits e =
    subst (λ (l : List ℕ). SameBeside at n old l) (sym e) (SameBeside-put_number n at x old fits)

pub SameBeside-pointer : (at : ℕ) (it : Pointer) (old new : List ℕ) → at + 16 ≤ length old → new ≡ put_pointer at it old
    → SameBeside at 16 old new
SameBeside-pointer at it old new fits e =
    subst (λ (l : List ℕ). SameBeside at 16 old l) (sym e) (SameBeside-put_pointer at it old fits)

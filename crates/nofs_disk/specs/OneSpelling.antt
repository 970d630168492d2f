-- The bytes of numbers, and of a tag, are determined by what they spell.
use Rattle.std.proofs.Common.{◌≡◌, ℕ, zero, suc, ◌+◌, ◌-◌, ◌<◌, ◌≤◌, List, drop, arith, sym, ap, ◌∙◌, inl, inr}
use Rattle.std.specs.Prelude.{slice_index}
use Rattle.std.proofs.lemmas.Bool.{cases_eq, cases_lt}
use Rattle.std.proofs.lemmas.List.{ext_get_or, get_or-drop}
use Rattle.byteorder.specs.Endian.{little_from}
use Rattle.std.specs.Prelude.{◌^◌, Some, refl}
use Rattle.nofs_disk.specs.declared.tag.Kind.{Kind}
use Rattle.nofs_disk.specs.declared.tag.Kind.TheVariants.{Nothing, Content, Directory, Leaf, Table, Super}
use Rattle.nofs_disk.specs.Number.{IsBytes, IsBytes-put_number, IsBytes-zeros, number_at, puts, zeros}
use Rattle.nofs_disk.specs.Tag.{AllowsParts, HasTagSpelling, SpellsTag, kind_number, tag_bytes, tag_of}
use Rattle.nofs_disk.specs.declared.tag.Tag.{Tag}

-- equal numbers have equal bytes
little_from-same : (i n : ℕ) (xs ys : List ℕ) → ((k : ℕ) → slice_index xs k < 256) → ((k : ℕ) → slice_index ys k < 256)
    → little_from i n xs ≡ little_from i n ys → (k : ℕ) → i ≤ k → k < i + n → slice_index xs k ≡ slice_index ys k
little_from-same i zero xs ys small_x small_y e k low high = absurd (omega arith)
little_from-same i (suc n) xs ys small_x small_y e k low high =
    let a = small_x i in
    let b = small_y i in
    let first : slice_index xs i ≡ slice_index ys i = omega arith in
    let rest : little_from (suc i) n xs ≡ little_from (suc i) n ys = omega arith in
    elim (cases_eq k i) [
      | inl same ↦ ap (slice_index xs) same ∙ first ∙ ap (slice_index ys) (sym same)
      | inr other ↦ little_from-same (suc i) n xs ys small_x small_y rest k (omega arith) (omega arith)
    ]

pub number_at-same : (n at : ℕ) (xs ys : List ℕ) → ((k : ℕ) → slice_index xs k < 256)
    → ((k : ℕ) → slice_index ys k < 256)
    → number_at n at xs ≡ number_at n at ys → (k : ℕ) → at ≤ k → k < at + n → slice_index xs k ≡ slice_index ys k
unfolding number_at
number_at-same n at xs ys small_x small_y e k low high =
    let i : at + (k - at) ≡ k = omega arith in
    let moved : (l : List ℕ) → slice_index (drop at l) (k - at) ≡ slice_index l k = λ l. get_or-drop at l (k - at) 0
    ∙ ap (slice_index l) i in
    sym (moved xs)
    ∙ little_from-same 0 n (drop at xs) (drop at ys)
    (λ j. let d = get_or-drop at xs j 0 in let s = small_x (at + j) in omega arith) (λ j. let d =
    get_or-drop at ys j 0 in let s = small_y (at + j) in omega arith) e (k - at) (omega arith) (omega arith)
    ∙ moved ys

-- a tag has one spelling
pub SpellsTag-same : (xs ys : List ℕ) (t : Tag) → IsBytes 32 xs → IsBytes 32 ys → SpellsTag xs t
    → SpellsTag ys t → xs ≡ ys
SpellsTag-same xs ys t is_x is_y spells_x spells_y =
    ext_get_or 0 xs ys (is_x.len ∙ sym is_y.len) (λ k low.
    let l = is_x.len in
    let part : (n at : ℕ) → number_at n at xs ≡ number_at n at ys
    → at ≤ k → k < at + n → slice_index xs k ≡ slice_index ys k =
    λ n at e a b. number_at-same n at xs ys is_x.each is_y.each e k a b in
    elim (cases_lt k 4) [
      | inl a ↦ part 4 0 (spells_x.kind ∙ sym spells_y.kind) (omega arith) (omega arith)
      | inr b ↦ elim (cases_lt k 8) [
        | inl c ↦ part 4 4 (spells_x.inode ∙ sym spells_y.inode) (omega arith) (omega arith)
        | inr d ↦ elim (cases_lt k 16) [
          | inl f ↦ part 8 8 (spells_x.generation ∙ sym spells_y.generation) (omega arith) (omega arith)
          | inr g ↦ elim (cases_lt k 24) [
            | inl h ↦ part 8 16 (spells_x.slot ∙ sym spells_y.slot) (omega arith) (omega arith)
            | inr i ↦ part 8 24 (spells_x.stamp ∙ sym spells_y.stamp) (omega arith) (omega arith)
          ]
        ]
      ]
    ])

-- the numbers that the parts of a tag can hold
pub record IsTag (t : Tag) : Type 0 where
  pub inode : t.inode < 2 ^ 32
  pub generation : t.generation < 2 ^ 64
  pub slot : t.slot < 2 ^ 64
  pub stamp : t.stamp < 2 ^ 64

kind_number-lt : (k : Kind) → kind_number k < 2 ^ 32
kind_number-lt Nothing = omega arith
kind_number-lt Content = omega arith
kind_number-lt Directory = omega arith
kind_number-lt Leaf = omega arith
kind_number-lt Table = omega arith
kind_number-lt Super = omega arith

-- the spelling of a tag is one
pub IsBytes-tag_bytes : (t : Tag) → IsBytes 32 (tag_bytes t)
unfolding tag_bytes
IsBytes-tag_bytes t =
    let b0 = IsBytes-zeros 32 in
    let b1 = IsBytes-put_number 32 4 0 (kind_number t.kind) (zeros 32) (omega arith) b0 in
    let b2 = IsBytes-put_number 32 4 4 t.inode _ (omega arith) b1 in
    let b3 = IsBytes-put_number 32 8 8 t.generation _ (omega arith) b2 in
    let b4 = IsBytes-put_number 32 8 16 t.slot _ (omega arith) b3 in
    IsBytes-put_number 32 8 24 t.stamp _ (omega arith) b4

pub SpellsTag-tag_bytes : (t : Tag) → IsTag t → HasTagSpelling t → SpellsTag (tag_bytes t) t
unfolding tag_bytes
SpellsTag-tag_bytes t is allowed =
    let b0 = IsBytes-zeros 32 in
    let b1 = IsBytes-put_number 32 4 0 (kind_number t.kind) (zeros 32) (omega arith) b0 in
    let b2 = IsBytes-put_number 32 4 4 t.inode _ (omega arith) b1 in
    let b3 = IsBytes-put_number 32 8 8 t.generation _ (omega arith) b2 in
    let b4 = IsBytes-put_number 32 8 16 t.slot _ (omega arith) b3 in
    let l0 = b0.len in
    let l1 = b1.len in
    let l2 = b2.len in
    let l3 = b3.len in
    let l4 = b4.len in
    let k = kind_number-lt t.kind in
    let i = is.inode in
    let g = is.generation in
    let s = is.slot in
    let m = is.stamp in
    record {
      kind = grind puts;
      inode = grind puts;
      generation = grind puts;
      slot = grind puts;
      stamp = grind puts;
      allowed = allowed;
    }

-- what spells a tag is its spelling
pub SpellsTag-one : (bytes : List ℕ) (t : Tag) → IsBytes 32 bytes → IsTag t → SpellsTag bytes t → bytes ≡ tag_bytes t
SpellsTag-one bytes t is_bytes is spells =
    SpellsTag-same bytes (tag_bytes t) t is_bytes (IsBytes-tag_bytes t) spells (SpellsTag-tag_bytes t is spells.allowed)

-- what spells a tag is read as it
pub tag_of-spells : (bytes : List ℕ) (t : Tag) → SpellsTag bytes t → tag_of bytes ≡ Some t
unfolding tag_of
tag_of-spells bytes t s =
    go t.kind t.inode t.generation t.slot t.stamp s.kind s.inode s.generation s.slot s.stamp s.allowed
  where
    go : (k : Kind) (i g n m : ℕ) → number_at 4 0 bytes ≡ kind_number k
        → number_at 4 4 bytes ≡ i → number_at 8 8 bytes ≡ g → number_at 8 16 bytes ≡ n
        → number_at 8 24 bytes ≡ m
        → AllowsParts k (record { kind = k; inode = i; generation = g; slot = n; stamp = m })
        → tag_of bytes ≡ Some (record { kind = k; inode = i; generation = g; slot = n; stamp = m })
    go Nothing i g n m ek ei eg en em a = rw (ek, ei, eg, en, em, a.0, a.1, a.2, a.3) refl
    go Content i g n m ek ei eg en em a = rw (ek, ei, eg, en, em) refl
    go Directory i g n m ek ei eg en em a = rw (ek, ei, eg, en, em) refl
    go Leaf i g n m ek ei eg en em a = rw (ek, ei, eg, en, em) refl
    go Table i g n m ek ei eg en em a = rw (ek, ei, eg, en, em) refl
    go Super i g n m ek ei eg en em a = rw (ek, ei, eg, en, em) refl

-- Two places of a page: which one is current, and what was made of a version and its cells.
use Rattle.std.proofs.Common.{◌≡◌, ℕ, ◌+◌, ◌-◌, ◌%◌, ◌^◌, ◌<◌, ◌≤◌, ◌⊎◌, Bool, true, false, List, ◌++◌, length}
use Rattle.std.proofs.Common.{take, drop, arith, refl, sym, ap, ◌∙◌, inl, inr}
use Rattle.std.specs.Prelude.{◌==◌, cond, nat_lt, slice_range}
use Rattle.std.proofs.lemmas.Bool.{and_from, and_parts, cases_Bool, cases_lt, eq-eqb, eqb-true, false≢true, le-ltb}
use Rattle.std.proofs.lemmas.Bool.{lt-ltb}
use Rattle.std.proofs.lemmas.List.{drop-drop, drop_at, length-drop, length-take-le, take_all, take_at}
use Rattle.nofs_disk.specs.Number.{length-put_number, length-zeros, number_at, number_at-put_same, put_bytes, zeros}
use Rattle.nofs_disk.specs.Parts.{length-put_bytes, range-put_behind}
use Rattle.nofs_pages.specs.Pages.{is_made}
use Rattle.nofs_pages.specs.Twins.{area_by, current_by, current_of, is_blank, is_twin, twin_area, twin_body, twin_magic}
use Rattle.nofs_pages.specs.Twins.{twin_sealed}
use Rattle.nofs_pages.specs.Twins.{twin_version, version_by, version_in, version_of_none}
use Rattle.nofs_pages.specs.declared.place.Current.{Current}
use Rattle.nofs_pages.specs.declared.place.Current.TheVariants.{First, Second, Neither}
use Rattle.nofs_pages.proofs.OnPages.{length-made, made-body, made-is}

-- Which place is current

module _ (number : ℕ) (one two : List ℕ) where
  pub area-at : (c : Current) → current_of number one two ≡ c → twin_area number one two ≡ area_by c one two
  unfolding twin_area
  area-at c is = ap (λ d. area_by d one two) is

  pub version-at : (c : Current) → current_of number one two ≡ c
      → twin_version number one two ≡ version_by number c one two
  unfolding twin_version
  version-at c is = ap (λ d. version_by number d one two) is

  pub is-first : is_twin 0 number one ≡ true → is_twin 1 number two ≡ false → current_of number one two ≡ First
  unfolding current_of
  is-first told other =
      let later = nat_lt (version_in one) (version_in two) in
      ap (λ a. current_by a (is_twin 1 number two) later) told ∙ ap (λ b. current_by true b later) other

  pub is-second : is_twin 0 number one ≡ false → is_twin 1 number two ≡ true → current_of number one two ≡ Second
  unfolding current_of
  is-second other told =
      let later = nat_lt (version_in one) (version_in two) in
      ap (λ a. current_by a (is_twin 1 number two) later) other ∙ ap (λ b. current_by false b later) told

  pub is-neither : is_twin 0 number one ≡ false → is_twin 1 number two ≡ false → current_of number one two ≡ Neither
  unfolding current_of
  is-neither other none =
      let later = nat_lt (version_in one) (version_in two) in
      ap (λ a. current_by a (is_twin 1 number two) later) other ∙ ap (λ b. current_by false b later) none

  pub is-later : is_twin 0 number one ≡ true → is_twin 1 number two ≡ true → version_in one < version_in two
      → current_of number one two ≡ Second
  unfolding current_of
  is-later told both low =
      let later = nat_lt (version_in one) (version_in two) in
      ap (λ a. current_by a (is_twin 1 number two) later) told ∙ ap (λ b. current_by true b later) both
      ∙ ap (current_by true true) (lt-ltb (version_in one) (version_in two) low)

  pub is-earlier : is_twin 0 number one ≡ true → is_twin 1 number two ≡ true → version_in two ≤ version_in one
      → current_of number one two ≡ First
  unfolding current_of
  is-earlier told both high =
      let later = nat_lt (version_in one) (version_in two) in
      ap (λ a. current_by a (is_twin 1 number two) later) told ∙ ap (λ b. current_by true b later) both
      ∙ ap (current_by true true) (le-ltb (version_in one) (version_in two) high)

  -- no place that is told has a higher version
  most-first : is_twin 0 number one ≡ true → version_in one ≤ twin_version number one two
  most-first told = elim (cases_Bool (is_twin 1 number two)) [
    | inl both ↦ elim (cases_lt (version_in one) (version_in two)) [
      | inl low ↦
          let e = version-at Second (is-later told both low) in
          omega arith
      | inr high ↦
          let e = version-at First (is-earlier told both high) in
          omega arith
    ]
    | inr other ↦
        let e = version-at First (is-first told other) in
        omega arith
  ]

  most-second : is_twin 1 number two ≡ true → version_in two ≤ twin_version number one two
  most-second told = elim (cases_Bool (is_twin 0 number one)) [
    | inl both ↦ elim (cases_lt (version_in one) (version_in two)) [
      | inl low ↦
          let e = version-at Second (is-later both told low) in
          omega arith
      | inr high ↦
          let e = version-at First (is-earlier both told high) in
          omega arith
    ]
    | inr other ↦
        let e = version-at Second (is-second other told) in
        omega arith
  ]

-- the current place is told

abbrev first_by : Current → Bool
first_by First = true
first_by Second = false
first_by Neither = false

abbrev second_by : Current → Bool
second_by First = false
second_by Second = true
second_by Neither = false

pub first-told : (number : ℕ) (one two : List ℕ) → current_of number one two ≡ First → is_twin 0 number one ≡ true
first-told number one two is = elim (cases_Bool (is_twin 0 number one)) [
  | inl told ↦ told
  | inr none ↦ elim (cases_Bool (is_twin 1 number two)) [
    | inl second ↦ absurd (false≢true (ap first_by (sym (is-second number one two none second) ∙ is)))
    | inr other ↦ absurd (false≢true (ap first_by (sym (is-neither number one two none other) ∙ is)))
  ]
]

pub second-told : (number : ℕ) (one two : List ℕ) → current_of number one two ≡ Second → is_twin 1 number two ≡ true
second-told number one two is = elim (cases_Bool (is_twin 1 number two)) [
  | inl told ↦ told
  | inr none ↦ elim (cases_Bool (is_twin 0 number one)) [
    | inl first ↦ absurd (false≢true (ap second_by (sym (is-first number one two first none) ∙ is)))
    | inr other ↦ absurd (false≢true (ap second_by (sym (is-neither number one two other none) ∙ is)))
  ]
]

-- a version stands in the place of its parity
pub parity : (place number : ℕ) (page : List ℕ) → is_twin place number page ≡ true → version_in page % 2 ≡ place
unfolding is_twin
parity place number page told = eqb-true _ _ (and_parts (is_made twin_magic 896 number page) _ told).1

-- a page of which neither place is told, and one is blank, has the version of one that is blank

none-even : (number : ℕ) (one two : List ℕ) → version_of_none number one two % 2 ≡ 0
    → (is_blank one ≡ true) ⊎ (is_blank two ≡ false)
none-even number one two even = go (number % 2 == 0) (is_blank one) (is_blank two) even
  where
    go : (own first second : Bool) → cond own (cond first 0 1) (cond second 1 0) % 2 ≡ 0
        → (first ≡ true) ⊎ (second ≡ false)
    go true true second is = inl refl
    go true false second is = absurd (omega (arith, is))
    go false first true is = absurd (omega (arith, is))
    go false first false is = inr refl

none-odd : (number : ℕ) (one two : List ℕ) → version_of_none number one two % 2 ≡ 1
    → (is_blank two ≡ true) ⊎ (is_blank one ≡ false)
none-odd number one two odd = go (number % 2 == 0) (is_blank one) (is_blank two) odd
  where
    go : (own first second : Bool) → cond own (cond first 0 1) (cond second 1 0) % 2 ≡ 1
        → (second ≡ true) ⊎ (first ≡ false)
    go true true second is = absurd (omega (arith, is))
    go true false second is = inr refl
    go false first true is = inl refl
    go false first false is = absurd (omega (arith, is))

-- an even version is in the first place, or neither is told, and the first one is blank if one is
pub even-first : (number : ℕ) (one two : List ℕ) → twin_version number one two % 2 ≡ 0
    → ((is_twin 0 number one ≡ true) × (current_of number one two ≡ First))
    ⊎ ((is_twin 0 number one ≡ false) × (is_twin 1 number two ≡ false)
    × ((is_blank one ≡ true) ⊎ (is_blank two ≡ false)) × (current_of number one two ≡ Neither))
even-first number one two even = elim (cases_Bool (is_twin 1 number two)) [
  | inl second ↦
      let odd = parity 1 number two second in
      elim (cases_Bool (is_twin 0 number one)) [
        | inl first ↦ elim (cases_lt (version_in one) (version_in two)) [
          | inl low ↦
              let e = version-at number one two Second (is-later number one two first second low) in
              absurd (omega (arith, e, odd, even))
          | inr high ↦ inl (first, is-earlier number one two first second high)
        ]
        | inr other ↦
            let e = version-at number one two Second (is-second number one two other second) in
            absurd (omega (arith, e, odd, even))
      ]
  | inr none ↦ elim (cases_Bool (is_twin 0 number one)) [
    | inl first ↦ inl (first, is-first number one two first none)
    | inr other ↦
        let current = is-neither number one two other none in
        let e = version-at number one two Neither current in
        inr (other, none, none-even number one two (ap (λ v. v % 2) (sym e) ∙ even), current)
  ]
]

-- an odd one is in the second place, or neither is told, and the second one is blank if one is
pub odd-second : (number : ℕ) (one two : List ℕ) → twin_version number one two % 2 ≡ 1
    → ((is_twin 1 number two ≡ true) × (current_of number one two ≡ Second))
    ⊎ ((is_twin 0 number one ≡ false) × (is_twin 1 number two ≡ false)
    × ((is_blank two ≡ true) ⊎ (is_blank one ≡ false)) × (current_of number one two ≡ Neither))
odd-second number one two odd = elim (cases_Bool (is_twin 0 number one)) [
  | inl first ↦
      let even = parity 0 number one first in
      elim (cases_Bool (is_twin 1 number two)) [
        | inl second ↦ elim (cases_lt (version_in one) (version_in two)) [
          | inl low ↦ inl (second, is-later number one two first second low)
          | inr high ↦
              let e = version-at number one two First (is-earlier number one two first second high) in
              absurd (omega (arith, e, odd, even))
        ]
        | inr none ↦
            let e = version-at number one two First (is-first number one two first none) in
            absurd (omega (arith, e, odd, even))
      ]
  | inr other ↦ elim (cases_Bool (is_twin 1 number two)) [
    | inl second ↦ inl (second, is-second number one two other second)
    | inr none ↦
        let current = is-neither number one two other none in
        let e = version-at number one two Neither current in
        inr (other, none, none-odd number one two (ap (λ v. v % 2) (sym e) ∙ odd), current)
  ]
]

-- What was made

module _ (version : ℕ) (area : List ℕ) (size : length area ≡ 3168) where
  base : List ℕ
  base = put_bytes 32 area (zeros 3200)

  length-base : length base ≡ 3200
  unfolding base
  length-base =
      let whole = length-zeros 3200 in
      length-put_bytes 32 area (zeros 3200) (omega arith) ∙ whole

  pub length-body : length (twin_body version area) ≡ 3200
  unfolding twin_body base
  length-body =
      let len = length-base in
      length-put_number 8 0 version base (omega arith) ∙ len

  version-body : version < 2 ^ 64 → number_at 8 0 (twin_body version area) ≡ version
  unfolding twin_body base
  version-body low =
      let len = length-base in
      number_at-put_same 8 0 version base low (omega arith)

  base-area : slice_range base 32 3200 ≡ area
  unfolding base put_bytes
  base-area =
      let whole = length-zeros 3200 in
      let rest = area ++ drop (32 + length area) (zeros 3200) in
      let cut : 3200 - 32 ≡ length area = omega arith in
      ap (take (3200 - 32)) (drop_at (take 32 (zeros 3200)) rest 32 (length-take-le 32 (zeros 3200) (omega arith)))
      ∙ ap (λ n. take n rest) cut
      ∙ take_at area (drop (32 + length area) (zeros 3200)) (length area) refl

  area-body : slice_range (twin_body version area) 32 3200 ≡ area
  unfolding twin_body base
  area-body =
      let len = length-base in
      range-put_behind 8 0 version 32 3200 base (omega arith) (omega arith) ∙ base-area

module _ (number version : ℕ) (area : List ℕ) (low_number : number < 2 ^ 64) (low : version < 2 ^ 64)
    (size : length area ≡ 3168) where
  pub length-twin : length (twin_sealed number version area) ≡ 4096
  unfolding twin_sealed
  length-twin =
      let len = length-body version area size in
      length-made twin_magic 896 number (twin_body version area) (omega arith) low_number (omega arith) (omega arith)

  behind : drop 896 (twin_sealed number version area) ≡ twin_body version area
  unfolding twin_sealed
  behind =
      let page = twin_sealed number version area in
      let len = length-body version area size in
      let whole = length-twin in
      let rest = length-drop 896 page in
      sym (take_all (4096 - 896) (drop 896 page) (omega arith))
      ∙ made-body twin_magic 896 number (twin_body version area) (omega arith) low_number (omega arith) (omega arith)

  pub twin-version : version_in (twin_sealed number version area) ≡ version
  unfolding version_in number_at
  twin-version = ap (number_at 8 0) behind ∙ version-body version area size low

  pub twin-cells : slice_range (twin_sealed number version area) 928 4096 ≡ area
  twin-cells =
      let page = twin_sealed number version area in
      ap (take (4096 - 928)) (sym (drop-drop 32 896 page) ∙ ap (drop 32) behind) ∙ area-body version area size

  pub twin-told : (place : ℕ) → version % 2 ≡ place → is_twin place number (twin_sealed number version area) ≡ true
  unfolding is_twin twin_sealed
  twin-told place is =
      let len = length-body version area size in
      and_from _ _
      (made-is twin_magic 896 number (twin_body version area) (omega arith) low_number (omega arith) (omega arith))
      (eq-eqb _ _ (ap (λ v. v % 2) twin-version ∙ is))

-- the next version is current

pub next-second : (number : ℕ) (one two other : List ℕ) → is_twin 1 number other ≡ true
    → version_in other ≡ twin_version number one two + 1 → current_of number one other ≡ Second
next-second number one two other told is = elim (cases_Bool (is_twin 0 number one)) [
  | inl first ↦
      let most = most-first number one two first in
      is-later number one other first told (omega arith)
  | inr none ↦ is-second number one other none told
]

pub next-first : (number : ℕ) (one two other : List ℕ) → is_twin 0 number other ≡ true
    → version_in other ≡ twin_version number one two + 1 → current_of number other two ≡ First
next-first number one two other told is = elim (cases_Bool (is_twin 1 number two)) [
  | inl second ↦
      let most = most-second number one two second in
      is-earlier number other two told second (omega arith)
  | inr none ↦ is-first number other two told none
]

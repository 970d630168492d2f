-- Pages with two places: what is read of them, and what is put.
use Rattle.std.proofs.Common.{◌≡◌, ℕ, ◌+◌, ◌-◌, ◌*◌, ◌/◌, ◌%◌, ◌^◌, ◌<◌, ◌≤◌, ◌⊎◌, List, length, take, drop}
use Rattle.std.proofs.Common.{arith, refl, sym, ap, ◌∙◌, inl, inr, subst}
use Rattle.std.specs.Prelude.{slice_index}
use Rattle.std.proofs.lemmas.Bool.{cases_lt}
use Rattle.std.proofs.lemmas.List.{get_or-drop, get_or-take, length-drop, length-take-le, take_all}
use Rattle.nofs_disk.specs.CellsOfBytes.{part-is, part_of}
use Rattle.nofs_filedisk.specs.Bytes.{IsPartlyPut, IsPut}
use Rattle.nofs_filedisk.proofs.OnMoving.Units.{part-same}
use Rattle.nofs_pages.specs.Twins.{HasTwins, WritesTwins, next_at, next_of, twin_area, twin_byte}
use Rattle.nofs_pages.specs.Twins.{twin_sealed, twin_version, version_in, version_of}
use Rattle.nofs_pages.specs.declared.place.Current.TheVariants.{First, Second}
use Rattle.nofs_pages.proofs.OnPages.{length-part_of}
use Rattle.nofs_pages.proofs.OnPlaces.{area-at, length-twin, next-first, next-second, twin-cells, twin-told}
use Rattle.nofs_pages.proofs.OnPlaces.{twin-version}
use Rattle.nofs_pages.proofs.OnPlaces.{version-at}

-- A page in a file

-- the bytes of its cells
unfoldable pub area_in : List ℕ → ℕ → List ℕ
area_in raw p = twin_area p (part_of raw (8192 * p) 4096) (part_of raw (8192 * p + 4096) 4096)

pub byte-area : (raw : List ℕ) (p k : ℕ) → k / 3168 ≡ p → twin_byte raw k ≡ slice_index (area_in raw p) (k % 3168)
unfolding twin_byte area_in
byte-area raw p k page = ap (λ q. slice_index (area_in raw q) (k % 3168)) page

pub version-in : (raw : List ℕ) (p : ℕ)
    → version_of raw p ≡ twin_version p (part_of raw (8192 * p) 4096) (part_of raw (8192 * p + 4096) 4096)
unfolding version_of
version-in raw p = refl

-- two files have the same bytes of it
module _ (raw new : List ℕ) (p : ℕ)
    (same : (k : ℕ) → k < 8192 → slice_index new (8192 * p + k) ≡ slice_index raw (8192 * p + k)) where
  same-one : part_of new (8192 * p) 4096 ≡ part_of raw (8192 * p) 4096
  same-one = part-same new raw (8192 * p) (8192 * p) 4096 (λ k low. same k (omega arith))

  same-two : part_of new (8192 * p + 4096) 4096 ≡ part_of raw (8192 * p + 4096) 4096
  same-two = part-same new raw (8192 * p + 4096) (8192 * p + 4096) 4096 (λ k low.
      let place : 8192 * p + 4096 + k ≡ 8192 * p + (4096 + k) = omega arith in
      ap (slice_index new) place ∙ same (4096 + k) (omega arith) ∙ sym (ap (slice_index raw) place))

  pub version-same : version_of new p ≡ version_of raw p
  unfolding version_of
  version-same =
      ap (λ l. twin_version p l (part_of new (8192 * p + 4096) 4096)) same-one
      ∙ ap (twin_version p (part_of raw (8192 * p) 4096)) same-two

  pub area-same : area_in new p ≡ area_in raw p
  unfolding area_in
  area-same =
      ap (λ l. twin_area p l (part_of new (8192 * p + 4096) 4096)) same-one
      ∙ ap (twin_area p (part_of raw (8192 * p) 4096)) same-two

-- the first one's place of an even version, and the second one's of an odd one
pub part-at : (raw : List ℕ) (at to : ℕ) → at ≡ to → part_of raw at 4096 ≡ part_of raw to 4096
part-at raw at to is = ap (λ n. part_of raw n 4096) is

pub part-kept : (raw new : List ℕ) (at to : ℕ) → at ≡ to
    → ((k : ℕ) → k < 4096 → slice_index new (at + k) ≡ slice_index raw (at + k))
    → part_of new to 4096 ≡ part_of raw to 4096
part-kept raw new at to is same =
    part-at new to at (sym is) ∙ part-same new raw at at 4096 same ∙ part-at raw at to is

-- the next version is put, and the place that is current stays
module _ (raw new : List ℕ) (p : ℕ) (area : List ℕ) (low_number : p < 2 ^ 64) (low : version_of raw p + 1 < 2 ^ 64)
    (size : length area ≡ 3168)
    (stays : (k : ℕ) → k < 4096 → slice_index new (8192 * p + 4096 * (version_of raw p % 2) + k)
    ≡ slice_index raw (8192 * p + 4096 * (version_of raw p % 2) + k))
    (is : part_of new (next_at raw p) 4096 ≡ twin_sealed p (version_of raw p + 1) area) where
  put : List ℕ
  put = twin_sealed p (version_of raw p + 1) area

  one : List ℕ
  one = part_of raw (8192 * p) 4096

  two : List ℕ
  two = part_of raw (8192 * p + 4096) 4096

  version-put : version_of raw p ≡ twin_version p one two
  unfolding one two
  version-put = version-in raw p

  higher : version_in put ≡ twin_version p one two + 1
  unfolding put
  higher =
      twin-version p (version_of raw p + 1) area low_number low size ∙ ap (λ v. v + 1) version-put

  even-parts : version_of raw p % 2 ≡ 0 → (part_of new (8192 * p) 4096 ≡ one)
      × (part_of new (8192 * p + 4096) 4096 ≡ put)
  unfolding one put
  even-parts even = (
    part-kept raw new (8192 * p + 4096 * (version_of raw p % 2)) (8192 * p) (omega (arith, even)) stays,
    part-at new (8192 * p + 4096) (next_at raw p) (omega (arith, even)) ∙ is,
  )

  odd-parts : version_of raw p % 2 ≡ 1 → (part_of new (8192 * p) 4096 ≡ put)
      × (part_of new (8192 * p + 4096) 4096 ≡ two)
  unfolding two put
  odd-parts odd = (
    part-at new (8192 * p) (next_at raw p) (omega (arith, odd)) ∙ is,
    part-kept raw new (8192 * p + 4096 * (version_of raw p % 2)) (8192 * p + 4096) (omega (arith, odd)) stays,
  )

  even-both : version_of raw p % 2 ≡ 0 → (version_of new p ≡ version_of raw p + 1) × (area_in new p ≡ area)
  unfolding area_in put
  even-both even =
      let parts = even-parts even in
      let told = twin-told p (version_of raw p + 1) area low_number low size 1 (omega (arith, even)) in
      let current = next-second p one two put told higher in (
        version-in new p ∙ ap (λ l. twin_version p l (part_of new (8192 * p + 4096) 4096)) parts.0
            ∙ ap (twin_version p one) parts.1 ∙ version-at p one put Second current
            ∙ twin-version p (version_of raw p + 1) area low_number low size,
        ap (λ l. twin_area p l (part_of new (8192 * p + 4096) 4096)) parts.0
            ∙ ap (twin_area p one) parts.1 ∙ area-at p one put Second current
            ∙ twin-cells p (version_of raw p + 1) area low_number low size,
      )

  odd-both : version_of raw p % 2 ≡ 1 → (version_of new p ≡ version_of raw p + 1) × (area_in new p ≡ area)
  unfolding area_in put
  odd-both odd =
      let parts = odd-parts odd in
      let told = twin-told p (version_of raw p + 1) area low_number low size 0 (omega (arith, odd)) in
      let current = next-first p one two put told higher in (
        version-in new p ∙ ap (λ l. twin_version p l (part_of new (8192 * p + 4096) 4096)) parts.0
            ∙ ap (twin_version p put) parts.1 ∙ version-at p put two First current
            ∙ twin-version p (version_of raw p + 1) area low_number low size,
        ap (λ l. twin_area p l (part_of new (8192 * p + 4096) 4096)) parts.0
            ∙ ap (twin_area p put) parts.1 ∙ area-at p put two First current
            ∙ twin-cells p (version_of raw p + 1) area low_number low size,
      )

  pub next-is : (version_of new p ≡ version_of raw p + 1) × (area_in new p ≡ area)
  next-is = elim (cases_lt (version_of raw p % 2) 1) [
    | inl even ↦ even-both (omega arith)
    | inr odd ↦ odd-both (omega arith)
  ]

-- Some neighbouring pages are put, whose next places touch

module _ (old new : List ℕ) (p count at : ℕ) (areas places : List ℕ) (size : length places ≡ 4096 * count)
    (next : (j : ℕ) → j < count → next_at old (p + j) ≡ at + 4096 * j)
    (made : (j k : ℕ) → j < count → k < 4096
    → slice_index places (4096 * j + k) ≡ slice_index (next_of old p j areas) k) where
  put-same : IsPartlyPut at places old new → (k : ℕ)
      → (k / 8192 < p) ⊎ ((p + count ≤ k / 8192) ⊎ (k % 8192 / 4096 ≡ version_of old (k / 8192) % 2))
      → slice_index new k ≡ slice_index old k
  put-same did k apart =
      let fits = did.fits in
      let cut = length-take-le did.count places fits in
      elim (cases_lt k at) [
        | inl before ↦ did.put.before k before
        | inr after ↦ elim (cases_lt k (at + 4096 * count)) [
          | inr behind ↦ did.put.behind k (omega arith)
          | inl inside ↦
              let j = (k - at) / 4096 in
              let place = next j (omega arith) in
              let page : k / 8192 ≡ p + j = omega (arith, place) in
              let same = ap (version_of old) page in
              elim apart [
                | inl low ↦ absurd (omega (arith, page, low))
                | inr other ↦ elim other [
                  | inl high ↦ absurd (omega (arith, page, high, inside))
                  | inr current ↦ absurd (omega (arith, place, same, current))
                ]
              ]
        ]
      ]

  pub put-writes : IsPartlyPut at places old new → WritesTwins old new p count areas
  put-writes did = record {
    same = put-same did;
    each = λ j k low small.
        let place : next_at old (p + j) + k ≡ at + (4096 * j + k) = omega (arith, next j low) in
        let fits = did.fits in
        let cut = length-take-le did.count places fits in
        elim (cases_lt (4096 * j + k) did.count) [
          | inl done ↦ inr (ap (slice_index new) place ∙ did.put.inside (4096 * j + k) (omega arith)
              ∙ get_or-take did.count places (4096 * j + k) 0 done ∙ made j k low small)
          | inr rest ↦ inl (ap (slice_index new) place ∙ did.put.behind (at + (4096 * j + k)) (omega arith)
              ∙ sym (ap (slice_index old) place))
        ];
  }

  pub put-has : IsPut at places old new → ((j : ℕ) → j < count → version_of old (p + j) + 1 < 2 ^ 64)
      → p + count ≤ 349526 → HasTwins old new p count areas
  put-has did versions numbers j low =
      let version = versions j low in
      let area = part_of areas (3168 * j) 3168 in
      let whole = length-twin (p + j) (version_of old (p + j) + 1) area (omega arith) version
      (length-part_of areas (3168 * j) 3168) in (
        version,
        part-at new (next_at old (p + j)) (at + 4096 * j) (next j low)
            ∙ part-is new (next_of old p j areas) (at + 4096 * j) 4096 whole
            (λ k small.
            let place : at + 4096 * j + k ≡ at + (4096 * j + k) = omega arith in
            ap (slice_index new) place ∙ did.inside (4096 * j + k) (omega arith) ∙ made j k low small),
      )

-- One after the other

pub none-written : (raw : List ℕ) (first count : ℕ) (areas : List ℕ) → WritesTwins raw raw first count areas
none-written raw first count areas = record { same = λ k apart. refl; each = λ j k low small. inl refl }

module _ (old mid new : List ℕ) (first at more : ℕ) (areas rest : List ℕ)
    (cut : (j : ℕ) → j < more → part_of rest (3168 * j) 3168 ≡ part_of areas (3168 * (at + j)) 3168)
    (before : WritesTwins old mid first at areas) (then : WritesTwins mid new (first + at) more rest) where
  -- the pages behind are as they were
  behind-version : (p : ℕ) → first + at ≤ p → version_of mid p ≡ version_of old p
  behind-version p high = version-same old mid p (λ k low. before.same (8192 * p + k) (inr (inl (omega arith))))

  place-next : (j : ℕ) → next_at mid (first + at + j) ≡ next_at old (first + (at + j))
  place-next j =
      let here : first + at + j ≡ first + (at + j) = omega arith in
      ap (λ v. 8192 * (first + at + j) + 4096 * ((v + 1) % 2)) (behind-version (first + at + j) (omega arith))
      ∙ ap (next_at old) here

  of-next : (j : ℕ) → j < more → next_of mid (first + at) j rest ≡ next_of old first (at + j) areas
  of-next j low =
      let here : first + at + j ≡ first + (at + j) = omega arith in
      ap (λ v. twin_sealed (first + at + j) (v + 1) (part_of rest (3168 * j) 3168))
      (behind-version (first + at + j) (omega arith))
      ∙ ap (λ q. twin_sealed q (version_of old q + 1) (part_of rest (3168 * j) 3168)) here
      ∙ ap (twin_sealed (first + (at + j)) (version_of old (first + (at + j)) + 1)) (cut j low)

  still : (k : ℕ) → (k / 8192 < first)
      ⊎ ((first + (at + more) ≤ k / 8192) ⊎ (k % 8192 / 4096 ≡ version_of old (k / 8192) % 2))
      → slice_index new k ≡ slice_index mid k
  still k apart = elim (cases_lt (k / 8192) (first + at)) [
    | inl low ↦ then.same k (inl low)
    | inr high ↦ elim apart [
      | inl front ↦ absurd (omega arith)
      | inr other ↦ elim other [
        | inl behind ↦ then.same k (inr (inl (omega arith)))
        | inr current ↦
            then.same k (inr (inr (current ∙ ap (λ v. v % 2) (sym (behind-version (k / 8192) high)))))
      ]
    ]
  ]

  as-before : (k : ℕ) → (k / 8192 < first)
      ⊎ ((first + (at + more) ≤ k / 8192) ⊎ (k % 8192 / 4096 ≡ version_of old (k / 8192) % 2))
      → slice_index mid k ≡ slice_index old k
  as-before k apart = before.same k (elim apart [
    | inl front ↦ inl front
    | inr other ↦ inr (elim other [
      | inl behind ↦ inl (omega arith)
      | inr current ↦ inr current
    ])
  ])

  -- a page before these stays
  early : (j k : ℕ) → j < at → k < 4096
      → slice_index new (next_at old (first + j) + k) ≡ slice_index mid (next_at old (first + j) + k)
  early j k low small = then.same (next_at old (first + j) + k) (inl (omega arith))

  late : (j k : ℕ) → j < more → k < 4096
      → (slice_index new (next_at old (first + (at + j)) + k) ≡ slice_index old (next_at old (first + (at + j)) + k))
      ⊎ (slice_index new (next_at old (first + (at + j)) + k) ≡ slice_index (next_of old first (at + j) areas) k)
  late j k low small =
      let place : next_at mid (first + at + j) + k ≡ next_at old (first + (at + j)) + k =
      ap (λ n. n + k) (place-next j) in
      elim (then.each j k low small) [
        | inl same ↦ inl (sym (ap (slice_index new) place) ∙ same ∙ ap (slice_index mid) place
            ∙ before.same (next_at old (first + (at + j)) + k) (inr (inl (omega arith))))
        | inr written ↦ inr (sym (ap (slice_index new) place) ∙ written ∙ ap (λ l. slice_index l k) (of-next j low))
      ]

  pub writes-next : WritesTwins old new first (at + more) areas
  writes-next = record {
    same = λ k apart. still k apart ∙ as-before k apart;
    each = λ j k low small. elim (cases_lt j at) [
      | inl less ↦ elim (before.each j k less small) [
        | inl same ↦ inl (early j k less small ∙ same)
        | inr written ↦ inr (early j k less small ∙ written)
      ]
      | inr high ↦
          let F : ℕ → Type 0 =
          λ i. (slice_index new (next_at old (first + i) + k) ≡ slice_index old (next_at old (first + i) + k))
          ⊎ (slice_index new (next_at old (first + i) + k) ≡ slice_index (next_of old first i areas) k) in
          let here : at + (j - at) ≡ j = omega arith in
          subst F here (late (j - at) k (omega arith) small)
    ];
  }

  pub has-next : HasTwins old mid first at areas → HasTwins mid new (first + at) more rest
      → HasTwins old new first (at + more) areas
  has-next has then_has j low = elim (cases_lt j at) [
    | inl less ↦ (
      (has j less).0,
      part-same new mid (next_at old (first + j)) (next_at old (first + j)) 4096 (λ k small. early j k less small)
          ∙ (has j less).1,
    )
    | inr high ↦
        let i = j - at in
        let here : at + i ≡ j = omega arith in
        let page : first + at + i ≡ first + (at + i) = omega arith in
        let did = then_has i (omega arith) in
        let same = behind-version (first + at + i) (omega arith) ∙ ap (version_of old) page in
        let small = did.0 in
        let F : ℕ → Type 0 =
        λ i. (version_of old (first + i) + 1 < 2 ^ 64)
        × (part_of new (next_at old (first + i)) 4096 ≡ next_of old first i areas) in
        subst F here (
          omega (arith, same, small),
          part-at new (next_at old (first + (at + i))) (next_at mid (first + at + i)) (sym (place-next i))
              ∙ did.1 ∙ of-next i (omega arith),
        )
  ]

-- the cells of the pages behind
pub part-rest : (areas : List ℕ) (at j : ℕ)
    → part_of (take (length areas - 3168 * at) (drop (3168 * at) areas)) (3168 * j) 3168
    ≡ part_of areas (3168 * (at + j)) 3168
part-rest areas at j =
    let rest = drop (3168 * at) areas in
    let size = length-drop (3168 * at) areas in
    ap (λ l. part_of l (3168 * j) 3168) (take_all (length areas - 3168 * at) rest (omega arith))
    ∙ part-same rest areas (3168 * j) (3168 * (at + j)) 3168 (λ k small.
    let place : 3168 * at + (3168 * j + k) ≡ 3168 * (at + j) + k = omega arith in
    get_or-drop (3168 * at) areas (3168 * j + k) 0 ∙ ap (slice_index areas) place)

-- the pages behind are written later
pub writes-more : (old new : List ℕ) (first at count : ℕ) (areas : List ℕ)
    → at ≤ count → WritesTwins old new first at areas
    → WritesTwins old new first count areas
writes-more old new first at count areas more writes = record {
  same = λ k apart. writes.same k (elim apart [
    | inl front ↦ inl front
    | inr other ↦ inr (elim other [
      | inl behind ↦ inl (omega arith)
      | inr current ↦ inr current
    ])
  ]);
  each = λ j k low small. elim (cases_lt j at) [
    | inl less ↦ writes.each j k less small
    | inr late ↦ inl (writes.same (next_at old (first + j) + k) (inr (inl (omega arith))))
  ];
}

-- What the pages are then

module _ (old new : List ℕ) (first count : ℕ) (areas : List ℕ) (writes : WritesTwins old new first count areas) where
  pub page-apart : (p : ℕ) → (p < first) ⊎ (first + count ≤ p)
      → (k : ℕ) → k < 8192 → slice_index new (8192 * p + k) ≡ slice_index old (8192 * p + k)
  page-apart p apart k low = writes.same (8192 * p + k) (elim apart [
    | inl front ↦ inl (omega arith)
    | inr behind ↦ inr (inl (omega arith))
  ])

  current-stays : (p k : ℕ) → k < 4096 → slice_index new (8192 * p + 4096 * (version_of old p % 2) + k)
      ≡ slice_index old (8192 * p + 4096 * (version_of old p % 2) + k)
  current-stays p k low =
      let at = 8192 * p + 4096 * (version_of old p % 2) + k in
      let page : at / 8192 ≡ p = omega arith in
      let place : at % 8192 / 4096 ≡ version_of old p % 2 = omega arith in
      writes.same at (inr (inr (place ∙ ap (λ q. version_of old q % 2) (sym page))))

  pub page-put : first + count ≤ 349526 → HasTwins old new first count areas → (j : ℕ) → j < count
      → (version_of new (first + j) ≡ version_of old (first + j) + 1)
      × (area_in new (first + j) ≡ part_of areas (3168 * j) 3168)
  page-put most has j low =
      next-is old new (first + j) (part_of areas (3168 * j) 3168) (omega arith) (has j low).0
      (length-part_of areas (3168 * j) 3168) (current-stays (first + j)) (has j low).1

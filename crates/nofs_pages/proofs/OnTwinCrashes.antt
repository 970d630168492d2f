-- Whatever a crash leaves in a place that was being written, cells are whole.
use Rattle.std.proofs.Common.{◌≡◌, ℕ, ◌+◌, ◌-◌, ◌*◌, ◌/◌, ◌%◌, ◌<◌, ◌⊎◌, true, false, List, arith, sym, ap}
use Rattle.std.proofs.Common.{◌∙◌, inl, inr}
use Rattle.std.specs.Prelude.{slice_index, slice_range}
use Rattle.std.proofs.lemmas.Bool.{cases_lt, false≢true}
use Rattle.nofs_disk.specs.CellsOfBytes.{cell_in, part_of}
use Rattle.nofs_filedisk.proofs.OnMoving.Units.{cell-same-bytes}
use Rattle.nofs_pages.specs.Crashes.{TwinsKeepCells, TwinsStayTold}
use Rattle.nofs_pages.specs.Laws.{at-all_bytes}
use Rattle.nofs_pages.specs.Singles.{HasSamePart}
use Rattle.nofs_pages.specs.Twins.{IsTwinTold, is_blank, is_twin, next_at, twin_byte, twin_version, version_of}
use Rattle.nofs_pages.specs.Views.{all_bytes}
use Rattle.nofs_pages.specs.declared.place.Current.TheVariants.{First, Second, Neither}
use Rattle.nofs_pages.proofs.OnPages.{at-part_of, length-part_of}
use Rattle.nofs_pages.proofs.OnPlaces.{area-at, even-first, is-first, is-neither, is-second, odd-second}
use Rattle.nofs_pages.proofs.OnTwins.{area-same, area_in, byte-area, next-is, part-at, part-kept, version-in}

-- One page

module _ (raw new : List ℕ) (p : ℕ) (stays : HasSamePart (8192 * p + 4096 * (version_of raw p % 2)) 4096 new raw) where
  one : List ℕ
  one = part_of raw (8192 * p) 4096

  two : List ℕ
  two = part_of raw (8192 * p + 4096) 4096

  then_one : List ℕ
  then_one = part_of new (8192 * p) 4096

  then_two : List ℕ
  then_two = part_of new (8192 * p + 4096) 4096

  kept-one : version_of raw p % 2 ≡ 0 → then_one ≡ one
  unfolding one then_one
  kept-one even = part-kept raw new (8192 * p + 4096 * (version_of raw p % 2)) (8192 * p) (omega (arith, even)) stays

  kept-two : version_of raw p % 2 ≡ 1 → then_two ≡ two
  unfolding two then_two
  kept-two odd =
      part-kept raw new (8192 * p + 4096 * (version_of raw p % 2)) (8192 * p + 4096) (omega (arith, odd)) stays

  version-parts : version_of raw p % 2 ≡ twin_version p one two % 2
  unfolding one two
  version-parts = ap (λ v. v % 2) (version-in raw p)

  -- the other place is not told
  even-area : version_of raw p % 2 ≡ 0 → is_twin 1 p then_two ≡ false → area_in new p ≡ area_in raw p
  unfolding area_in one two then_one then_two
  even-area even torn =
      let same = kept-one even in
      elim (even-first p one two (sym version-parts ∙ even)) [
        | inl first ↦
            area-at p then_one then_two First (is-first p then_one then_two (ap (is_twin 0 p) same ∙ first.0) torn)
            ∙ ap (λ l. slice_range l 928 4096) same ∙ sym (area-at p one two First first.1)
        | inr none ↦
            area-at p then_one then_two Neither (is-neither p then_one then_two (ap (is_twin 0 p) same ∙ none.0) torn)
            ∙ sym (area-at p one two Neither none.3)
      ]

  odd-area : version_of raw p % 2 ≡ 1 → is_twin 0 p then_one ≡ false → area_in new p ≡ area_in raw p
  unfolding area_in one two then_one then_two
  odd-area odd torn =
      let same = kept-two odd in
      elim (odd-second p one two (sym version-parts ∙ odd)) [
        | inl second ↦
            area-at p then_one then_two Second (is-second p then_one then_two torn (ap (is_twin 1 p) same ∙ second.0))
            ∙ ap (λ l. slice_range l 928 4096) same ∙ sym (area-at p one two Second second.1)
        | inr none ↦
            area-at p then_one then_two Neither (is-neither p then_one then_two torn (ap (is_twin 1 p) same ∙ none.1))
            ∙ sym (area-at p one two Neither none.3)
      ]

  pub torn-area : is_twin ((version_of raw p + 1) % 2) p (part_of new (next_at raw p) 4096) ≡ false
      → area_in new p ≡ area_in raw p
  unfolding then_one then_two
  torn-area torn = elim (cases_lt (version_of raw p % 2) 1) [
    | inl even ↦
        let odd : (version_of raw p + 1) % 2 ≡ 1 = omega arith in
        even-area (omega arith)
        (ap (is_twin 1 p) (sym (part-at new (next_at raw p) (8192 * p + 4096) (omega arith)))
        ∙ ap (λ i. is_twin i p (part_of new (next_at raw p) 4096)) (sym odd) ∙ torn)
    | inr odd ↦
        let even : (version_of raw p + 1) % 2 ≡ 0 = omega arith in
        odd-area (omega arith)
        (ap (is_twin 0 p) (sym (part-at new (next_at raw p) (8192 * p) (omega arith)))
        ∙ ap (λ i. is_twin i p (part_of new (next_at raw p) 4096)) (sym even) ∙ torn)
  ]

  pub both-area : HasSamePart (next_at raw p) 4096 new raw → area_in new p ≡ area_in raw p
  both-area other = area-same raw new p (λ k low. elim (cases_lt (k / 4096) 1) [
    | inl early ↦ elim (cases_lt (version_of raw p % 2) 1) [
      | inl even ↦
          let place : 8192 * p + k ≡ 8192 * p + 4096 * (version_of raw p % 2) + k = omega arith in
          ap (slice_index new) place ∙ stays k (omega arith) ∙ sym (ap (slice_index raw) place)
      | inr odd ↦
          let place : 8192 * p + k ≡ next_at raw p + k = omega arith in
          ap (slice_index new) place ∙ other k (omega arith) ∙ sym (ap (slice_index raw) place)
    ]
    | inr late ↦ elim (cases_lt (version_of raw p % 2) 1) [
      | inl even ↦
          let place : 8192 * p + k ≡ next_at raw p + (k - 4096) = omega arith in
          ap (slice_index new) place ∙ other (k - 4096) (omega arith) ∙ sym (ap (slice_index raw) place)
      | inr odd ↦
          let place : 8192 * p + k ≡ 8192 * p + 4096 * (version_of raw p % 2) + (k - 4096) = omega arith in
          ap (slice_index new) place ∙ stays (k - 4096) (omega arith) ∙ sym (ap (slice_index raw) place)
    ]
  ])

  -- one of them is blank
  is-blank : IsTwinTold p one two → is_twin 0 p one ≡ false → is_twin 1 p two ≡ false
      → (is_blank one ≡ true) ⊎ (is_blank two ≡ true)
  is-blank told first second = elim told [
    | inl front ↦ absurd (false≢true (sym first ∙ front))
    | inr other ↦ elim other [
      | inl back ↦ absurd (false≢true (sym second ∙ back))
      | inr blank ↦ blank
    ]
  ]

  pub still-told : IsTwinTold p (part_of raw (8192 * p) 4096) (part_of raw (8192 * p + 4096) 4096)
      → IsTwinTold p (part_of new (8192 * p) 4096) (part_of new (8192 * p + 4096) 4096)
  unfolding one two then_one then_two
  still-told told = elim (cases_lt (version_of raw p % 2) 1) [
    | inl even ↦
        let same = kept-one (omega arith) in
        elim (even-first p one two (sym version-parts ∙ omega arith)) [
          | inl first ↦ inl (ap (is_twin 0 p) same ∙ first.0)
          | inr none ↦ inr (inr (inl (ap is_blank same ∙ elim none.2 [
            | inl blank ↦ blank
            | inr full ↦ elim (is-blank told none.0 none.1) [
              | inl front ↦ front
              | inr back ↦ absurd (false≢true (sym full ∙ back))
            ]
          ])))
        ]
    | inr odd ↦
        let odd_now : version_of raw p % 2 ≡ 1 = omega arith in
        let same = kept-two odd_now in
        elim (odd-second p one two (sym version-parts ∙ odd_now)) [
          | inl second ↦ inr (inl (ap (is_twin 1 p) same ∙ second.0))
          | inr none ↦ inr (inr (inr (ap is_blank same ∙ elim none.2 [
            | inl blank ↦ blank
            | inr full ↦ elim (is-blank told none.0 none.1) [
              | inl front ↦ absurd (false≢true (sym full ∙ front))
              | inr back ↦ back
            ]
          ])))
        ]
  ]

-- One cell

-- of a page that has what is durable
same-cell : (durable crashed : List ℕ) (n : ℕ) → n < 1048576 → area_in crashed (n / 3) ≡ area_in durable (n / 3)
    → cell_in (all_bytes (twin_byte crashed)) n ≡ cell_in (all_bytes (twin_byte durable)) n
same-cell durable crashed n low same =
    cell-same-bytes (all_bytes (twin_byte crashed)) (all_bytes (twin_byte durable)) n (λ k small.
    let at = 1056 * n + k in
    let page : at / 3168 ≡ n / 3 = omega arith in
    at-all_bytes (twin_byte crashed) at (omega arith) ∙ byte-area crashed (n / 3) at page
    ∙ ap (λ l. slice_index l (at % 3168)) same
    ∙ sym (at-all_bytes (twin_byte durable) at (omega arith) ∙ byte-area durable (n / 3) at page))

-- and of one that has what was put
put-cell : (crashed : List ℕ) (cells : ℕ → ℕ) (n : ℕ) → n < 1048576
    → area_in crashed (n / 3) ≡ part_of (all_bytes cells) (3168 * (n / 3)) 3168
    → cell_in (all_bytes (twin_byte crashed)) n ≡ cell_in (all_bytes cells) n
put-cell crashed cells n low is =
    cell-same-bytes (all_bytes (twin_byte crashed)) (all_bytes cells) n (λ k small.
    let at = 1056 * n + k in
    let page : at / 3168 ≡ n / 3 = omega arith in
    let place : 3168 * (n / 3) + at % 3168 ≡ at = omega arith in
    at-all_bytes (twin_byte crashed) at (omega arith) ∙ byte-area crashed (n / 3) at page
    ∙ ap (λ l. slice_index l (at % 3168)) is
    ∙ at-part_of (all_bytes cells) (3168 * (n / 3)) 3168 (at % 3168) (omega arith)
    ∙ ap (slice_index (all_bytes cells)) place)

pub twins-keep-cells : TwinsKeepCells
twins-keep-cells durable cells now crashed left n low =
    let p = n / 3 in
    let page = left p (omega arith) in
    elim page.1 [
      | inl same ↦ inl (same-cell durable crashed n low (both-area durable crashed p page.0 same))
      | inr rest ↦ elim rest [
        | inl put ↦
            let area = part_of (all_bytes (cells put.0)) (3168 * p) 3168 in
            let is = next-is durable crashed p area (omega arith) put.2
            (length-part_of (all_bytes (cells put.0)) (3168 * p) 3168)
            page.0 put.3 in
            inr (put.0, put.1, put-cell crashed (cells put.0) n low is.1)
        | inr torn ↦ inl (same-cell durable crashed n low (torn-area durable crashed p page.0 torn))
      ]
    ]

pub twins-stay-told : TwinsStayTold
twins-stay-told durable cells now crashed left p low = still-told durable crashed p (left p low).0

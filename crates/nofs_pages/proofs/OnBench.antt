-- One place or two that are made one behind the other, and are put by one call.
use Rattle.std.proofs.Common.{◌≡◌, ℕ, ◌+◌, ◌-◌, ◌*◌, ◌%◌, ◌^◌, ◌<◌, ◌≤◌, List, ◌++◌, length, take, drop}
use Rattle.std.proofs.Common.{arith, sym, ap, ◌∙◌, inl, inr, subst}
use Rattle.std.specs.Prelude.{slice_index, slice_range}
use Rattle.std.proofs.lemmas.Bool.{cases_lt}
use borrow.Rule.Slice.PartMut.{put_mid}
use Rattle.std.proofs.lemmas.List.{drop-drop, get_or-take, length-take-le}
use Rattle.nofs_disk.specs.CellsOfBytes.{part-range, part_of}
use Rattle.nofs_disk.specs.Number.{put_bytes}
use Rattle.nofs_filedisk.specs.Bytes.{IsPartlyPut, IsPut}
use Rattle.nofs_filedisk.proofs.OnMoving.Bytes.{put-before, put-inside}
use Rattle.nofs_pages.specs.Twins.{HasTwins, WritesTwins, next_at, next_of, twin_sealed, version_of}
use Rattle.nofs_pages.proofs.OnPages.{length-part_of}
use Rattle.nofs_pages.proofs.OnPlaces.{length-twin}
use Rattle.nofs_pages.proofs.OnTwins.{put-has, put-writes}

-- A place is made

pub put-place : (to number version from : ℕ) (areas raw page : List ℕ) → number < 2 ^ 64 → version < 2 ^ 64
    → from + 3168 ≤ length areas → page ≡ twin_sealed number version (slice_range areas from (from + 3168))
    → put_mid to (to + 4096 - to) raw page ≡ put_bytes to (twin_sealed number version (part_of areas from 3168)) raw
unfolding put_bytes
put-place to number version from areas raw page low small fits is =
    let area = part_of areas from 3168 in
    let made = twin_sealed number version area in
    let size = length-twin number version area low small (length-part_of areas from 3168) in
    let end : to + (to + 4096 - to) ≡ to + length made = omega (arith, size) in
    ap (λ l. put_mid to (to + 4096 - to) raw l) (is ∙ ap (twin_sealed number version) (part-range areas from 3168 fits))
    ∙ ap (λ l. take to raw ++ (made ++ l)) (drop-drop (to + 4096 - to) to raw ∙ ap (λ n. drop n raw) end)

module _ (old base bench : List ℕ) (p j version : ℕ) (areas : List ℕ) (low : p + j < 349526) (small : version < 2 ^ 64)
    (known : version ≡ version_of old (p + j) + 1) (room : 4096 * j + 4096 ≤ length base)
    (made : bench ≡ put_bytes (4096 * j) (twin_sealed (p + j) version (part_of areas (3168 * j) 3168)) base) where
  page : List ℕ
  page = twin_sealed (p + j) version (part_of areas (3168 * j) 3168)

  length-page : length page ≡ 4096
  unfolding page
  length-page =
      length-twin (p + j) version (part_of areas (3168 * j) 3168) (omega arith) small
      (length-part_of areas (3168 * j) 3168)

  at-made : (k : ℕ) → k < 4096 → slice_index bench (4096 * j + k) ≡ slice_index (next_of old p j areas) k
  unfolding page
  at-made k inside =
      let size = length-page in
      ap (λ l. slice_index l (4096 * j + k)) made ∙ put-inside (4096 * j) k page base (omega arith) (omega arith)
      ∙ ap (λ v. slice_index (twin_sealed (p + j) v (part_of areas (3168 * j) 3168)) k) known

  before-made : (i : ℕ) → i < 4096 * j → slice_index bench i ≡ slice_index base i
  unfolding page
  before-made i before =
      ap (λ l. slice_index l i) made ∙ put-before (4096 * j) i page base (omega arith) before

  place-made : next_at old (p + j) ≡ 8192 * (p + j) + 4096 * (version % 2)
  place-made = ap (λ v. 8192 * (p + j) + 4096 * (v % 2)) (sym known)

-- It is put

module _ (old new base bench : List ℕ) (p version : ℕ) (areas : List ℕ) (low : p < 349526) (small : version < 2 ^ 64)
    (known : version ≡ version_of old p + 1) (room : length base ≡ 8192) (size : length bench ≡ 8192)
    (made : bench ≡ put_bytes (4096 * 0) (twin_sealed (p + 0) version (part_of areas (3168 * 0) 3168)) base) where
  known-here : version ≡ version_of old (p + 0) + 1
  known-here =
      let here : p ≡ p + 0 = omega arith in
      known ∙ ap (λ q. version_of old q + 1) here

  one-next : (j : ℕ) → j < 1 → next_at old (p + j) ≡ 8192 * p + 4096 * (version % 2) + 4096 * j
  one-next j one =
      let none : 0 ≡ j = omega arith in
      let F : ℕ → Type 0 = λ i. next_at old (p + i) ≡ 8192 * p + 4096 * (version % 2) + 4096 * i in
      let place =
      place-made old base bench p 0 version areas (omega arith) small known-here (omega arith) made in
      subst F none (omega (arith, place))

  one-made : (j k : ℕ) → j < 1 → k < 4096
      → slice_index (take (4096 * 1) bench) (4096 * j + k) ≡ slice_index (next_of old p j areas) k
  one-made j k one inside =
      let none : 0 ≡ j = omega arith in
      let F : ℕ → Type 0 =
      λ i. slice_index (take (4096 * 1) bench) (4096 * i + k) ≡ slice_index (next_of old p i areas) k in
      subst F none (get_or-take (4096 * 1) bench (4096 * 0 + k) 0 (omega arith)
      ∙ at-made old base bench p 0 version areas (omega arith) small known-here (omega arith) made k inside)

  length-one : length (take (4096 * 1) bench) ≡ 4096 * 1
  length-one = length-take-le (4096 * 1) bench (omega arith)

  one-version : (j : ℕ) → j < 1 → version_of old (p + j) + 1 < 2 ^ 64
  one-version j one =
      let here : p ≡ p + j = omega arith in
      let same = ap (version_of old) here in
      omega (arith, same, known, small)

  pub one-writes : IsPartlyPut (8192 * p + 4096 * (version % 2)) (take (4096 * 1) bench) old new
      → WritesTwins old new p 1 areas
  one-writes =
      put-writes old new p 1 (8192 * p + 4096 * (version % 2)) areas (take (4096 * 1) bench) length-one one-next
      one-made

  pub one-has : IsPut (8192 * p + 4096 * (version % 2)) (take (4096 * 1) bench) old new → HasTwins old new p 1 areas
  one-has did =
      put-has old new p 1 (8192 * p + 4096 * (version % 2)) areas (take (4096 * 1) bench) length-one one-next one-made
      did one-version (omega arith)

-- Two that touch are

module _ (old new base mid bench : List ℕ) (p first second : ℕ) (areas : List ℕ) (low : p + 2 ≤ 349526)
    (small_first : first < 2 ^ 64) (small_second : second < 2 ^ 64)
    (known_first : first ≡ version_of old p + 1) (known_second : second ≡ version_of old (p + 1) + 1)
    (odd : first % 2 ≡ 1) (even : second % 2 ≡ 0)
    (room : length base ≡ 8192) (room_mid : length mid ≡ 8192) (size : length bench ≡ 8192)
    (made_first : mid ≡ put_bytes (4096 * 0) (twin_sealed (p + 0) first (part_of areas (3168 * 0) 3168)) base)
    (made_second : bench ≡ put_bytes (4096 * 1) (twin_sealed (p + 1) second (part_of areas (3168 * 1) 3168)) mid) where
  known-first : first ≡ version_of old (p + 0) + 1
  known-first =
      let here : p ≡ p + 0 = omega arith in
      known_first ∙ ap (λ q. version_of old q + 1) here

  two-next : (j : ℕ) → j < 2 → next_at old (p + j) ≡ 8192 * p + 4096 * (first % 2) + 4096 * j
  two-next j two =
      let F : ℕ → Type 0 = λ i. next_at old (p + i) ≡ 8192 * p + 4096 * (first % 2) + 4096 * i in
      elim (cases_lt j 1) [
        | inl none ↦
            let is : 0 ≡ j = omega arith in
            let place = place-made old base mid p 0 first areas (omega arith) small_first known-first (omega arith)
            made_first in
            subst F is (omega (arith, place))
        | inr one ↦
            let is : 1 ≡ j = omega arith in
            let place = place-made old mid bench p 1 second areas (omega arith) small_second known_second (omega arith)
            made_second in
            subst F is (omega (arith, place, odd, even))
      ]

  two-made : (j k : ℕ) → j < 2 → k < 4096
      → slice_index (take (4096 * 2) bench) (4096 * j + k) ≡ slice_index (next_of old p j areas) k
  two-made j k two inside =
      let F : ℕ → Type 0 =
      λ i. slice_index (take (4096 * 2) bench) (4096 * i + k) ≡ slice_index (next_of old p i areas) k in
      elim (cases_lt j 1) [
        | inl none ↦
            let is : 0 ≡ j = omega arith in
            subst F is (get_or-take (4096 * 2) bench (4096 * 0 + k) 0 (omega arith)
            ∙ before-made old mid bench p 1 second areas (omega arith) small_second known_second (omega arith)
            made_second (4096 * 0 + k) (omega arith)
            ∙ at-made old base mid p 0 first areas (omega arith) small_first known-first (omega arith) made_first
            k inside)
        | inr one ↦
            let is : 1 ≡ j = omega arith in
            subst F is (get_or-take (4096 * 2) bench (4096 * 1 + k) 0 (omega arith)
            ∙ at-made old mid bench p 1 second areas (omega arith) small_second known_second (omega arith) made_second
            k inside)
      ]

  length-two : length (take (4096 * 2) bench) ≡ 4096 * 2
  length-two = length-take-le (4096 * 2) bench (omega arith)

  two-version : (j : ℕ) → j < 2 → version_of old (p + j) + 1 < 2 ^ 64
  two-version j two = elim (cases_lt j 1) [
    | inl none ↦
        let here : p ≡ p + j = omega arith in
        let same = ap (version_of old) here in
        omega (arith, same, known_first, small_first)
    | inr one ↦
        let here : p + 1 ≡ p + j = omega arith in
        let same = ap (version_of old) here in
        omega (arith, same, known_second, small_second)
  ]

  pub two-writes : IsPartlyPut (8192 * p + 4096 * (first % 2)) (take (4096 * 2) bench) old new
      → WritesTwins old new p 2 areas
  two-writes =
      put-writes old new p 2 (8192 * p + 4096 * (first % 2)) areas (take (4096 * 2) bench) length-two two-next two-made

  pub two-has : IsPut (8192 * p + 4096 * (first % 2)) (take (4096 * 2) bench) old new → HasTwins old new p 2 areas
  two-has did =
      put-has old new p 2 (8192 * p + 4096 * (first % 2)) areas (take (4096 * 2) bench) length-two two-next two-made did
      two-version low

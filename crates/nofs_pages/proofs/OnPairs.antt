-- Pages with two places that are opened one after the other, and what is known of their versions then.
use Rattle.std.proofs.Common.{◌≡◌, ◌≢◌, ℕ, ◌+◌, ◌-◌, ◌*◌, ◌<◌, ◌≤◌, ◌⊎◌, List, length, drop}
use Rattle.std.proofs.Common.{arith, refl, sym, ap, ◌∙◌, inl, inr, subst}
use Rattle.std.specs.Prelude.{IsTrue, slice_index, slice_range}
use Rattle.std.proofs.lemmas.Bool.{cases_lt, cases_order}
use Rattle.std.proofs.lemmas.List.{length-drop, length-take-le}
use Rattle.nofs_disk.specs.Number.{length-zeros, put_bytes}
use Rattle.nofs_disk.specs.Parts.{length-put_bytes}
use Rattle.nofs_disk.specs.CellsOfBytes.{part-range, part_of}
use Rattle.nofs_filedisk.specs.Bytes.{HostFileState, KeepsBytes, KeepsDurable}
use Rattle.nofs_filedisk.proofs.OnMoving.Bytes.{put-before, put-behind, put-inside}
use Rattle.nofs_filedisk.proofs.OnMoving.Units.{part-same}
use Rattle.nofs_pages.specs.Twins.{HasReadPairs, HasTwinAreas, HasTwins, HasTwinsTold, IsTwinTold, KnowsVersions}
use Rattle.nofs_pages.specs.Twins.{LearnsVersions}
use Rattle.nofs_pages.specs.Twins.{WritesTwins, area_by, current_of, next_in, twin_area}
use Rattle.nofs_pages.specs.Twins.{twin_version, version_of}
use Rattle.nofs_pages.specs.declared.place.Current.{Current}
use Rattle.nofs_pages.specs.declared.place.Current.TheVariants.{First, Second, Neither}
use Rattle.nofs_pages.specs.declared.versions.Versions.{Versions}
use Rattle.nofs_pages.proofs.OnPages.{length-part_of}
use Rattle.nofs_pages.proofs.OnTwins.{area_in, page-apart, page-put, version-in, version-same}

-- Both places among those that were read

pub one-is : (raw : List ℕ) (at : ℕ) → 8192 * (at + 1) ≤ length raw
    → slice_range raw (8192 * at) (8192 * at + 4096) ≡ part_of raw (8192 * at) 4096
one-is raw at room = part-range raw (8192 * at) 4096 (omega arith)

pub two-is : (raw : List ℕ) (at : ℕ) → 8192 * (at + 1) ≤ length raw
    → slice_range raw (8192 * at + 4096) (8192 * at + 8192) ≡ part_of raw (8192 * at + 4096) 4096
two-is raw at room =
    let end : 8192 * at + 8192 ≡ 8192 * at + 4096 + 4096 = omega arith in
    ap (slice_range raw (8192 * at + 4096)) end ∙ part-range raw (8192 * at + 4096) 4096 (omega arith)

-- Versions are learned

pub learns-begin : (raw : List ℕ) (first : ℕ) (versions : Versions) → LearnsVersions raw first 0 versions versions
learns-begin raw first versions p = inl refl

module _ (raw : List ℕ) (first at version : ℕ) (before mid new : Versions) (room : 8192 * (at + 1) ≤ length raw)
    (learns : LearnsVersions raw first at before mid)
    (is : version ≡ twin_version (first + at) (slice_range raw (8192 * at) (8192 * at + 4096))
    (slice_range raw (8192 * at + 4096) (8192 * at + 8192)))
    (here : (next_in new (first + at) ≡ version + 1) ⊎ (next_in new (first + at) ≡ 0))
    (others : (p : ℕ) → p ≢ first + at → next_in new p ≡ next_in mid p) where
  version-is : version ≡ twin_version (first + at) (part_of raw (8192 * at) 4096) (part_of raw (8192 * at + 4096) 4096)
  version-is =
      is ∙ ap (λ l. twin_version (first + at) l (slice_range raw (8192 * at + 4096) (8192 * at + 8192)))
      (one-is raw at room)
      ∙ ap (twin_version (first + at) (part_of raw (8192 * at) 4096)) (two-is raw at room)

  other-learned : (p : ℕ) → p ≢ first + at → (next_in new p ≡ next_in before p) ⊎ ((next_in new p ≡ 0)
      ⊎ ((j : ℕ) × (j < at + 1) × (p ≡ first + j) × (next_in new p
      ≡ twin_version (first + j) (part_of raw (8192 * j) 4096) (part_of raw (8192 * j + 4096) 4096) + 1)))
  other-learned p apart =
      let same = others p apart in
      elim (learns p) [
        | inl old ↦ inl (same ∙ old)
        | inr rest ↦ inr (elim rest [
          | inl none ↦ inl (same ∙ none)
          | inr learned ↦
              let low = learned.1 in
              inr (learned.0, omega (arith, low), learned.2, same ∙ learned.3)
        ])
      ]

  pub learns-next : LearnsVersions raw first (at + 1) before new
  learns-next p = elim (cases_order p (first + at)) [
    | inl page ↦ elim here [
      | inl noted ↦ inr (inr (at, omega arith, page, ap (next_in new) page ∙ noted ∙ ap (λ v. v + 1) version-is))
      | inr none ↦ inr (inl (ap (next_in new) page ∙ none))
    ]
    | inr order ↦ elim order [
      | inl low ↦ other-learned p (λ e. omega (arith, e, low))
      | inr high ↦ other-learned p (λ e. omega (arith, e, high))
    ]
  ]

pub learns-more : (raw : List ℕ) (first at count : ℕ) (before new : Versions) → at ≤ count
    → LearnsVersions raw first at before new → LearnsVersions raw first count before new
learns-more raw first at count before new most learns p = elim (learns p) [
  | inl old ↦ inl old
  | inr rest ↦ inr (elim rest [
    | inl none ↦ inl none
    | inr learned ↦
        let low = learned.1 in
        inr (learned.0, omega (arith, low, most), learned.2, learned.3)
  ])
]

-- Pages are opened

length-cells : (page : List ℕ) → length page ≡ 4096 → length (slice_range page 928 4096) ≡ 3168
length-cells page size =
    let rest = length-drop 928 page in
    length-take-le (4096 - 928) (drop 928 page) (omega arith)

length-by : (c : Current) (one two : List ℕ) → length one ≡ 4096 → length two ≡ 4096 → length (area_by c one two) ≡ 3168
length-by First one two size_one size_two = length-cells one size_one
length-by Second one two size_one size_two = length-cells two size_two
length-by Neither one two size_one size_two = length-zeros 3168

length-area : (number : ℕ) (one two : List ℕ) → length one ≡ 4096 → length two ≡ 4096
    → length (twin_area number one two) ≡ 3168
unfolding twin_area
length-area number one two size_one size_two = length-by (current_of number one two) one two size_one size_two

pub areas-begin : (raw : List ℕ) (first to : ℕ) (old : List ℕ) → HasTwinAreas raw first 0 to old old
areas-begin raw first to old =
    record { inside = λ j k low small. absurd (omega (arith, low)); others = λ i apart. refl }

module _ (raw : List ℕ) (first at to : ℕ) (old mid new : List ℕ) (room : 8192 * (at + 1) ≤ length raw)
    (fits : to + 3168 * (at + 1) ≤ length mid) (has : HasTwinAreas raw first at to old mid)
    (is : new ≡ put_bytes (to + 3168 * at) (twin_area (first + at) (slice_range raw (8192 * at) (8192 * at + 4096))
    (slice_range raw (8192 * at + 4096) (8192 * at + 8192))) mid) where
  one : List ℕ
  one = part_of raw (8192 * at) 4096

  two : List ℕ
  two = part_of raw (8192 * at + 4096) 4096

  size : length (twin_area (first + at) one two) ≡ 3168
  unfolding one two
  size = length-area (first + at) one two (length-part_of raw (8192 * at) 4096)
      (length-part_of raw (8192 * at + 4096) 4096)

  opened : new ≡ put_bytes (to + 3168 * at) (twin_area (first + at) one two) mid
  unfolding one two
  opened =
      is ∙ ap (λ l. put_bytes (to + 3168 * at)
      (twin_area (first + at) l (slice_range raw (8192 * at + 4096) (8192 * at + 8192))) mid)
      (one-is raw at room)
      ∙ ap (λ l. put_bytes (to + 3168 * at) (twin_area (first + at) one l) mid) (two-is raw at room)

  late : (k : ℕ) → k < 3168 → slice_index new (to + (3168 * at + k)) ≡ slice_index (twin_area (first + at) one two) k
  late k small =
      let len = size in
      let place : to + (3168 * at + k) ≡ to + 3168 * at + k = omega arith in
      ap (slice_index new) place ∙ ap (λ l. slice_index l (to + 3168 * at + k)) opened
      ∙ put-inside (to + 3168 * at) k (twin_area (first + at) one two) mid (omega arith) (omega arith)

  pub areas-next : HasTwinAreas raw first (at + 1) to old new
  unfolding one two
  areas-next =
      let len = size in
      record {
        inside = λ j k low small. elim (cases_lt j at) [
          | inl early ↦ ap (λ l. slice_index l (to + (3168 * j + k))) opened
              ∙ put-before (to + 3168 * at) (to + (3168 * j + k)) (twin_area (first + at) one two) mid
              (omega arith) (omega arith)
              ∙ has.inside j k early small
          | inr more ↦
              let here : at ≡ j = omega arith in
              let F : ℕ → Type 0 = λ i. slice_index new (to + (3168 * i + k))
              ≡ slice_index
              (twin_area (first + i) (part_of raw (8192 * i) 4096) (part_of raw (8192 * i + 4096) 4096)) k in
              subst F here (late k small)
        ];
        others = λ i apart. elim apart [
          | inl front ↦ ap (λ l. slice_index l i) opened
              ∙ put-before (to + 3168 * at) i (twin_area (first + at) one two) mid (omega arith) (omega arith)
              ∙ has.others i (inl front)
          | inr behind ↦ ap (λ l. slice_index l i) opened
              ∙ put-behind (to + 3168 * at) i (twin_area (first + at) one two) mid (omega arith) (omega arith)
              ∙ has.others i (inr (omega arith))
        ];
      }

  pub length-next : length new ≡ length mid
  unfolding one two
  length-next =
      let len = size in
      ap length opened ∙ length-put_bytes (to + 3168 * at) (twin_area (first + at) one two) mid (omega arith)

pub told-begin : (raw : List ℕ) (first : ℕ) → HasTwinsTold raw first 0
told-begin raw first j low = absurd (omega (arith, low))

pub told-next : (raw : List ℕ) (first at : ℕ) → 8192 * (at + 1) ≤ length raw → HasTwinsTold raw first at
    → IsTwinTold (first + at) (slice_range raw (8192 * at) (8192 * at + 4096))
    (slice_range raw (8192 * at + 4096) (8192 * at + 8192))
    → HasTwinsTold raw first (at + 1)
told-next raw first at room has told j low = elim (cases_lt j at) [
  | inl early ↦ has j early
  | inr more ↦
      let here : at ≡ j = omega arith in
      let F : List ℕ → Type 0 =
      λ l. IsTwinTold (first + at) l (slice_range raw (8192 * at + 4096) (8192 * at + 8192)) in
      let G : List ℕ → Type 0 = λ l. IsTwinTold (first + at) (part_of raw (8192 * at) 4096) l in
      let H : ℕ → Type 0 =
      λ i. IsTwinTold (first + i) (part_of raw (8192 * i) 4096) (part_of raw (8192 * i + 4096) 4096) in
      subst H here (subst G (two-is raw at room) (subst F (one-is raw at room) told))
]

-- Pages that were read

module _ (raw pairs : List ℕ) (first count j : ℕ) (read : HasReadPairs raw first count pairs) (low : j < count) where
  read-one : part_of pairs (8192 * j) 4096 ≡ part_of raw (8192 * (first + j)) 4096
  read-one =
      part-same pairs raw (8192 * j) (8192 * (first + j)) 4096 (λ k small.
      let place : 8192 * first + (8192 * j + k) ≡ 8192 * (first + j) + k = omega arith in
      read (8192 * j + k) (omega arith) ∙ ap (slice_index raw) place)

  read-two : part_of pairs (8192 * j + 4096) 4096 ≡ part_of raw (8192 * (first + j) + 4096) 4096
  read-two =
      part-same pairs raw (8192 * j + 4096) (8192 * (first + j) + 4096) 4096 (λ k small.
      let place : 8192 * first + (8192 * j + 4096 + k) ≡ 8192 * (first + j) + 4096 + k = omega arith in
      read (8192 * j + 4096 + k) (omega arith) ∙ ap (slice_index raw) place)

  read-version : twin_version (first + j) (part_of pairs (8192 * j) 4096) (part_of pairs (8192 * j + 4096) 4096)
      ≡ version_of raw (first + j)
  read-version =
      ap (λ l. twin_version (first + j) l (part_of pairs (8192 * j + 4096) 4096)) read-one
      ∙ ap (twin_version (first + j) (part_of raw (8192 * (first + j)) 4096)) read-two
      ∙ sym (version-in raw (first + j))

  pub read-area : twin_area (first + j) (part_of pairs (8192 * j) 4096) (part_of pairs (8192 * j + 4096) 4096)
      ≡ area_in raw (first + j)
  unfolding area_in
  read-area =
      ap (λ l. twin_area (first + j) l (part_of pairs (8192 * j + 4096) 4096)) read-one
      ∙ ap (twin_area (first + j) (part_of raw (8192 * (first + j)) 4096)) read-two

  pub read-told : IsTwinTold (first + j) (part_of pairs (8192 * j) 4096) (part_of pairs (8192 * j + 4096) 4096)
      → IsTwinTold (first + j) (part_of raw (8192 * (first + j)) 4096) (part_of raw (8192 * (first + j) + 4096) 4096)
  read-told told =
      let F : List ℕ → Type 0 = λ l. IsTwinTold (first + j) l (part_of pairs (8192 * j + 4096) 4096) in
      let G : List ℕ → Type 0 = λ l. IsTwinTold (first + j) (part_of raw (8192 * (first + j)) 4096) l in
      subst G read-two (subst F read-one told)

pub known-learned : (old new : HostFileState) (before after : Versions) (pairs : List ℕ) (first count : ℕ)
    → KeepsBytes old new → (IsTrue old.tells → HasReadPairs old.bytes first count pairs) → KnowsVersions old before
    → LearnsVersions pairs first count before after → KnowsVersions new after
known-learned old new before after pairs first count keeps read known learns tells p some =
    let told : IsTrue old.tells = sym keeps.tells ∙ tells in
    let same = ap (λ l. version_of l p + 1) keeps.bytes in
    elim (learns p) [
      | inl stays ↦ stays ∙ known told p (omega (arith, stays, some)) ∙ sym same
      | inr rest ↦ elim rest [
        | inl none ↦ absurd (omega (arith, none, some))
        | inr learned ↦
            let j = learned.0 in
            learned.3 ∙ ap (λ v. v + 1) (read-version old.bytes pairs first count j (read told) learned.1)
            ∙ ap (λ q. version_of old.bytes q + 1) (sym learned.2) ∙ sym same
      ]
    ]

pub known-kept : (old new : HostFileState) (versions : Versions) → KeepsBytes old new → KnowsVersions old versions
    → KnowsVersions new versions
known-kept old new versions keeps known tells p some =
    known (sym keeps.tells ∙ tells) p some ∙ sym (ap (λ l. version_of l p + 1) keeps.bytes)

-- Versions that are known after pages were put

-- of one page
abbrev pub KnowsOne : List ℕ → Versions → ℕ → Type 0
KnowsOne raw versions p = 0 < next_in versions p → next_in versions p ≡ version_of raw p + 1

pub knows-one : (raw : List ℕ) (versions : Versions) (p : ℕ) → KnowsOne raw versions p
    → (q : ℕ) → p ≤ q → q < p + 1 → KnowsOne raw versions q
knows-one raw versions p known q low high =
    let is : p ≡ q = omega arith in
    subst (KnowsOne raw versions) is known

pub knows-two : (raw : List ℕ) (versions : Versions) (p : ℕ) → KnowsOne raw versions p → KnowsOne raw versions (p + 1)
    → (q : ℕ) → p ≤ q → q < p + 2 → KnowsOne raw versions q
knows-two raw versions p one two q low high = elim (cases_lt q (p + 1)) [
  | inl first ↦ knows-one raw versions p one q low first
  | inr second ↦ knows-one raw versions (p + 1) two q second (omega arith)
]

pub known-kept-one : (before after : Versions) (raw : List ℕ) (p : ℕ) → next_in after p ≡ next_in before p
    → KnowsOne raw before p → KnowsOne raw after p
known-kept-one before after raw p same known some = same ∙ known (omega (arith, same, some))

-- a page apart from some is none of them
pub apart-of : (p count q r : ℕ) → p ≤ q → q < p + count → (r < p) ⊎ (p + count ≤ r) → r ≢ q
apart-of p count q r low high (inl before) is = omega (arith, low, before, is)
apart-of p count q r low high (inr behind) is = omega (arith, high, behind, is)

pub known-after : (old new : HostFileState) (before after : Versions) (p count : ℕ) (areas : List ℕ)
    → KeepsDurable old new → (IsTrue old.tells → WritesTwins old.bytes new.bytes p count areas)
    → KnowsVersions old before → ((q : ℕ) → (q < p) ⊎ (p + count ≤ q) → next_in after q ≡ next_in before q)
    → (IsTrue old.tells → (q : ℕ) → p ≤ q → q < p + count → KnowsOne new.bytes after q) → KnowsVersions new after
known-after old new before after p count areas keeps writes known others here tells q some =
    let told : IsTrue old.tells = sym keeps.tells ∙ tells in
    let at_other : (q < p) ⊎ (p + count ≤ q) → next_in after q ≡ version_of new.bytes q + 1 =
    λ apart.
    let same = others q apart in
    let one = known told q (omega (arith, same, some)) in
    let two =
    version-same old.bytes new.bytes q (page-apart old.bytes new.bytes p count areas (writes told) q apart) in
    same ∙ one ∙ ap (λ v. v + 1) (sym two) in
    elim (cases_lt q p) [
      | inl low ↦ at_other (inl low)
      | inr high ↦ elim (cases_lt q (p + count)) [
        | inl inside ↦ here told q high inside some
        | inr behind ↦ at_other (inr behind)
      ]
    ]

pub known-none : (versions : Versions) (new : List ℕ) (p : ℕ) → next_in versions p ≡ 0 → KnowsOne new versions p
known-none versions new p none some = absurd (omega (arith, none, some))

pub known-noted : (versions : Versions) (old new : List ℕ) (p count j q version : ℕ) (areas : List ℕ)
    → p + count ≤ 349526 → WritesTwins old new p count areas → HasTwins old new p count areas → j < count → q ≡ p + j
    → version ≡ version_of old q + 1 → (next_in versions q ≡ version + 1) ⊎ (next_in versions q ≡ 0)
    → KnowsOne new versions q
known-noted versions old new p count j q version areas most writes has low is next (inr none) some =
    absurd (omega (arith, none, some))
known-noted versions old new p count j q version areas most writes has low is next (inl noted) some =
    let put = (page-put old new p count areas writes most has j low).0 in
    let one = ap (version_of new) is in
    let two = ap (version_of old) is in
    omega (arith, noted, next, put, one, two)

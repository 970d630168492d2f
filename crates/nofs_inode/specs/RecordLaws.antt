-- A record has one spelling, and what spells it is read as it.
use Rattle.std.specs.Prelude.{◌≡◌, ℕ, zero, suc, ◌+◌, ◌-◌, ◌*◌, ◌/◌, ◌<◌, ◌≤◌, ◌⊎◌, Bool, true, false, ◌&&◌, not, List}
use Rattle.std.specs.Prelude.{[], ◌∷◌, length, All, Decides, get_or}
use Rattle.std.specs.Prelude.{replicate, Option, Some, None, if◌then◌else◌, nat_le, ◌==◌, slice_index, refl}
use Rattle.std.specs.List.{list_all}
use Rattle.std.proofs.Common.{arith, sym, ap, ap₂, ◌∙◌, inl, inr, ⊎_elim, subst, leb-true, le-leb, eq-eqb, eqb-true}
use Rattle.std.proofs.lemmas.Bool.{and_from, and_parts, cases_eq, cases_lt}
use Rattle.std.proofs.lemmas.Bool.Decides.{Decides-and, Decides-by_and, Decides-eqb, Decides-like, Decides-not}
use Rattle.std.proofs.lemmas.Bool.Decides.{Decides-or}
use Rattle.std.proofs.lemmas.Option.{none-some}
use Rattle.nofs_disk.specs.Number.{number_at}
use Rattle.nofs_disk.specs.OneSpelling.{number_at-same}
use Rattle.nofs_disk.specs.Pointer.{null, is_null, pointer_in}
use Rattle.nofs_disk.specs.declared.tag.Pointer.{Pointer}
use Rattle.nofs_inode.specs.Beside.{SameRange}
use Rattle.nofs_inode.specs.InodeRecords.{AllowsKind, AllowsRecord, HasNumbers, HasRecordSpelling, IsLiveSpelling}
use Rattle.nofs_inode.specs.InodeRecords.{IsTidyLink, SpellsRecord, allows_kind}
use Rattle.nofs_inode.specs.InodeRecords.{allows_record, direct_in, fields_in, file_kind_number, file_kind_of}
use Rattle.nofs_inode.specs.InodeRecords.{free_record, has_rest, is_empty_link, is_free}
use Rattle.nofs_inode.specs.InodeRecords.{is_no_link, is_tidy_link, largest_size, link_count, link_in, links_in}
use Rattle.nofs_inode.specs.InodeRecords.{no_link, record_of, record_or_free}
use Rattle.nofs_inode.specs.InodeRecords.{record_with}
use Rattle.nofs_inode.specs.declared.inode.FileKind.{FileKind}
use Rattle.nofs_inode.specs.declared.inode.FileKind.TheVariants.{File, Directory}
use Rattle.nofs_inode.specs.declared.inode.BackLink.{BackLink}
use Rattle.nofs_inode.specs.declared.inode.Record.{Record}

decides-le : (a b : ℕ) → Decides (nat_le a b) (a ≤ b)
decides-le a b = (leb-true a b, le-leb a b)

decides-null : (x : Pointer) → Decides (is_null x) (x ≡ null)
decides-null x =
    Decides-like (is_null x)
    (λ h. (λ i. record { block = h.0 i; stamp = h.1 i }))
    (λ e. (ap (λ (p : Pointer). p.block) e, ap (λ (p : Pointer). p.stamp) e))
    (Decides-and (x.block == 0) (x.stamp == 0) (Decides-eqb x.block 0) (Decides-eqb x.stamp 0))

decides-tidy : (l : BackLink) → Decides (is_tidy_link l) (IsTidyLink l)
decides-tidy l =
    let rest = Decides-and (l.entry == 0) (l.generation == 0) (Decides-eqb l.entry 0) (Decides-eqb l.generation 0) in
    Decides-like (is_tidy_link l)
    (λ o e. ⊎_elim (λ apart. absurd (apart e)) (λ zeros. zeros) o)
    (λ h. elim (cases_eq l.directory 0) [ inl e ↦ inr (h e) | inr apart ↦ inl apart ])
    (Decides-or (not (is_empty_link l)) ((l.entry == 0) && (l.generation == 0))
    (Decides-not (is_empty_link l) (Decides-eqb l.directory 0)) rest)

decides-tidies : (links : List BackLink) → Decides (list_all is_tidy_link links) (All IsTidyLink links)
decides-tidies = Decides-by_and is_tidy_link IsTidyLink (list_all is_tidy_link) decides-tidy refl (λ _ _. refl)

decides-kind : (kind : FileKind) (r : Record) → Decides (allows_kind kind r) (AllowsKind kind r)
decides-kind File r = decides-le r.size largest_size
decides-kind Directory r =
    Decides-like (allows_kind Directory r)
    (λ h. (h.0.0, h.0.1, h.1))
    (λ h. ((h.0, h.1), h.2))
    (Decides-and ((r.size == 0) && nat_le (link_count r.links) 1) (is_null r.top)
    (Decides-and (r.size == 0) (nat_le (link_count r.links) 1) (Decides-eqb r.size 0)
    (decides-le (link_count r.links) 1)) (decides-null r.top))

decides-live : (kind : FileKind) (r : Record) → Decides (allows_record (Some kind) r) (IsLiveSpelling kind r)
decides-live kind r =
    Decides-like (allows_record (Some kind) r)
    (λ h. record { generation = h.0.0; tidy = h.0.1; allowed = h.1 })
    (λ h. ((h.generation, h.tidy), h.allowed))
    (Decides-and (nat_le 1 r.generation && list_all is_tidy_link r.links) (allows_kind kind r)
    (Decides-and (nat_le 1 r.generation) (list_all is_tidy_link r.links) (decides-le 1 r.generation)
    (decides-tidies r.links)) (decides-kind kind r))

-- the test answers true for a record that has a spelling
pub allowed-true : (k : Option FileKind) (r : Record) → AllowsRecord k r → allows_record k r ≡ true
allowed-true None r e = ap is_free e
allowed-true (Some kind) r live = (decides-live kind r).1 live

file_kind_of-number : (k : Option FileKind) → file_kind_of (file_kind_number k) ≡ k
file_kind_of-number None = refl
file_kind_of-number (Some File) = refl
file_kind_of-number (Some Directory) = refl

-- the bytes that spell a record are read as it
pub record_of-spells : (index : ℕ) (bytes : List ℕ) (r : Record) → SpellsRecord (256 * index) bytes r
    → record_of index bytes ≡ Some r
unfolding record_of fields_in
record_of-spells index bytes r s =
    let at = 256 * index in
    let kind : file_kind_of (number_at 4 (at + 8) bytes) ≡ r.kind = ap file_kind_of s.numbers.kind
    ∙ file_kind_of-number r.kind in
    let fields : fields_in at bytes ≡ r =
    λ i. record {
      generation = s.numbers.generation i;
      kind = kind i;
      links = s.links i;
      size = s.numbers.size i;
      direct = s.direct i;
      leaf = s.leaf i;
      top =
          s.top i;
    } in
    let rest : has_rest at bytes r ≡ true =
    and_from _ _ (and_from _ _ (eq-eqb (number_at 4 (at + 8) bytes) (file_kind_number r.kind) s.numbers.kind)
    (eq-eqb (number_at 4 (at + 12) bytes) (link_count r.links) s.numbers.count))
    (eq-eqb (number_at 8 (at + 24) bytes) 0 s.numbers.zero) in
    ap (record_with at bytes) fields
    ∙ ap (λ (b : Bool). if b then Some r else None) (and_from _ _ rest (allowed-true r.kind r s.allowed))

-- What a record is read from

decides-no_link : (l : BackLink) → Decides (is_no_link l) (l ≡ no_link)
decides-no_link l =
    Decides-like (is_no_link l)
    (λ h. (λ i. record { directory = h.0.0 i; entry = h.0.1 i; generation = h.1 i }))
    (λ e.
    ((ap (λ (x : BackLink). x.directory) e, ap (λ (x : BackLink). x.entry) e), ap (λ (x : BackLink). x.generation) e))
    (Decides-and ((l.directory == 0) && (l.entry == 0)) (l.generation == 0)
    (Decides-and (l.directory == 0) (l.entry == 0) (Decides-eqb l.directory 0) (Decides-eqb l.entry 0))
    (Decides-eqb l.generation 0))

-- a list whose items pass a test that one item alone passes
all-one : {X : Type 0} (p : X → Bool) (x : X) → ((y : X) → p y ≡ true → y ≡ x)
    → (n : ℕ) (ys : List X) → length ys ≡ n → list_all p ys ≡ true
    → ys ≡ replicate n x
all-one p x one zero [] len e = refl
all-one p x one (suc n) [] len e = absurd (omega arith)
all-one p x one zero (y ∷ ys) len e = absurd (omega arith)
all-one p x one (suc n) (y ∷ ys) len e = let parts = and_parts (p y) (list_all p ys) e in
    ap₂ (λ a l. a ∷ l) (one y parts.0)
    (all-one p x one n ys (omega arith) parts.1)

free-from : (r : Record) → r.kind ≡ None → length r.links ≡ 4 → length r.direct ≡ 8 → is_free r ≡ true → r ≡ free_record
free-from r kind links direct e =
    let a = and_parts ((r.generation == 0) && (r.size == 0) && list_all is_no_link r.links && list_all is_null r.direct
    && is_null r.leaf) (is_null r.top) e in
    let b = and_parts ((r.generation == 0) && (r.size == 0) && list_all is_no_link r.links && list_all is_null r.direct)
    (is_null r.leaf) a.0 in
    let c = and_parts ((r.generation == 0) && (r.size == 0) && list_all is_no_link r.links)
    (list_all is_null r.direct) b.0 in
    let d = and_parts ((r.generation == 0) && (r.size == 0)) (list_all is_no_link r.links) c.0 in
    let f = and_parts (r.generation == 0) (r.size == 0) d.0 in
    let generation = eqb-true r.generation 0 f.0 in
    let size = eqb-true r.size 0 f.1 in
    let empty : r.links ≡ replicate 4 no_link =
    all-one is_no_link no_link (λ l. (decides-no_link l).0) 4 r.links links d.1 in
    let nulls : r.direct ≡ replicate 8 null = all-one is_null null (λ x. (decides-null x).0) 8 r.direct direct c.1 in
    let leaf = (decides-null r.leaf).0 b.1 in
    let top = (decides-null r.top).0 a.1 in
    λ i. record {
      generation = generation i;
      kind = kind i;
      links = empty i;
      size = size i;
      direct = nulls i;
      leaf = leaf i;
      top = top i;
    }

allowed-from : (k : Option FileKind) (r : Record)
    → r.kind ≡ k → length r.links ≡ 4 → length r.direct ≡ 8 → allows_record k r ≡ true → AllowsRecord k r
allowed-from None r kind links direct e = free-from r kind links direct e
allowed-from (Some kind) r is links direct e = (decides-live kind r).0 e

-- a record that passes the test has a spelling
pub HasRecordSpelling-from : (r : Record)
    → length r.links ≡ 4 → length r.direct ≡ 8 → allows_record r.kind r ≡ true → HasRecordSpelling r
HasRecordSpelling-from r links direct e = allowed-from r.kind r refl links direct e

-- the bytes that are read as a record spell it
pub record_of-read : (index : ℕ) (bytes : List ℕ) (r : Record) → record_of index bytes ≡ Some r
    → SpellsRecord (256 * index) bytes r
unfolding record_of fields_in
record_of-read index bytes r e = go (has_rest at bytes F && allows_record F.kind F) refl e
  where
    at : ℕ
    at = 256 * index

    F : Record
    F = fields_in at bytes

    spells : (has_rest at bytes F && allows_record F.kind F) ≡ true → SpellsRecord at bytes F
    spells t =
        let parts = and_parts (has_rest at bytes F) (allows_record F.kind F) t in
        let rest = and_parts ((number_at 4 (at + 8) bytes == file_kind_number F.kind)
        && (number_at 4 (at + 12) bytes == link_count F.links))
        (number_at 8 (at + 24) bytes == 0) parts.0 in
        let numbers = and_parts (number_at 4 (at + 8) bytes == file_kind_number F.kind)
        (number_at 4 (at + 12) bytes == link_count F.links) rest.0 in
        record {
          numbers = record {
            generation = refl;
            kind = eqb-true (number_at 4 (at + 8) bytes) (file_kind_number F.kind) numbers.0;
            count = eqb-true (number_at 4 (at + 12) bytes) (link_count F.links) numbers.1;
            size = refl;
            zero = eqb-true (number_at 8 (at + 24) bytes) 0 rest.1;
          };
          links = refl;
          direct = refl;
          leaf = refl;
          top = refl;
          allowed = allowed-from F.kind F refl refl refl parts.1;
        }

    go : (b : Bool) → (has_rest at bytes F && allows_record F.kind F) ≡ b → (if b then Some F else None) ≡ Some r
        → SpellsRecord at bytes r
    go true t e = subst (λ (x : Record). SpellsRecord at bytes x) (ap record_or_free e) (spells t)
    go false t e = absurd (none-some r e)

-- a free record has zeros alone
pub record_of-free : (index : ℕ) (bytes : List ℕ) (r : Record) → record_of index bytes ≡ Some r
    → r.kind ≡ None → r ≡ free_record
record_of-free index bytes r e kind =
    subst (λ (k : Option FileKind). AllowsRecord k r) kind (record_of-read index bytes r e).allowed

-- One spelling

links_in-at : (at : ℕ) (bytes : List ℕ) (j : ℕ)
    → j < 4 → get_or (links_in at bytes) j no_link ≡ link_in (at + 16 * j) bytes
links_in-at at bytes zero h = ap (λ p. link_in p bytes) (omega arith)
links_in-at at bytes (suc zero) h = ap (λ p. link_in p bytes) (omega arith)
links_in-at at bytes (suc (suc zero)) h = ap (λ p. link_in p bytes) (omega arith)
links_in-at at bytes (suc (suc (suc zero))) h = ap (λ p. link_in p bytes) (omega arith)
links_in-at at bytes (suc (suc (suc (suc j)))) h = absurd (omega arith)

pub direct_in-at : (at : ℕ) (bytes : List ℕ) (j : ℕ)
    → j < 8 → get_or (direct_in at bytes) j null ≡ pointer_in (at + 16 * j) bytes
direct_in-at at bytes zero h = ap (λ p. pointer_in p bytes) (omega arith)
direct_in-at at bytes (suc zero) h = ap (λ p. pointer_in p bytes) (omega arith)
direct_in-at at bytes (suc (suc zero)) h = ap (λ p. pointer_in p bytes) (omega arith)
direct_in-at at bytes (suc (suc (suc zero))) h = ap (λ p. pointer_in p bytes) (omega arith)
direct_in-at at bytes (suc (suc (suc (suc zero)))) h = ap (λ p. pointer_in p bytes) (omega arith)
direct_in-at at bytes (suc (suc (suc (suc (suc zero))))) h = ap (λ p. pointer_in p bytes) (omega arith)
direct_in-at at bytes (suc (suc (suc (suc (suc (suc zero)))))) h = ap (λ p. pointer_in p bytes) (omega arith)
direct_in-at at bytes (suc (suc (suc (suc (suc (suc (suc zero))))))) h = ap (λ p. pointer_in p bytes) (omega arith)
direct_in-at at bytes (suc (suc (suc (suc (suc (suc (suc (suc j)))))))) h = absurd (omega arith)

module _ (xs ys : List ℕ) (small_x : (k : ℕ) → slice_index xs k < 256)
    (small_y : (k : ℕ) → slice_index ys k < 256) where
  number-range : (n at : ℕ) → number_at n at xs ≡ number_at n at ys → SameRange at n xs ys
  number-range n at e k low high = number_at-same n at xs ys small_x small_y e k low high

  link-range : (at : ℕ) → link_in at xs ≡ link_in at ys → SameRange at 16 xs ys
  unfolding link_in
  link-range at e k low high = elim (cases_lt k (at + 4)) [
    | inl a ↦ number-range 4 at (ap (λ (l : BackLink). l.directory) e) k low a
    | inr b ↦ elim (cases_lt k (at + 8)) [
      | inl c ↦ number-range 4 (at + 4) (ap (λ (l : BackLink). l.entry) e) k b (omega arith)
      | inr d ↦ number-range 8 (at + 8) (ap (λ (l : BackLink). l.generation) e) k d (omega arith)
    ]
  ]

  pointer-range : (at : ℕ) → pointer_in at xs ≡ pointer_in at ys → SameRange at 16 xs ys
  unfolding pointer_in
  pointer-range at e k low high = elim (cases_lt k (at + 8)) [
    | inl a ↦ number-range 8 at (ap (λ (x : Pointer). x.block) e) k low a
    | inr b ↦ number-range 8 (at + 8) (ap (λ (x : Pointer). x.stamp) e) k b (omega arith)
  ]

  links-range : (at : ℕ) → links_in at xs ≡ links_in at ys → SameRange at 64 xs ys
  links-range at e k low high =
      let j = (k - at) / 16 in let below : j < 4 = omega arith in
      link-range (at + 16 * j) (sym (links_in-at at xs j below) ∙ ap (λ l. get_or l j no_link) e
      ∙ links_in-at at ys j below) k (omega arith) (omega arith)

  direct-range : (at : ℕ) → direct_in at xs ≡ direct_in at ys → SameRange at 128 xs ys
  direct-range at e k low high =
      let j = (k - at) / 16 in let below : j < 8 = omega arith in
      pointer-range (at + 16 * j) (sym (direct_in-at at xs j below) ∙ ap (λ l. get_or l j null) e
      ∙ direct_in-at at ys j below) k (omega arith) (omega arith)

  numbers-range : (at : ℕ) (r : Record) → HasNumbers at xs r → HasNumbers at ys r → SameRange at 32 xs ys
  numbers-range at r x y k low high = elim (cases_lt k (at + 8)) [
    | inl a ↦ number-range 8 at (x.generation ∙ sym y.generation) k low a
    | inr b ↦ elim (cases_lt k (at + 12)) [
      | inl c ↦ number-range 4 (at + 8) (x.kind ∙ sym y.kind) k b (omega arith)
      | inr d ↦ elim (cases_lt k (at + 16)) [
        | inl f ↦ number-range 4 (at + 12) (x.count ∙ sym y.count) k d (omega arith)
        | inr g ↦ elim (cases_lt k (at + 24)) [
          | inl h ↦ number-range 8 (at + 16) (x.size ∙ sym y.size) k g (omega arith)
          | inr i ↦ number-range 8 (at + 24) (x.zero ∙ sym y.zero) k i (omega arith)
        ]
      ]
    ]
  ]

  -- bytes that spell one record are the same
  pub SpellsRecord-range : (at : ℕ) (r : Record) → SpellsRecord at xs r → SpellsRecord at ys r → SameRange at 256 xs ys
  SpellsRecord-range at r x y k low high = elim (cases_lt k (at + 32)) [
    | inl a ↦ numbers-range at r x.numbers y.numbers k low a
    | inr b ↦ elim (cases_lt k (at + 96)) [
      | inl c ↦ links-range (at + 32) (x.links ∙ sym y.links) k b (omega arith)
      | inr d ↦ elim (cases_lt k (at + 224)) [
        | inl f ↦ direct-range (at + 96) (x.direct ∙ sym y.direct) k d (omega arith)
        | inr g ↦ elim (cases_lt k (at + 240)) [
          | inl h ↦ pointer-range (at + 224) (x.leaf ∙ sym y.leaf) k g (omega arith)
          | inr i ↦ pointer-range (at + 240) (x.top ∙ sym y.top) k i (omega arith)
        ]
      ]
    ]
  ]

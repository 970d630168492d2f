-- The other records of a cell stay as one is written, and the same bytes are the same record.
use Rattle.std.specs.Prelude.{◌≡◌, ℕ, zero, ◌+◌, ◌*◌, ◌<◌, ◌≤◌, ◌⊎◌, List, length, get_or}
use Rattle.std.specs.Prelude.{IfSome, Option, Some, None, slice_index, refl}
use Rattle.std.proofs.Common.{arith, sym, ap, ◌∙◌, inl, inr, subst}
use Rattle.std.proofs.lemmas.Bool.{cases_eq}
use Rattle.std.proofs.lemmas.List.{ext_get_or, get_or_default}
use Rattle.nofs_disk.specs.Number.{IsBytes, number_at}
use Rattle.nofs_disk.specs.Pointer.{null, pointer_in}
use Rattle.nofs_disk.specs.declared.tag.Pointer.{Pointer}
use Rattle.nofs_inode.specs.Beside.{SameBeside, SameBeside-range, SameBeside-trans, SameBeside-wider, SameRange}
use Rattle.nofs_inode.specs.Beside.{number_at-beside, number_at-range}
use Rattle.nofs_inode.specs.Beside.{pointer_in-beside}
use Rattle.nofs_inode.specs.InodeRecords.{HasNumbers, HasRecordSpelling}
use Rattle.nofs_inode.specs.InodeRecords.{direct_in, fields_in, file_kind_of}
use Rattle.nofs_inode.specs.InodeRecords.{link_in, links_in, no_link, record_of}
use Rattle.nofs_inode.specs.InodeRecords.{record_with}
use Rattle.nofs_inode.specs.declared.inode.BackLink.{BackLink}
use Rattle.nofs_inode.specs.declared.inode.Record.{Record}
use Rattle.nofs_inode.specs.RecordLaws.{record_of-read, direct_in-at, SpellsRecord-range}

-- The other records of a cell

link_in-same : (at : ℕ) (xs ys : List ℕ) → SameRange at 16 xs ys → link_in at xs ≡ link_in at ys
unfolding link_in
link_in-same at xs ys same =
    let directory = number_at-range 4 at xs ys (λ k low high. same k low (omega arith)) in
    let entry = number_at-range 4 (at + 4) xs ys (λ k low high. same k (omega arith) (omega arith)) in
    let generation = number_at-range 8 (at + 8) xs ys (λ k low high. same k (omega arith) (omega arith)) in
    λ i. record { directory = directory i; entry = entry i; generation = generation i }

pub link_in-beside : (at n to : ℕ) (old new : List ℕ) → SameBeside at n old new → (to + 16 ≤ at) ⊎ (at + n ≤ to)
    → link_in to new ≡ link_in to old
link_in-beside at n to old new same apart = link_in-same to new old (SameBeside-range at n to 16 old new same apart)

-- 16 bytes of a group that lies beside lie beside too
within : (at n to most j : ℕ) → j + 16 ≤ most → (to + most ≤ at) ⊎ (at + n ≤ to)
    → (to + j + 16 ≤ at) ⊎ (at + n ≤ to + j)
within at n to most j fits (inl before) = inl (omega (arith, fits, before))
within at n to most j fits (inr behind) = inr (omega (arith, behind))

first-within : (at n to most : ℕ) → 16 ≤ most → (to + most ≤ at) ⊎ (at + n ≤ to) → (to + 16 ≤ at) ⊎ (at + n ≤ to)
first-within at n to most fits (inl before) = inl (omega (arith, fits, before))
first-within at n to most fits (inr behind) = inr behind

pub links_in-beside : (at n to : ℕ) (old new : List ℕ) → SameBeside at n old new → (to + 64 ≤ at) ⊎ (at + n ≤ to)
    → links_in to new ≡ links_in to old
links_in-beside at n to old new same apart =
    let link : (j : ℕ) → j + 16 ≤ 64 → link_in (to + j) new ≡ link_in (to + j) old =
    λ j fits. link_in-beside at n (to + j) old new same (within at n to 64 j fits apart) in
    let first = link_in-beside at n to old new same (first-within at n to 64 (omega arith) apart) in
    rw (first, link 16 (omega arith), link 32 (omega arith), link 48 (omega arith)) refl

pub direct_in-beside : (at n to : ℕ) (old new : List ℕ) → SameBeside at n old new → (to + 128 ≤ at) ⊎ (at + n ≤ to)
    → direct_in to new ≡ direct_in to old
direct_in-beside at n to old new same apart =
    let at_place : (j : ℕ) → j + 16 ≤ 128 → pointer_in (to + j) new ≡ pointer_in (to + j) old =
    λ j fits. pointer_in-beside at n (to + j) old new same (within at n to 128 j fits apart) in
    rw (
      pointer_in-beside at n to old new same (first-within at n to 128 (omega arith) apart),
      at_place 16 (omega arith),
      at_place 32 (omega arith),
      at_place 48 (omega arith),
      at_place 64 (omega arith),
      at_place 80 (omega arith),
      at_place 96 (omega arith),
      at_place 112 (omega arith),
    ) refl

pub HasNumbers-beside : (at to n : ℕ) (r : Record) (old new : List ℕ) → at + 32 ≤ to → SameBeside to n old new
    → HasNumbers at old r → HasNumbers at new r
HasNumbers-beside at to n r old new behind same has = record {
  generation = number_at-beside to n 8 at old new same (inl (omega arith)) ∙ has.generation;
  kind = number_at-beside to n 4 (at + 8) old new same (inl (omega arith)) ∙ has.kind;
  count = number_at-beside to n 4 (at + 12) old new same (inl (omega arith)) ∙ has.count;
  size = number_at-beside to n 8 (at + 16) old new same (inl (omega arith)) ∙ has.size;
  zero = number_at-beside to n 8 (at + 24) old new same (inl (omega arith)) ∙ has.zero;
}

-- one more element of sixteen bytes is written
elements-more : {A : Type 0} (none : A) (read : ℕ → List ℕ → A)
    → ((p q : ℕ) (old new : List ℕ) → SameBeside p 16 old new → q + 16 ≤ p → read q new ≡ read q old)
    → (n at j : ℕ) (xs : List A) (d : A) (first old new : List ℕ) → length xs ≡ n → j < n
    → SameBeside at (16 * n) first old × ((k : ℕ) → k < j → read (at + 16 * k) old ≡ get_or xs k none)
    → read (at + 16 * j) new ≡ get_or xs j d → SameBeside (at + 16 * j) 16 old new
    → SameBeside at (16 * n) first new × ((k : ℕ) → k < j + 1 → read (at + 16 * k) new ≡ get_or xs k none)
elements-more none read beside n at j xs d first old new len low before value same = (
  SameBeside-trans at (16 * n) first old new before.0
      (SameBeside-wider at (16 * n) (at + 16 * j) 16 old new same (omega arith) (omega arith)),
  λ k small. elim (cases_eq k j) [
    | inl e ↦ subst (λ (i : ℕ). read (at + 16 * i) new ≡ get_or xs i none) (sym e)
        (value ∙ get_or_default xs j d none (omega arith))
    | inr apart ↦ beside (at + 16 * j) (at + 16 * k) old new same (omega arith) ∙ before.1 k (omega arith)
  ],
)

-- one more back link
pub links-more : (at j : ℕ) (links : List BackLink) (d : BackLink) (first old new : List ℕ) → length links ≡ 4 → j < 4
    → SameBeside at 64 first old × ((k : ℕ) → k < j → link_in (at + 16 * k) old ≡ get_or links k no_link)
    → link_in (at + 16 * j) new ≡ get_or links j d → SameBeside (at + 16 * j) 16 old new
    → SameBeside at 64 first new × ((k : ℕ) → k < j + 1 → link_in (at + 16 * k) new ≡ get_or links k no_link)
links-more at j =
    elements-more no_link link_in (λ p q old new same low. link_in-beside p 16 q old new same (inl low)) 4 at j

-- one more pointer
pub pointers-more : (at j : ℕ) (pointers : List Pointer) (d : Pointer) (first old new : List ℕ)
    → length pointers ≡ 8 → j < 8
    → SameBeside at 128 first old × ((k : ℕ) → k < j → pointer_in (at + 16 * k) old ≡ get_or pointers k null)
    → pointer_in (at + 16 * j) new ≡ get_or pointers j d → SameBeside (at + 16 * j) 16 old new
    → SameBeside at 128 first new × ((k : ℕ) → k < j + 1 → pointer_in (at + 16 * k) new ≡ get_or pointers k null)
pointers-more at j =
    elements-more null pointer_in (λ p q old new same low. pointer_in-beside p 16 q old new same (inl low)) 8 at j

-- all of them
pub direct_in-from : (at : ℕ) (bytes : List ℕ) (pointers : List Pointer) → length pointers ≡ 8
    → ((k : ℕ) → k < 8 → pointer_in (at + 16 * k) bytes ≡ get_or pointers k null) → direct_in at bytes ≡ pointers
direct_in-from at bytes pointers len each = ext_get_or null (direct_in at bytes) pointers (sym len)
    (λ k low. direct_in-at at bytes k (omega arith) ∙ each k (omega arith))

pointer_in-same : (at : ℕ) (xs ys : List ℕ) → SameRange at 16 xs ys → pointer_in at xs ≡ pointer_in at ys
unfolding pointer_in
pointer_in-same at xs ys same =
    let block = number_at-range 8 at xs ys (λ k low high. same k low (omega arith)) in
    let stamp = number_at-range 8 (at + 8) xs ys (λ k low high. same k (omega arith) (omega arith)) in
    λ i. record { block = block i; stamp = stamp i }

-- the same bytes are the same record
pub record_of-range : (index : ℕ) (xs ys : List ℕ) → SameRange (256 * index) 256 xs ys
    → record_of index xs ≡ record_of index ys
unfolding record_of fields_in
record_of-range index xs ys same =
    let at = 256 * index in
    let number : (n to : ℕ) → to + n ≤ 256 → number_at n (at + to) xs ≡ number_at n (at + to) ys =
    λ n to fits. number_at-range n (at + to) xs ys (λ k low high. same k (omega arith) (omega arith)) in
    let link : (to : ℕ) → at ≤ to → to + 16 ≤ at + 256 → link_in to xs ≡ link_in to ys =
    λ to low fits. link_in-same to xs ys (λ k a b. same k (omega arith) (omega arith)) in
    let pointer : (to : ℕ) → at ≤ to → to + 16 ≤ at + 256 → pointer_in to xs ≡ pointer_in to ys =
    λ to low fits. pointer_in-same to xs ys (λ k a b. same k (omega arith) (omega arith)) in
    let first : number_at 8 at xs ≡ number_at 8 at ys =
    number_at-range 8 at xs ys (λ k low high. same k low (omega arith)) in
    let kind = number 4 8 (omega arith) in
    let count = number 4 12 (omega arith) in
    let size = number 8 16 (omega arith) in
    let zero = number 8 24 (omega arith) in
    let links : links_in (at + 32) xs ≡ links_in (at + 32) ys =
    rw (
      link (at + 32) (omega arith) (omega arith),
      link (at + 32 + 16) (omega arith) (omega arith),
      link (at + 32 + 32) (omega arith) (omega arith),
      link (at + 32 + 48) (omega arith) (omega arith),
    ) refl in
    let direct : direct_in (at + 96) xs ≡ direct_in (at + 96) ys = rw (
      pointer (at + 96) (omega arith) (omega arith),
      pointer (at + 96 + 16) (omega arith) (omega arith),
      pointer (at + 96 + 32) (omega arith) (omega arith),
      pointer (at + 96 + 48) (omega arith) (omega arith),
      pointer (at + 96 + 64) (omega arith) (omega arith),
      pointer (at + 96 + 80) (omega arith) (omega arith),
      pointer (at + 96 + 96) (omega arith) (omega arith),
      pointer (at + 96 + 112) (omega arith) (omega arith),
    ) refl in
    let leaf = pointer (at + 224) (omega arith) (omega arith) in
    let top = pointer (at + 240) (omega arith) (omega arith) in
    let fields : fields_in at xs ≡ fields_in at ys = λ i. record {
      generation = first i;
      kind = file_kind_of (kind i);
      links = links i;
      size =
          size i;
      direct = direct i;
      leaf = leaf i;
      top = top i;
    } in
    let rest : (r : Record) → record_with at xs r ≡ record_with at ys r = λ r. rw (kind, count, zero) refl in
    rest (fields_in at xs) ∙ ap (record_with at ys) fields

-- what a reader answers has a spelling, and no other bytes are read as it
pub IfSome-spelling : (index : ℕ) (bytes : List ℕ) (o : Option Record) → o ≡ record_of index bytes
    → IfSome o HasRecordSpelling
IfSome-spelling index bytes None e = tt
IfSome-spelling index bytes (Some r) e = (record_of-read index bytes r (sym e)).allowed

pub IfSome-one : (index : ℕ) (bytes : List ℕ) (o : Option Record) → ((k : ℕ) → slice_index bytes k < 256)
    → o ≡ record_of index bytes
    → IfSome o (λ r. (other : List ℕ) → IsBytes 1024 other → record_of index other ≡ Some r
    → SameRange (256 * index) 256 other bytes)
IfSome-one index bytes None small e = tt
IfSome-one index bytes (Some r) small e =
    λ other is reads. SpellsRecord-range other bytes is.each small (256 * index) r (record_of-read index other r reads)
    (record_of-read index bytes r (sym e))

-- An entry has one spelling: the bytes that are read as it are the bytes that are written for it.
use Rattle.std.specs.Prelude.{◌≡◌, ℕ, ◌+◌, ◌-◌, ◌^◌, ◌<◌, ◌≤◌, Bool, true, false, ◌&&◌, ◌==◌, List, [], ◌∷◌, ◌++◌}
use Rattle.std.specs.Prelude.{length, take, drop, replicate, Option}
use Rattle.std.specs.Prelude.{Some, None, Result, Ok, Err, IfOk, IfSome, if◌then◌else◌, slice_index, nat_le, refl}
use Rattle.std.specs.List.{list_all}
use Rattle.std.proofs.Common.{arith, sym, ap, ap₂, ◌∙◌, inl, inr, subst, leb-true, eqb-true}
use Rattle.std.proofs.lemmas.Bool.{and_parts, cases_lt}
use Rattle.std.proofs.lemmas.List.{drop-drop, drop-replicate, ext_get_or, get_or-drop, length-drop, length-take-le}
use Rattle.std.proofs.lemmas.List.{take-append-drop}
use Rattle.std.proofs.lemmas.Option.{none-some}
use Rattle.nofs_disk.specs.Number.{IsBytes, drop-byte, number_at, number_at-lt, put_bytes-byte, put_number-byte}
use Rattle.nofs_disk.specs.Number.{take-byte, zeros, zeros-byte}
use Rattle.nofs_disk.specs.OneSpelling.{number_at-same}
use Rattle.nofs_dirent.specs.Names.{is_name, longest_name}
use Rattle.nofs_dirent.specs.NameLaws.{is_name-Decides}
use Rattle.nofs_dirent.specs.Entries.{HasEntrySpelling, entry_fields, entry_of, has_entry_spelling, has_zeros_after}
use Rattle.nofs_dirent.specs.Entries.{spelled_entry}
use Rattle.nofs_dirent.specs.EntryLaws.{generation-spelled, inode-spelled, length-spelled, length-spelled_entry}
use Rattle.nofs_dirent.specs.EntryLaws.{tail-spelled}
use Rattle.nofs_dirent.specs.declared.entry.Entry.{Entry}

zeros-alone : (xs : List ℕ) → list_all (λ b. b == 0) xs ≡ true → xs ≡ replicate (length xs) 0
zeros-alone [] e = refl
zeros-alone (x ∷ xs) e = let parts = and_parts (x == 0) (list_all (λ b. b == 0) xs) e in
    ap₂ (λ a l. a ∷ l) (eqb-true x 0 parts.0) (zeros-alone xs parts.1)

-- the parts of 64 bytes that spell an entry
pub record IsSpelled (bytes : List ℕ) (e : Entry) : Type 0 where
  pub inode : number_at 4 0 bytes ≡ e.inode
  pub size : number_at 4 4 bytes ≡ length e.name
  pub generation : number_at 8 8 bytes ≡ e.generation
  pub name : take (length e.name) (drop 16 bytes) ≡ e.name
  pub rest : list_all (λ b. b == 0) (drop (16 + length e.name) bytes) ≡ true
  pub has : HasEntrySpelling e

has-from : (e : Entry) → has_entry_spelling e ≡ true → HasEntrySpelling e
has-from e h =
    let parts = and_parts (nat_le 1 e.inode) (nat_le 1 e.generation && is_name e.name) h in
    let rest = and_parts (nat_le 1 e.generation) (is_name e.name) parts.1 in
    record {
      inode = leb-true 1 e.inode parts.0;
      generation = leb-true 1 e.generation rest.0;
      name = (is_name-Decides e.name).0 rest.1;
    }

get : Entry → Option Entry → Entry
get d None = d
get d (Some e) = e

-- bytes that are read as an entry spell it
pub spelled : (bytes : List ℕ) (e : Entry) → length bytes ≡ 64 → entry_of bytes ≡ Some e → IsSpelled bytes e
unfolding entry_of entry_fields get
spelled bytes e len is = go (has_zeros_after bytes n && has_entry_spelling F) refl is
  where
    n : ℕ
    n = number_at 4 4 bytes

    F : Entry
    F = entry_fields bytes

    parts-of : (has_zeros_after bytes n && has_entry_spelling F) ≡ true → IsSpelled bytes F
    parts-of t =
        let parts = and_parts (has_zeros_after bytes n) (has_entry_spelling F) t in
        let after = and_parts (nat_le n longest_name) (list_all (λ b. b == 0) (drop (16 + n) bytes)) parts.0 in
        let short : n ≤ 48 = leb-true n 48 after.0 in
        let size : length (take n (drop 16 bytes)) ≡ n =
        length-take-le n (drop 16 bytes) (omega (arith, length-drop 16 bytes)) in
        record {
          inode = refl;
          size = sym size;
          generation = refl;
          name = ap (λ k. take k (drop 16 bytes)) size;
          rest = ap (λ k. list_all (λ b. b == 0) (drop (16 + k) bytes)) size ∙ after.1;
          has = has-from F parts.1;
        }

    go : (b : Bool) → (has_zeros_after bytes n && has_entry_spelling F) ≡ b → (if b then Some F else None) ≡ Some e
        → IsSpelled bytes e
    go true t s = subst (λ (x : Entry). IsSpelled bytes x) (ap (get F) s) (parts-of t)
    go false t s = absurd (none-some e s)

module _ (bytes : List ℕ) (e : Entry) (is : IsBytes 64 bytes) (s : IsSpelled bytes e) where
  short : length e.name ≤ 48
  short = s.has.name.short

  name-byte : (k : ℕ) → slice_index e.name k < 256
  name-byte = subst (λ (l : List ℕ). (k : ℕ) → slice_index l k < 256) s.name
      (take-byte (length e.name) (drop 16 bytes) (drop-byte 16 bytes is.each))

  small : (k : ℕ) → slice_index (spelled_entry e.inode e.generation e.name) k < 256
  unfolding spelled_entry
  small = put_number-byte 4 0 e.inode _ (put_number-byte 4 4 (length e.name) _
      (put_number-byte 8 8 e.generation _ (put_bytes-byte 16 e.name (zeros 64) name-byte (zeros-byte 64))))

  tails : drop 16 bytes ≡ drop 16 (spelled_entry e.inode e.generation e.name)
  unfolding zeros
  tails =
      let n = length e.name in
      let fits = short in
      let size : length (drop (16 + n) bytes) ≡ 64 - (16 + n) = length-drop (16 + n) bytes
      ∙ ap (λ k. k - (16 + n)) is.len in
      let rest : drop (16 + n) bytes ≡ drop (16 + n) (zeros 64) =
      zeros-alone (drop (16 + n) bytes) s.rest ∙ ap (λ k. replicate k 0) size ∙ sym (drop-replicate (16 + n) 64 0) in
      sym (take-append-drop n (drop 16 bytes))
      ∙ ap₂ (λ a b. a ++ b) s.name (drop-drop n 16 bytes ∙ rest)
      ∙ sym (tail-spelled e.inode e.generation e.name fits)

  head : (n at : ℕ) → number_at n at bytes ≡ number_at n at (spelled_entry e.inode e.generation e.name)
      → (k : ℕ) → at ≤ k → k < at + n
      → slice_index bytes k ≡ slice_index (spelled_entry e.inode e.generation e.name) k
  head n at same k low high =
      number_at-same n at bytes (spelled_entry e.inode e.generation e.name) is.each small same k low high

  -- they are the bytes that are written for it
  pub one-spelling : bytes ≡ spelled_entry e.inode e.generation e.name
  one-spelling =
      let S = spelled_entry e.inode e.generation e.name in
      let fits = short in
      let len = is.len in
      let inode : number_at 4 0 bytes ≡ number_at 4 0 S = s.inode
      ∙ sym (inode-spelled e.inode e.generation e.name fits
      (subst (λ (x : ℕ). x < 2 ^ 32) s.inode (number_at-lt 4 0 bytes is.each))) in
      let size : number_at 4 4 bytes ≡ number_at 4 4 S =
      s.size ∙ sym (length-spelled e.inode e.generation e.name fits) in
      let generation : number_at 8 8 bytes ≡ number_at 8 8 S =
      s.generation ∙ sym (generation-spelled e.inode e.generation e.name fits
      (subst (λ (x : ℕ). x < 2 ^ 64) s.generation (number_at-lt 8 8 bytes is.each))) in
      ext_get_or 0 bytes S (len ∙ sym (length-spelled_entry e.inode e.generation e.name fits))
      (λ k low. elim (cases_lt k 4) [
        | inl a ↦ head 4 0 inode k (omega arith) a
        | inr b ↦ elim (cases_lt k 8) [
          | inl c ↦ head 4 4 size k b (omega arith)
          | inr d ↦ elim (cases_lt k 16) [
            | inl f ↦ head 8 8 generation k d (omega arith)
            | inr g ↦
                let place : 16 + (k - 16) ≡ k = omega arith in
                let behind : (l : List ℕ) → slice_index (drop 16 l) (k - 16) ≡ slice_index l k =
                λ l. get_or-drop 16 l (k - 16) 0 ∙ ap (slice_index l) place in
                sym (behind bytes) ∙ ap (λ l. slice_index l (k - 16)) tails ∙ behind S
          ]
        ]
      ])

-- What a reader answers

pub IfOk-spelling : {E : Type 0} (r : Result (Option Entry) E) (bytes : List ℕ)
    → length bytes ≡ 64 → IfOk r (λ o. o ≡ entry_of bytes)
    → IfOk r (λ o. IfSome o HasEntrySpelling)
IfOk-spelling (Err x) bytes len h = tt
IfOk-spelling (Ok None) bytes len h = tt
IfOk-spelling (Ok (Some e)) bytes len h = (spelled bytes e len (sym h)).has

pub IfOk-one : {E : Type 0} (r : Result (Option Entry) E) (bytes : List ℕ) → IsBytes 64 bytes
    → IfOk r (λ o. o ≡ entry_of bytes)
    → IfOk r (λ o. IfSome o (λ e. bytes ≡ spelled_entry e.inode e.generation e.name))
IfOk-one (Err x) bytes is h = tt
IfOk-one (Ok None) bytes is h = tt
IfOk-one (Ok (Some e)) bytes is h = one-spelling bytes e is (spelled bytes e is.len (sym h))

-- The bytes that spell an entry are read as it.
use Rattle.std.proofs.Common.{◌≡◌, ℕ, ◌+◌, ◌-◌, ◌^◌, ◌<◌, ◌≤◌, Bool, true, false, ◌&&◌, List, ◌++◌, length, take, drop}
use Rattle.std.proofs.Common.{Option, Some, None, if◌then◌else◌}
use Rattle.std.proofs.Common.{◌==◌, arith, refl, sym, ap, ◌∙◌, le-leb, replicate}
use Rattle.std.specs.List.{list_all}
use Rattle.std.proofs.Common.{bytes_eq, eq-eqb, eqb-true, is_some, leb-true, nat_le}
use Rattle.std.proofs.Math.Bool.{and-false}
use Rattle.std.proofs.lemmas.Bool.{and_from, and_parts}
use Rattle.std.proofs.lemmas.Option.{none-some}
use Rattle.std.proofs.lemmas.Slice.Eq.{bytes_eq-Decides}
use Rattle.std.proofs.lemmas.List.{length-drop}
use Rattle.std.proofs.lemmas.List.{drop_at, drop-drop, take_at, length-take-le, drop-replicate}
use Rattle.std.proofs.lemmas.List.Elements.{All-replicate}
use Rattle.std.proofs.lemmas.List.Sums.{list_all-from_AllPass}
use Rattle.nofs_disk.specs.Number.{number_at, put_bytes, put_number, zeros, length-zeros, length-put_number}
use Rattle.nofs_disk.specs.Number.{number_at-put_same, number_at-put_before}
use Rattle.nofs_disk.specs.Parts.{drop-put_number, length-put_bytes}
use Rattle.nofs_dirent.specs.Names.{NameOk}
use Rattle.nofs_dirent.specs.NameLaws.{is_name-Decides}
use Rattle.nofs_dirent.specs.Entries.{HasEntrySpelling, entry_fields, entry_of, entry_with, has_entry_spelling}
use Rattle.nofs_dirent.specs.Entries.{carries_name, has_zeros_after, is_named, name_of, spelled_entry}
use Rattle.nofs_dirent.specs.declared.entry.Entry.{Entry}

-- these 64 bytes are read as this entry
pub record Spells (bytes : List ℕ) (e : Entry) : Type 0 where
  pub short : length bytes ≡ 64
  pub reads : entry_of bytes ≡ Some e

-- bytes with the fields of an entry are read as it
pub Spells-from : (bytes : List ℕ) (e : Entry) → HasEntrySpelling e
    → length bytes ≡ 64 → number_at 4 0 bytes ≡ e.inode → number_at 4 4 bytes ≡ length e.name
    → number_at 8 8 bytes ≡ e.generation
    → take (length e.name) (drop 16 bytes) ≡ e.name → list_all (λ b. b == 0) (drop (16 + length e.name) bytes) ≡ true
    → Spells bytes e
unfolding entry_of entry_fields
Spells-from bytes e spelled len inode n generation name rest =
    let fields : entry_fields bytes ≡ e =
    λ i. record { inode = inode i; generation = generation i; name = (ap (λ k. take k (drop 16 bytes)) n ∙ name) i } in
    let zeros_after : has_zeros_after bytes (number_at 4 4 bytes) ≡ true =
    ap (has_zeros_after bytes) n ∙ and_from _ _ (le-leb (length e.name) 48 spelled.name.short) rest in
    let has : has_entry_spelling (entry_fields bytes) ≡ true =
    ap has_entry_spelling fields ∙ and_from _ _ (le-leb 1 e.inode spelled.inode)
    (and_from _ _ (le-leb 1 e.generation spelled.generation) ((is_name-Decides e.name).1 spelled.name)) in
    record {
      short = len;
      reads = ap (λ b. if b then Some (entry_fields bytes) else None) (and_from _ _ zeros_after has) ∙ ap Some fields;
    }

module _ (inode generation : ℕ) (name : List ℕ) (short : length name ≤ 48) where
  with_name : List ℕ
  with_name = put_bytes 16 name (zeros 64)

  length-named : length with_name ≡ 64
  unfolding with_name
  length-named = length-put_bytes 16 name (zeros 64) (omega (arith, length-zeros 64)) ∙ length-zeros 64

  abbrev second : List ℕ
  second = put_number 8 8 generation with_name

  length-second : length second ≡ 64
  length-second = let l = length-named in length-put_number 8 8 generation with_name (omega arith) ∙ l

  abbrev third : List ℕ
  third = put_number 4 4 (length name) second

  length-third : length third ≡ 64
  length-third = let l = length-second in length-put_number 4 4 (length name) second (omega arith) ∙ l

  -- what stands from the name on
  tail-named : drop 16 with_name ≡ name ++ drop (16 + length name) (zeros 64)
  unfolding with_name put_bytes
  tail-named = drop_at (take 16 (zeros 64)) (name ++ drop (16 + length name) (zeros 64)) 16
      (length-take-le 16 (zeros 64) (omega (arith, length-zeros 64)))

  pub tail-spelled : drop 16 (spelled_entry inode generation name) ≡ name ++ drop (16 + length name) (zeros 64)
  unfolding spelled_entry with_name
  tail-spelled =
      let l = length-named in let l1 = length-second in let l2 = length-third in
      drop-put_number 4 0 inode 16 third
      (omega arith) (omega arith)
      ∙ drop-put_number 4 4 (length name) 16 second (omega arith) (omega arith)
      ∙ drop-put_number 8 8 generation 16 with_name (omega arith) (omega arith)
      ∙ tail-named

  pub length-spelled_entry : length (spelled_entry inode generation name) ≡ 64
  unfolding spelled_entry with_name
  length-spelled_entry =
      let l = length-named in let l1 = length-second in let l2 = length-third in
      length-put_number 4 0 inode third (omega arith) ∙ l2

  pub inode-spelled : inode < 2 ^ 32 → number_at 4 0 (spelled_entry inode generation name) ≡ inode
  unfolding spelled_entry with_name
  inode-spelled small =
      let l = length-named in let l1 = length-second in let l2 = length-third in
      number_at-put_same 4 0 inode
      third small (omega arith)

  pub length-spelled : number_at 4 4 (spelled_entry inode generation name) ≡ length name
  unfolding spelled_entry with_name
  length-spelled =
      let l = length-named in let l1 = length-second in let l2 = length-third in
      number_at-put_before 4 0 4 4 inode third
      (omega arith) (omega arith)
      ∙ number_at-put_same 4 4 (length name) second (omega arith) (omega arith)

  pub generation-spelled : generation < 2 ^ 64 → number_at 8 8 (spelled_entry inode generation name) ≡ generation
  unfolding spelled_entry with_name
  generation-spelled small =
      let l = length-named in let l1 = length-second in let l2 = length-third in
      number_at-put_before 4 0 8 8 inode third
      (omega arith) (omega arith)
      ∙ number_at-put_before 4 4 8 8 (length name) second (omega arith) (omega arith)
      ∙ number_at-put_same 8 8 generation with_name small (omega arith)

  zeros-after : list_all (λ b. b == 0) (drop (length name) (name ++ drop (16 + length name) (zeros 64))) ≡ true
  unfolding zeros
  zeros-after =
      ap (list_all (λ b. b == 0))
      (drop_at name (drop (16 + length name) (zeros 64)) (length name) refl ∙ drop-replicate (16 + length name) 64 0)
      ∙ list_all-from_AllPass (λ b. b == 0) (replicate (64 - (16 + length name)) 0)
      (All-replicate (λ b. (b == 0) ≡ true) (64 - (16 + length name)) 0 refl)

-- the spelled entry is read back as the entry
pub spelled_entry-spells : (inode generation : ℕ) (name : List ℕ)
    → 1 ≤ inode → inode < 2 ^ 32 → 1 ≤ generation → generation < 2 ^ 64 → NameOk name
    → Spells (spelled_entry inode generation name) (record { inode = inode; generation = generation; name = name })
spelled_entry-spells inode generation name some small from below ok =
    let short = ok.short in
    let tail = tail-spelled inode generation name short in
    Spells-from (spelled_entry inode generation name) (record { inode = inode; generation = generation; name = name })
    (record { inode = some; generation = from; name = ok })
    (length-spelled_entry inode generation name short)
    (inode-spelled inode generation name short small)
    (length-spelled inode generation name short)
    (generation-spelled inode generation name short below)
    (ap (take (length name)) tail ∙ take_at name (drop (16 + length name) (zeros 64)) (length name) refl)
    (ap (list_all (λ b. b == 0)) (sym (ap (λ k. drop k (spelled_entry inode generation name)) (omega arith))
    ∙ sym (drop-drop (length name) 16 (spelled_entry inode generation name)) ∙ ap (drop (length name)) tail)
    ∙ zeros-after inode generation name short)

-- Whether bytes spell an entry, and its name

some-if : (b : Bool) (e : Entry) → is_some (if b then Some e else None) ≡ b
some-if true e = refl
some-if false e = refl

-- where zeros follow the name, they do if the fields have a spelling
pub is_entry-when : (bytes : List ℕ) (size : ℕ) → size ≡ number_at 4 4 bytes → has_zeros_after bytes size ≡ true
    → has_entry_spelling (entry_with (number_at 4 0 bytes) (number_at 8 8 bytes) (take size (drop 16 bytes)))
    ≡ is_some (entry_of bytes)
unfolding entry_of entry_fields
is_entry-when bytes size e rest =
    let spelled : ℕ → Bool = λ n. has_entry_spelling
    (entry_with (number_at 4 0 bytes) (number_at 8 8 bytes) (take n (drop 16 bytes))) in
    ap spelled e
    ∙ ap (λ b. b && spelled (number_at 4 4 bytes)) (sym rest ∙ ap (has_zeros_after bytes) e)
    ∙ sym (some-if _ _)

pub is_entry-else : (bytes : List ℕ) (size : ℕ) → size ≡ number_at 4 4 bytes → has_zeros_after bytes size ≡ false
    → false ≡ is_some (entry_of bytes)
unfolding entry_of entry_fields
is_entry-else bytes size e rest =
    ap (λ b. b && has_entry_spelling (entry_fields bytes)) (sym rest ∙ ap (has_zeros_after bytes) e) ∙ sym (some-if _ _)

-- an entry names no inode 0
pub is_entry-zero : (bytes : List ℕ) → number_at 4 0 bytes ≡ 0 → false ≡ is_some (entry_of bytes)
unfolding entry_of entry_fields
is_entry-zero bytes e =
    let name = take (number_at 4 4 bytes) (drop 16 bytes) in
    let rest = has_zeros_after bytes (number_at 4 4 bytes) in
    sym (some-if _ _ ∙ ap (λ n. rest && has_entry_spelling (entry_with n (number_at 8 8 bytes) name)) e
    ∙ and-false rest)

pub name_of-some : (bytes : List ℕ) (size : ℕ) → size ≡ number_at 4 4 bytes → is_some (entry_of bytes) ≡ true
    → Some (take size (drop 16 bytes)) ≡ name_of (entry_of bytes)
unfolding entry_of entry_fields
name_of-some bytes size e some =
    go (has_zeros_after bytes (number_at 4 4 bytes) && has_entry_spelling (entry_fields bytes)) some
  where
    go : (b : Bool) → is_some (if b then Some (entry_fields bytes) else None) ≡ true
        → Some (take size (drop 16 bytes)) ≡ name_of (if b then Some (entry_fields bytes) else None)
    go true h = ap (λ n. Some (take n (drop 16 bytes))) e
    go false h = cc

abbrev name_or : List ℕ → Option (List ℕ) → List ℕ
name_or d None = d
name_or d (Some name) = name

-- an entry from its name
pub entry_of-named : (bytes name : List ℕ) → Some name ≡ name_of (entry_of bytes)
    → entry_of bytes ≡ Some (entry_with (number_at 4 0 bytes) (number_at 8 8 bytes) name)
unfolding entry_of entry_fields
entry_of-named bytes name e =
    go (has_zeros_after bytes (number_at 4 4 bytes) && has_entry_spelling (entry_fields bytes)) e
  where
    go : (b : Bool) → Some name ≡ name_of (if b then Some (entry_fields bytes) else None)
        → (if b then Some (entry_fields bytes) else None)
        ≡ Some (entry_with (number_at 4 0 bytes) (number_at 8 8 bytes) name)
    go true e = let same : take (number_at 4 4 bytes) (drop 16 bytes) ≡ name =
        ap (name_or (take (number_at 4 4 bytes) (drop 16 bytes))) (sym e) in
        ap (λ n. Some (entry_with (number_at 4 0 bytes) (number_at 8 8 bytes) n)) same
    go false e = absurd (none-some name (sym e))

-- Whether the entry that bytes spell has a name

-- an entry in bytes that carry the name has it
pub named-carried : (bytes name : List ℕ) → carries_name bytes name ≡ true
    → is_some (entry_of bytes) ≡ is_named name (name_of (entry_of bytes))
unfolding entry_of entry_fields
named-carried bytes name h = go (has_zeros_after bytes (number_at 4 4 bytes) && has_entry_spelling (entry_fields bytes))
  where
    parts : ((number_at 4 4 bytes == length name) && bytes_eq (take (length name) (drop 16 bytes)) name) ≡ true
    parts = (and_parts (nat_le (length name) 48)
        ((number_at 4 4 bytes == length name) && bytes_eq (take (length name) (drop 16 bytes)) name) h).1

    both : ((number_at 4 4 bytes == length name) ≡ true) × (bytes_eq (take (length name) (drop 16 bytes)) name ≡ true)
    both = and_parts (number_at 4 4 bytes == length name) (bytes_eq (take (length name) (drop 16 bytes)) name) parts

    same : bytes_eq (take (number_at 4 4 bytes) (drop 16 bytes)) name ≡ true
    same =
        ap (λ n. bytes_eq (take n (drop 16 bytes)) name) (eqb-true (number_at 4 4 bytes) (length name) both.0) ∙ both.1

    go : (b : Bool) → is_some (if b then Some (entry_fields bytes) else None)
        ≡ is_named name (name_of (if b then Some (entry_fields bytes) else None))
    go true = sym same
    go false = refl

-- an entry in other bytes has another name
pub named-else : (bytes name : List ℕ) → length bytes ≡ 64 → carries_name bytes name ≡ false
    → false ≡ is_named name (name_of (entry_of bytes))
unfolding entry_of entry_fields
named-else bytes name len h = go (has_zeros_after bytes n && has_entry_spelling (entry_fields bytes)) refl
  where
    n : ℕ
    n = number_at 4 4 bytes

    differs : n ≤ 48 → (b : Bool) → bytes_eq (take n (drop 16 bytes)) name ≡ b → false ≡ b
    differs short false e = refl
    differs short true e =
        let same : take n (drop 16 bytes) ≡ name = (bytes_eq-Decides (take n (drop 16 bytes)) name).0 e in
        let size : n ≡ length name = sym (length-take-le n (drop 16 bytes) (omega (arith, length-drop 16 bytes)))
        ∙ ap length same in
        let fits : nat_le (length name) 48 ≡ true = ap (λ k. nat_le k 48) (sym size) ∙ le-leb n 48 short in
        let bytes_are : bytes_eq (take (length name) (drop 16 bytes)) name ≡ true =
        ap (λ k. bytes_eq (take k (drop 16 bytes)) name) (sym size) ∙ e in
        sym h ∙ and_from (nat_le (length name) 48)
        ((n == length name) && bytes_eq (take (length name) (drop 16 bytes)) name) fits
        (and_from (n == length name) (bytes_eq (take (length name) (drop 16 bytes)) name)
        (eq-eqb n (length name) size) bytes_are)

    go : (b : Bool) → (has_zeros_after bytes n && has_entry_spelling (entry_fields bytes)) ≡ b
        → false ≡ is_named name (name_of (if b then Some (entry_fields bytes) else None))
    go true t =
        let after = (and_parts (has_zeros_after bytes n) (has_entry_spelling (entry_fields bytes)) t).0 in
        let short = (and_parts (nat_le n 48) (list_all (λ b. b == 0) (drop (16 + n) bytes)) after).0 in
        differs (leb-true n 48 short) (bytes_eq (take n (drop 16 bytes)) name) refl
    go false t = refl

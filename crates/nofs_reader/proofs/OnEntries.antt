-- The entry that 64 bytes spell, field by field.
use Rattle.std.proofs.Common.{◌≡◌, ℕ, Bool, true, false, cond, ◌&&◌, List, length, take, drop, Option, Some}
use Rattle.std.proofs.Common.{None, leb, leb-true, arith, sym, ap, ◌∙◌}
use Rattle.std.proofs.lemmas.Bool.{and_from, and_parts}
use Rattle.std.proofs.lemmas.List.{length-drop, length-take-le}
use Rattle.nofs_disk.specs.Number.{number_at}
use Rattle.nofs_dirent.specs.declared.entry.Entry.{Entry}
use Rattle.nofs_dirent.specs.Entries.{entry_fields, entry_of, entry_with, has_entry_spelling, has_zeros_after}

abbrev entry_when : Bool → Entry → Option Entry
entry_when b e = cond b (Some e) None

-- bytes with something behind the name
pub entry-rest : (bytes : List ℕ) (n : ℕ) → n ≡ number_at 4 4 bytes → false ≡ has_zeros_after bytes n
    → None ≡ entry_of bytes
unfolding entry_of entry_fields
entry-rest bytes n e rest =
    let z : has_zeros_after bytes (number_at 4 4 bytes) ≡ false =
    sym (ap (has_zeros_after bytes) e) ∙ sym rest in
    sym (ap (λ b. entry_when (b && has_entry_spelling (entry_fields bytes)) (entry_fields bytes)) z)

module _ (bytes : List ℕ) (n i g : ℕ) (name : List ℕ) (size : n ≡ number_at 4 4 bytes)
    (inode : i ≡ number_at 4 0 bytes) (generation : g ≡ number_at 8 8 bytes)
    (named : name ≡ take n (drop 16 bytes)) (zeros : true ≡ has_zeros_after bytes n) where
  fields : entry_with i g name ≡ entry_fields bytes
  unfolding entry_fields
  fields = λ j. record {
    inode = inode j;
    generation = generation j;
    name = (named ∙ ap (λ k. take k (drop 16 bytes)) size) j;
  }

  zeros_there : has_zeros_after bytes (number_at 4 4 bytes) ≡ true
  zeros_there = sym (ap (has_zeros_after bytes) size) ∙ sym zeros

  -- fields that spell no entry
  pub entry-none : false ≡ has_entry_spelling (entry_with i g name) → None ≡ entry_of bytes
  unfolding entry_of
  entry-none not_spelled =
      let no : has_entry_spelling (entry_fields bytes) ≡ false =
      sym (ap has_entry_spelling fields) ∙ sym not_spelled in
      sym (ap (λ b. entry_when (b && has_entry_spelling (entry_fields bytes)) (entry_fields bytes)) zeros_there
      ∙ ap (λ b. entry_when b (entry_fields bytes)) no)

  -- and those that do
  pub entry-some : (kept : List ℕ) → true ≡ has_entry_spelling (entry_with i g name) → take n kept ≡ name
      → Some (entry_with i g (take n kept)) ≡ entry_of bytes
  unfolding entry_of
  entry-some kept spelled same =
      let yes : has_entry_spelling (entry_fields bytes) ≡ true =
      sym (ap has_entry_spelling fields) ∙ sym spelled in
      ap (λ l. Some (entry_with i g l)) same ∙ ap Some fields
      ∙ sym (ap (λ b. entry_when b (entry_fields bytes)) (and_from _ _ zeros_there yes))

-- the name of an entry has as many bytes as it says
pub name-length : (bytes : List ℕ) (n : ℕ) → length bytes ≡ 64 → true ≡ has_zeros_after bytes n
    → length (take n (drop 16 bytes)) ≡ n
name-length bytes n whole zeros =
    let short = leb-true n 48 (and_parts (leb n 48) _ (sym zeros)).0 in
    let len = length-drop 16 bytes in
    length-take-le n (drop 16 bytes) (omega (arith, short, whole, len))

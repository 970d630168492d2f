-- Tests of the 64 bytes of an entry.
use Rattle.std.proofs.Common.{◌≡◌, ℕ, Bool, true, false, cond, eqb, ◌&&◌, List, take, drop, Some, None, is_some}
use Rattle.std.proofs.Common.{refl, sym}
use Rattle.nofs_disk.specs.Number.{number_at}
use Rattle.nofs_dirent.specs.Entries.{entry_fields, entry_of, entry_with, has_entry_spelling, has_zeros_after}
use Rattle.nofs_model.specs.Files.{names}

-- which inode the entry names, if there is one
pub names-fields : (bytes : List ℕ) (i g : ℕ) → is_some (entry_of bytes) ≡ true
    → names (entry_of bytes) i g ≡ ((eqb (number_at 4 0 bytes) i) && (eqb (number_at 8 8 bytes) g))
unfolding entry_of entry_fields
names-fields bytes i g e = go (has_zeros_after bytes (number_at 4 4 bytes) && has_entry_spelling (entry_fields bytes)) e
  where
    go : (b : Bool) → is_some (cond b (Some (entry_with (number_at 4 0 bytes) (number_at 8 8 bytes)
        (take (number_at 4 4 bytes) (drop 16 bytes)))) None) ≡ true
        → names (cond b (Some (entry_with (number_at 4 0 bytes) (number_at 8 8 bytes)
        (take (number_at 4 4 bytes) (drop 16 bytes)))) None) i g ≡
        ((eqb (number_at 4 0 bytes) i) && (eqb (number_at 8 8 bytes) g))
    go true h = refl
    go false h = cc

-- the entry names what its bytes do, if there is one
pub names-when : (bytes : List ℕ) (i g : ℕ) → ((eqb (number_at 4 0 bytes) i) && (eqb (number_at 8 8 bytes) g)) ≡ true
    → names (entry_of bytes) i g ≡ is_some (entry_of bytes)
unfolding entry_of entry_fields
names-when bytes i g e = go (has_zeros_after bytes (number_at 4 4 bytes) && has_entry_spelling (entry_fields bytes))
  where
    go : (b : Bool) → names (cond b (Some (entry_with (number_at 4 0 bytes) (number_at 8 8 bytes)
        (take (number_at 4 4 bytes) (drop 16 bytes)))) None) i g
        ≡ is_some (cond b (Some (entry_with (number_at 4 0 bytes) (number_at 8 8 bytes)
        (take (number_at 4 4 bytes) (drop 16 bytes)))) None)
    go true = e
    go false = refl

pub names-no : (bytes : List ℕ) (i g : ℕ) → ((eqb (number_at 4 0 bytes) i) && (eqb (number_at 8 8 bytes) g)) ≡ false
    → false ≡ names (entry_of bytes) i g
unfolding entry_of entry_fields
names-no bytes i g e = go (has_zeros_after bytes (number_at 4 4 bytes) && has_entry_spelling (entry_fields bytes))
  where
    go : (b : Bool) → false ≡ names (cond b (Some (entry_with (number_at 4 0 bytes) (number_at 8 8 bytes)
        (take (number_at 4 4 bytes) (drop 16 bytes)))) None) i g
    go true = sym e
    go false = refl

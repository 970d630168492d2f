-- The entries of a cell, each by a test of all its places.
use Rattle.std.proofs.Common.{◌≡◌, ℕ, ◌<◌, Bool, true, ltb, List, Option, Some, None, IfSome, refl, arith, ltb-true}
use Rattle.nofs_dirent.specs.declared.entry.Entry.{Entry}
use Rattle.nofs_dirent.specs.Entries.{entry_in, entry_of, entry_fields}
use Rattle.nofs_disk.specs.Number.{number_at}
use Rattle.nofs_dirent.specs.Names.{is_name}
use Rattle.nofs_cases.specs.Disks.Images.{z}
use Rattle.nofs_cases.proofs.OnDisks.Numbers.{all_below, each-below}

-- there is none, or its generation is below a bound
unfoldable pub is_low : ℕ → Option Entry → Bool
is_low s None = true
is_low s (Some e) = ltb e.generation s

low-is : (s : ℕ) (o : Option Entry) → is_low s o ≡ true → IfSome o (λ e. e.generation < s)
unfolding is_low
low-is s None e = tt
low-is s (Some n) e = ltb-true n.generation s e

pub entries-low : (s : ℕ) (bytes : List ℕ) → all_below (λ j. is_low s (entry_in bytes j)) 16 ≡ true → (j : ℕ) → j < 16
    → IfSome (entry_in bytes j) (λ e. e.generation < s)
entries-low s bytes e j lt = low-is s (entry_in bytes j) (each-below (λ k. is_low s (entry_in bytes k)) 16 j e lt)

none-is : (o : Option Entry) → IfSome o (λ e. e.generation < 0) → o ≡ None
none-is None low = refl
none-is (Some n) low = absurd (omega (arith, low))

all-none : all_below (λ j. is_low 0 (entry_in (z 1024) j)) 16 ≡ true
unfolding all_below is_low entry_of entry_fields number_at is_name
all-none = refl

-- a cell of zeros has none
pub no-entries : (j : ℕ) → j < 16 → entry_in (z 1024) j ≡ None
no-entries j lt = none-is (entry_in (z 1024) j) (entries-low 0 (z 1024) all-none j lt)

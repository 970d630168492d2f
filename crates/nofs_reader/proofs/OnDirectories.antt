-- A directory is gone through place by place, or slot by slot.
use Rattle.std.proofs.Common.{◌≡◌, ℕ, ◌+◌, ◌<◌, ◌≤◌, Bool, true, false, List, arith, ap, ◌∙◌, inl, inr, subst, sym}
use Rattle.std.proofs.lemmas.Bool.{cases_lt}
use Rattle.nofs_agree.specs.Reads.{IsLast}
use Rattle.nofs_agree.specs.declared.reads.LastRead.{LastRead}
use Rattle.nofs_reader.specs.Directories.{AreEmpty, IsLeast, NonePasses}
use Rattle.nofs_reader.specs.Entries.{IsEmptyPlace}
use Rattle.nofs_reader.specs.Image.{disk_of, image_of}

-- none of the first numbers passes
pub record Looking (bytes : List ℕ) (last : LastRead) (test : ℕ → Bool) (n : ℕ) : Type 0 where
  pub kept : IsLast (disk_of bytes) last
  pub none : NonePasses test n

pub look-begins : (bytes : List ℕ) (last : LastRead) (test : ℕ → Bool) → IsLast (disk_of bytes) last
    → Looking bytes last test 0
look-begins bytes last test kept = record { kept = kept; none = λ k low. absurd (omega (arith, low)) }

-- nor does the next one
pub look-goes : (bytes : List ℕ) (last next : LastRead) (test : ℕ → Bool) (n : ℕ) → Looking bytes last test n
    → IsLast (disk_of bytes) next → false ≡ test n → Looking bytes next test (n + 1)
look-goes bytes last next test n look kept fails = record {
  kept = kept;
  none = λ k low. elim (cases_lt k n) [
    | inl before ↦ look.none k before
    | inr at ↦ let here : k ≡ n = omega (arith, low, at) in ap test here ∙ sym fails
  ];
}

-- the next one passes
pub look-found : (bytes : List ℕ) (last : LastRead) (test : ℕ → Bool) (bound n : ℕ) → Looking bytes last test n
    → n < bound → true ≡ test n → IsLeast test bound n
look-found bytes last test bound n look low found = record { range = low; passes = sym found; least = look.none }

-- none passes
pub look-ends : (bytes : List ℕ) (last : LastRead) (test : ℕ → Bool) (bound n : ℕ) → Looking bytes last test n
    → bound ≤ n → NonePasses test bound
look-ends bytes last test bound n look whole = λ k low. look.none k (omega (arith, low, whole))

-- nothing stands at the first places
pub record Listing (bytes : List ℕ) (last : LastRead) (d from place : ℕ) : Type 0 where
  pub kept : IsLast (disk_of bytes) last
  pub late : from ≤ place
  pub before : AreEmpty (image_of bytes) d from place

pub list-begins : (bytes : List ℕ) (last : LastRead) (d from : ℕ) → IsLast (disk_of bytes) last
    → Listing bytes last d from from
list-begins bytes last d from kept =
    record { kept = kept; late = omega arith; before = λ e late low. absurd (omega (arith, late, low)) }

-- nor at the next one
pub list-goes : (bytes : List ℕ) (last next : LastRead) (d from place : ℕ) → Listing bytes last d from place
    → IsLast (disk_of bytes) next → IsEmptyPlace (image_of bytes) d place → Listing bytes next d from (place + 1)
list-goes bytes last next d from place list kept empty = record {
  kept = kept;
  late = let l = list.late in omega (arith, l);
  before = λ e late low. elim (cases_lt e place) [
    | inl earlier ↦ list.before e late earlier
    | inr at ↦ let here : place ≡ e = omega (arith, low, at) in
        subst (λ (n : ℕ). IsEmptyPlace (image_of bytes) d n) here empty
  ];
}

-- nor at any
pub list-ends : (bytes : List ℕ) (last : LastRead) (d from place bound : ℕ) → Listing bytes last d from place
    → bound ≤ place → AreEmpty (image_of bytes) d from bound
list-ends bytes last d from place bound list whole = λ e late low. list.before e late (omega (arith, low, whole))

-- Digits that were judged before they are read.
use Rattle.std.proofs.Common.{◌≡◌, ℕ, zero, suc, ◌+◌, ◌-◌, ◌*◌, ◌/◌, ◌%◌, ◌<◌, ◌⊎◌, inl, inr, Bool, true, false, ◌&&◌}
use Rattle.std.proofs.Common.{if◌then◌else◌, List, Some, None, Option, Result, Ok, Err, min, nat_eq, bit_and, bit_or}
use Rattle.std.proofs.Common.{is_some, length, refl, sym, subst, ap, ◌∙◌, arith}
use Rattle.std.proofs.lemmas.Bool.{eqb-true}
use Rattle.std.proofs.lemmas.Bool.Decides.{eqb_tells}
use Rattle.std.proofs.lemmas.Nat.{le_or_l}
use Rattle.hex.specs.Hex.{decode_of, hex_digit_value, is_hex_digit, pair_value}
use Rattle.hex.specs.declared.error.FromHexError.{FromHexError}
use Rattle.hex.proofs.HexLemmas.{decode_of-ok}
use Rattle.nofs_script.specs.declared.faults.ScriptKind.TheVariants.{BadHex}
use Rattle.nofs_script.specs.Grammar.{hex_digits}
use Rattle.std.proofs.lemmas.List.Sums.{list_all-from_AllPass}
use Rattle.std.specs.List.{list_all}

-- two digits spell a byte, wherever they stand
pub two_digits : (high low i x y : ℕ) → hex_digit_value high ≡ Some x → hex_digit_value low ≡ Some y
    → pair_value high low i ≡ Ok (x * 16 + y)
two_digits high low i x y is_high is_low = rw (is_high, is_low) refl

-- a test of each number below a bound: at a numeral it computes
all_below : (ℕ → Bool) → ℕ → Bool
all_below test zero = true
all_below test (suc n) = if test n then all_below test n else false

-- the two parts of a test that held
both : (b c : Bool) → (if b then c else false) ≡ true → (b ≡ true) × (c ≡ true)
both true c h = (refl, h)
both false c h = absurd (cc h)

holds_below : (test : ℕ → Bool) (n : ℕ) → all_below test n ≡ true → (i : ℕ) → i < n → test i ≡ true
unfolding all_below
holds_below test zero all i below = absurd (omega arith)
holds_below test (suc n) all i below =
    let parts = both (test n) (all_below test n) all in
    let place : (i ≡ n) ⊎ (i < n) = grind (arith) in
    elim place [
      | inl here ↦ subst (λ (k : ℕ). test k ≡ true) (sym here) parts.0
      | inr before ↦ holds_below test n parts.1 i before
    ]

-- two tests say the same
abbrev same : Bool → Bool → Bool
same true b = b
same false true = false
same false false = true

same-eq : (a b : Bool) → same a b ≡ true → a ≡ b
same-eq true b h = sym h
same-eq false true h = absurd (cc h)
same-eq false false h = refl

-- how far a byte is beside both kinds of digits
abbrev pub beside : ℕ → ℕ
beside byte = min ((byte + 208) % 256 - 9) ((bit_or byte 32 + 159) % 256 - 5)

abbrev judges : ℕ → Bool
judges byte = same (nat_eq (beside byte) 0) (is_hex_digit byte)

all_judged : all_below judges 256 ≡ true
unfolding all_below
all_judged = refl

-- that is 0 just where the byte is a digit
pub beside_none : (byte : ℕ) → byte < 256 → nat_eq (beside byte) 0 ≡ is_hex_digit byte
beside_none byte small = same-eq _ _ (holds_below judges 256 all_judged byte small)

-- bits that are joined are 0 just where both were
pub none_joined : (a b : ℕ) → nat_eq (bit_or a b) 0 ≡ (nat_eq a 0 && nat_eq b 0)
none_joined zero b = refl
none_joined (suc a) b = elim (eqb_tells (bit_or (suc a) b) 0) [
  | inl same ↦ absurd (omega (arith, le_or_l (suc a) b, same.1))
  | inr other ↦ elim (eqb_tells (suc a) 0) [
    | inl none ↦ absurd (omega (arith, none.1))
    | inr some ↦ rw (other.0, some.0) refl
  ]
]

-- what two digits make that are read as one number
abbrev pub joined : ℕ → ℕ → ℕ
joined high low =
    let pair = bit_or high (low * 256 % 65536) in
    let values = bit_and pair 3855 + 9 * bit_and (pair / 64) 257 in
    bit_or (bit_and values 15 * 16 % 65536) (values / 256)

abbrev value_or_none : Option ℕ → ℕ
value_or_none (Some x) = x
value_or_none None = 0

abbrev spelled : ℕ → ℕ → ℕ
spelled high low = value_or_none (hex_digit_value high) * 16 + value_or_none (hex_digit_value low)

abbrev joins : ℕ → ℕ → Bool
joins high low = if is_hex_digit low then nat_eq (joined high low) (spelled high low) else true

abbrev joins_all : ℕ → Bool
joins_all high = if is_hex_digit high then all_below (joins high) 256 else true

all_joined : all_below joins_all 256 ≡ true
unfolding all_below
all_joined = refl

-- a test that is made where another holds
made : (b c : Bool) → b ≡ true → (if b then c else true) ≡ true → c ≡ true
made true c is h = h
made false c is h = absurd (cc is)

some_value : (o : Option ℕ) → is_some o ≡ true → o ≡ Some (value_or_none o)
some_value (Some x) is = refl
some_value None is = absurd (cc is)

-- that is the byte that they spell
pub joined_digits : (high low i : ℕ) → high < 256 → low < 256 → is_hex_digit high ≡ true → is_hex_digit low ≡ true
    → pair_value high low i ≡ Ok (joined high low)
joined_digits high low i small_high small_low is_high is_low =
    let row = made _ _ is_high (holds_below joins_all 256 all_joined high small_high) in
    let place = made _ _ is_low (holds_below (joins high) 256 row low small_low) in
    two_digits high low i _ _ (some_value _ is_high) (some_value _ is_low)
    ∙ ap (λ (x : ℕ). Ok x) (sym (eqb-true _ _ place))

-- a word spells nothing unless it is an even number of digits
pub spells_nothing : (word : List ℕ) → (length word % 2 ≡ 0 → list_all is_hex_digit word ≡ true → ⊥)
    → hex_digits (decode_of word) ≡ Err BadHex
spells_nothing word bad = go (decode_of word) refl
  where
    go : (read : Result (List ℕ) FromHexError) → decode_of word ≡ read → hex_digits read ≡ Err BadHex
    go (Ok bytes) e = let ok = decode_of-ok word bytes e in
        absurd (bad ok.0 (list_all-from_AllPass is_hex_digit word ok.1))
    go (Err fault) e = refl

-- Words that are zero, and lists of zeros.
use Rattle.std.proofs.Common.{◌≡◌, ℕ, zero, suc, ◌+◌, ◌-◌, ◌*◌, ◌≤◌, Bool, true, false, ◌&&◌, List, [], ◌∷◌, length}
use Rattle.std.proofs.Common.{take, drop, ◌==◌, arith, refl, sym, ap, ap₂, ◌∙◌}
use Rattle.std.specs.List.{list_all}
use Rattle.std.proofs.lemmas.Bool.Decides.{nat_tests}
use Rattle.std.proofs.lemmas.List.{drop-drop, length-drop, take-append-drop}
use Rattle.std.proofs.lemmas.List.Folds.{list_all-append}
use Rattle.std.proofs.Math.Bool.{and_assoc}
use Rattle.std.proofs.Math.Seq.{take-add, take-length}
use Rattle.byteorder.specs.Endian.{little_from}
use Rattle.byteorder.specs.Numbers.{little_from-cons}
use Rattle.nofs_disk.specs.Number.{number_at}

sum-zero : (x r : ℕ) → ((x + 256 * r) == 0) ≡ ((x == 0) && (r == 0))
sum-zero x r = grind (arith, nat_tests)

little-zero : (n : ℕ) (xs : List ℕ) → n ≤ length xs → (little_from 0 n xs == 0) ≡ list_all (λ b. b == 0) (take n xs)
little-zero zero xs fits = refl
little-zero (suc n) [] fits = absurd (omega (arith, fits))
little-zero (suc n) (x ∷ xs) fits =
    ap (λ r. (x + 256 * r) == 0) (little_from-cons 0 n x xs)
    ∙ sum-zero x (little_from 0 n xs)
    ∙ ap (λ b. (x == 0) && b) (little-zero n xs (omega (arith, fits)))

-- a word is zero where its bytes are
pub word-zero : (at : ℕ) (bytes : List ℕ) → at + 8 ≤ length bytes
    → (number_at 8 at bytes == 0) ≡ list_all (λ b. b == 0) (take 8 (drop at bytes))
unfolding number_at
word-zero at bytes fits = little-zero 8 (drop at bytes) (omega (arith, length-drop at bytes))

-- a list is what stands before a place and behind it
split : (p : ℕ → Bool) (n : ℕ) (xs : List ℕ) → list_all p xs ≡ (list_all p (take n xs) && list_all p (drop n xs))
split p n xs = ap (list_all p) (sym (take-append-drop n xs)) ∙ list_all-append p (take n xs) (drop n xs)

-- one word more
pub zeros-more : (w : ℕ) (l : List ℕ) → list_all (λ b. b == 0) (take (8 * (w + 1)) l)
    ≡ (list_all (λ b. b == 0) (take (8 * w) l) && list_all (λ b. b == 0) (take 8 (drop (8 * w) l)))
zeros-more w l =
    let next : 8 * (w + 1) ≡ 8 * w + 8 = omega arith in
    ap (λ n. list_all (λ b. b == 0) (take n l)) next ∙ ap (list_all (λ b. b == 0)) (take-add (8 * w) 8 l)
    ∙ list_all-append (λ b. b == 0) (take (8 * w) l) (take 8 (drop (8 * w) l))

thrice : (a b c : Bool) → ((b && c) && (a && b)) ≡ ((a && b) && c)
thrice true true true = refl
thrice true true false = refl
thrice true false c = refl
thrice false true true = refl
thrice false true false = refl
thrice false false c = refl

-- two parts that overlap are the whole list
pub zeros-whole : (j m : ℕ) (l : List ℕ) → j ≤ m
    → (list_all (λ b. b == 0) (drop j l) && list_all (λ b. b == 0) (take m l)) ≡ list_all (λ b. b == 0) l
zeros-whole j m l low =
    let p : ℕ → Bool = λ b. b == 0 in
    let to : j + (m - j) ≡ m = omega arith in
    let behind : list_all p (drop j l) ≡ (list_all p (take (m - j) (drop j l)) && list_all p (drop m l)) =
    split p (m - j) (drop j l)
    ∙ ap (λ t. list_all p (take (m - j) (drop j l)) && list_all p t) (drop-drop (m - j) j l ∙ ap (λ n. drop n l) to) in
    let before : list_all p (take m l) ≡ (list_all p (take j l) && list_all p (take (m - j) (drop j l))) =
    ap (λ n. list_all p (take n l)) (sym to) ∙ ap (list_all p) (take-add j (m - j) l)
    ∙ list_all-append p (take j l) (take (m - j) (drop j l)) in
    ap₂ (λ a b. a && b) behind before
    ∙ thrice (list_all p (take j l)) (list_all p (take (m - j) (drop j l))) (list_all p (drop m l))
    ∙ ap (λ a. a && list_all p (drop m l)) (sym before)
    ∙ sym (split p m l)

pub zeros-last : (bytes : List ℕ) → length bytes ≡ 64
    → (number_at 8 56 bytes == 0) ≡ list_all (λ b. b == 0) (drop 56 bytes)
zeros-last bytes len =
    let eight : length (drop 56 bytes) ≡ 8 = length-drop 56 bytes ∙ ap (λ n. n - 56) len in
    word-zero 56 bytes (omega (arith, len))
    ∙ ap (λ n. list_all (λ b. b == 0) (take n (drop 56 bytes))) (sym eight)
    ∙ ap (list_all (λ b. b == 0)) (take-length (drop 56 bytes))

pub zeros-on : (from w : ℕ) (bytes : List ℕ) (last : Bool) → from + 8 * w + 8 ≤ length bytes
    → ((last && list_all (λ b. b == 0) (take (8 * w) (drop from bytes))) && (number_at 8 (from + 8 * w) bytes == 0))
    ≡ (last && list_all (λ b. b == 0) (take (8 * (w + 1)) (drop from bytes)))
zeros-on from w bytes last fits =
    let before = list_all (λ b. b == 0) (take (8 * w) (drop from bytes)) in
    let word : (number_at 8 (from + 8 * w) bytes == 0)
    ≡ list_all (λ b. b == 0) (take 8 (drop (8 * w) (drop from bytes))) =
    word-zero (from + 8 * w) bytes fits
    ∙ ap (λ l. list_all (λ b. b == 0) (take 8 l)) (sym (drop-drop (8 * w) from bytes)) in
    and_assoc last before (number_at 8 (from + 8 * w) bytes == 0)
    ∙ ap (λ b. last && (before && b)) word
    ∙ ap (λ b. last && b) (sym (zeros-more w (drop from bytes)))

-- Bytes that are put at the end of a page of zeros.
use Rattle.std.proofs.Common.{◌≡◌, ℕ, ◌+◌, ◌-◌, ◌≤◌, List, [], ◌++◌, length, take, drop, arith, sym, ap, ◌∙◌}
use Rattle.std.specs.Prelude.{slice_range}
use Rattle.std.proofs.lemmas.List.{append-nil, append_assoc, drop_all, drop_at, drop-append-le, drop-replicate}
use Rattle.std.proofs.lemmas.List.{replicate-append-replicate, take_all, take-append-le, take-replicate}
use Rattle.nofs_disk.specs.Number.{length-zeros, put_bytes, put_number, zeros}
use Rattle.nofs_disk.specs.Parts.{length-put_bytes, take-put_bytes_first}
use Rattle.nofs_pages.specs.Pages.{made, signed}
use Rattle.nofs_pages.specs.Sums.{sum_in}
use Rattle.nofs_pages.specs.Twins.{twin_body, twin_magic, twin_sealed}
use Rattle.nofs_pages.proofs.OnPlaces.{length-body}

-- Zeros

take-zeros : (n m : ℕ) → n ≤ m → take n (zeros m) ≡ zeros n
unfolding zeros
take-zeros n m fits = take-replicate n m 0 fits

drop-zeros : (n m : ℕ) → drop n (zeros m) ≡ zeros (m - n)
unfolding zeros
drop-zeros n m = drop-replicate n m 0

split-zeros : (m n : ℕ) → zeros (m + n) ≡ zeros m ++ zeros n
unfolding zeros
split-zeros m n = sym (replicate-append-replicate m n 0)

none-behind : (n : ℕ) (xs : List ℕ) → length xs ≡ n → drop n xs ≡ []
none-behind n xs is = drop_all n xs (omega arith)

front-of : (k n : ℕ) (rest : List ℕ) → k ≤ n → take k (zeros n ++ rest) ≡ zeros k
front-of k n rest fits =
    let len = length-zeros n in
    take-append-le k (zeros n) rest (omega arith) ∙ take-zeros k n fits

behind-of : (k n : ℕ) (rest : List ℕ) → k ≤ n → drop k (zeros n ++ rest) ≡ zeros (n - k) ++ rest
behind-of k n rest fits =
    let len = length-zeros n in
    drop-append-le k (zeros n) rest (omega arith) ∙ ap (λ l. l ++ rest) (drop-zeros k n)

-- Bytes behind them

laid : (n at : ℕ) (body : List ℕ) → at + length body ≡ n → put_bytes at body (zeros n) ≡ zeros at ++ body
unfolding put_bytes
laid n at body size =
    ap (λ l. l ++ (body ++ drop (at + length body) (zeros n))) (take-zeros at n (omega arith))
    ∙ ap (λ l. zeros at ++ (body ++ l)) (none-behind (at + length body) (zeros n) (length-zeros n ∙ sym size))
    ∙ ap (λ l. zeros at ++ l) (append-nil body)

length-front : (at : ℕ) (old : List ℕ) → at ≤ 4096 → length old ≡ 4096 → length (put_bytes 0 (zeros at) old) ≡ 4096
length-front at old fits whole =
    let len = length-zeros at in
    length-put_bytes 0 (zeros at) old (omega arith) ∙ whole

cleared : (at : ℕ) (body front : List ℕ) → at + length body ≡ 4096 → take at front ≡ zeros at → length front ≡ 4096
    → put_bytes at body front ≡ zeros at ++ body
unfolding put_bytes
cleared at body front size begins len =
    ap (λ l. l ++ (body ++ drop (at + length body) front)) begins
    ∙ ap (λ l. zeros at ++ (body ++ l)) (none-behind (at + length body) front (len ∙ sym size))
    ∙ ap (λ l. zeros at ++ l) (append-nil body)

-- what is cleared is enough
pub front-laid : (at : ℕ) (body old : List ℕ) → at + length body ≡ 4096 → length old ≡ 4096
    → put_bytes at body (put_bytes 0 (zeros at) old) ≡ put_bytes at body (zeros 4096)
front-laid at body old size whole =
    cleared at body (put_bytes 0 (zeros at) old) size (take-put_bytes_first at (zeros at) old (length-zeros at))
    (length-front at old (omega arith) whole)
    ∙ sym (laid 4096 at body size)

body-laid : (at : ℕ) (body : List ℕ) → at + length body ≡ 4096
    → slice_range (put_bytes at body (zeros 4096)) at 4096 ≡ body
body-laid at body size =
    ap (λ l. slice_range l at 4096) (laid 4096 at body size)
    ∙ ap (take (4096 - at)) (drop_at (zeros at) body at (length-zeros at))
    ∙ take_all (4096 - at) body (omega arith)

pub signed-laid : (magic at number : ℕ) (body : List ℕ) → at + length body ≡ 4096
    → signed magic at number (put_bytes at body (zeros 4096)) ≡ made magic at number body
unfolding signed made
signed-laid magic at number body size =
    ap (λ l. put_number 8 16 (sum_in number l)
    (put_number 8 8 number (put_number 8 0 magic (put_bytes at body (zeros 4096)))))
    (body-laid at body size)

-- A number among the zeros

word-laid : (w m n at : ℕ) (word rest : List ℕ) → at + w ≤ n
    → take (m + at) (zeros (m + n) ++ rest) ++ (word ++ drop (m + at + w) (zeros (m + n) ++ rest))
    ≡ zeros m ++ (take at (zeros n ++ rest) ++ (word ++ drop (at + w) (zeros n ++ rest)))
word-laid w m n at word rest fits =
    let all = zeros (m + n) ++ rest in
    let few = zeros n ++ rest in
    let last = zeros (n - (at + w)) ++ rest in
    let same : m + n - (m + at + w) ≡ n - (at + w) = omega arith in
    let begins : take (m + at) all ≡ zeros m ++ zeros at =
    front-of (m + at) (m + n) rest (omega arith) ∙ split-zeros m at in
    let ends : drop (m + at + w) all ≡ last =
    behind-of (m + at + w) (m + n) rest (omega arith) ∙ ap (λ k. zeros k ++ rest) same in
    ap (λ l. l ++ (word ++ drop (m + at + w) all)) begins
    ∙ ap (λ l. zeros m ++ zeros at ++ (word ++ l)) ends
    ∙ append_assoc (zeros m) (zeros at) (word ++ last)
    ∙ ap (λ l. zeros m ++ (l ++ (word ++ last))) (sym (front-of at n rest (omega arith)))
    ∙ ap (λ l. zeros m ++ (take at few ++ (word ++ l))) (sym (behind-of (at + w) n rest fits))

number-laid : (w m n at x : ℕ) (rest : List ℕ) → at + w ≤ n
    → put_number w (m + at) x (zeros (m + n) ++ rest) ≡ zeros m ++ put_number w at x (zeros n ++ rest)
unfolding put_number
number-laid w m n at x rest fits = word-laid w m n at _ rest fits

body-is : (version : ℕ) (area : List ℕ) → length area ≡ 3168
    → twin_body version area ≡ put_number 8 0 version (zeros 32 ++ area)
unfolding twin_body
body-is version area size = ap (put_number 8 0 version) (laid 3200 32 area (omega arith))

twin-laid : (version : ℕ) (area : List ℕ) → length area ≡ 3168
    → put_number 8 896 version (put_bytes 928 area (zeros 4096)) ≡ put_bytes 896 (twin_body version area) (zeros 4096)
twin-laid version area size =
    let len = length-body version area size in
    ap (put_number 8 896 version) (laid 4096 928 area (omega arith))
    ∙ number-laid 8 896 32 0 version area (omega arith)
    ∙ ap (λ l. zeros 896 ++ l) (sym (body-is version area size))
    ∙ sym (laid 4096 896 (twin_body version area) (omega arith))

pub twin-signed : (number version : ℕ) (area : List ℕ) → length area ≡ 3168
    → signed twin_magic 896 number (put_number 8 896 version (put_bytes 928 area (zeros 4096)))
    ≡ twin_sealed number version area
unfolding twin_sealed
twin-signed number version area size =
    let len = length-body version area size in
    ap (signed twin_magic 896 number) (twin-laid version area size)
    ∙ signed-laid twin_magic 896 number (twin_body version area) (omega arith)

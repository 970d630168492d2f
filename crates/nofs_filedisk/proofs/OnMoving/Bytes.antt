-- Bytes that are put into others, place by place.
use Rattle.std.proofs.Common.{◌≡◌, ℕ, zero, suc, ◌+◌, ◌-◌, ◌<◌, ◌≤◌, max, List, [], ◌++◌, length, take, drop, get_or}
use Rattle.std.proofs.Common.{arith, refl, sym, ap, ◌∙◌, inl, inr}
use Rattle.std.specs.Prelude.{slice_index}
use Rattle.std.proofs.Math.Seq.{get_or-append_right}
use Rattle.std.proofs.lemmas.Bool.{cases_lt, lt-ltb}
use Rattle.std.proofs.lemmas.List.{get_or-drop, get_or-take, get_or_append_left, length-drop, length-take-le}
use Rattle.nofs_disk.specs.Number.{put_bytes}
use Rattle.nofs_disk.specs.Parts.{length-put_bytes}
use Rattle.nofs_filedisk.specs.Bytes.{IsPut, grown}

pub put-before : (at k : ℕ) (part bytes : List ℕ) → at ≤ length bytes
    → k < at → slice_index (put_bytes at part bytes) k ≡ slice_index bytes k
unfolding put_bytes
put-before at k part bytes fits low =
    let front = length-take-le at bytes fits in
    get_or_append_left (take at bytes) (part ++ drop (at + length part) bytes) 0 k (omega arith)
    ∙ get_or-take at bytes k 0 low

pub put-inside : (at k : ℕ) (part bytes : List ℕ) → at ≤ length bytes → k < length part
    → slice_index (put_bytes at part bytes) (at + k) ≡ slice_index part k
unfolding put_bytes
put-inside at k part bytes fits low =
    let front = length-take-le at bytes fits in
    let rest = drop (at + length part) bytes in
    get_or-append_right (take at bytes) (part ++ rest) (at + k) 0 (omega arith)
    ∙ ap (λ i. get_or (part ++ rest) i 0) (omega arith)
    ∙ get_or_append_left part rest 0 k low

pub put-behind : (at k : ℕ) (part bytes : List ℕ) → at ≤ length bytes
    → at + length part ≤ k → slice_index (put_bytes at part bytes) k ≡ slice_index bytes k
unfolding put_bytes
put-behind at k part bytes fits high =
    let front = length-take-le at bytes fits in
    let rest = drop (at + length part) bytes in
    let one : k - length (take at bytes) ≡ k - at = omega arith in
    let two : at + length part + (k - at - length part) ≡ k = omega arith in
    get_or-append_right (take at bytes) (part ++ rest) k 0 (omega arith)
    ∙ ap (λ i. get_or (part ++ rest) i 0) one
    ∙ get_or-append_right part rest (k - at) 0 (omega arith)
    ∙ get_or-drop (at + length part) bytes (k - at - length part) 0
    ∙ ap (λ i. get_or bytes i 0) two

pub grown-some : (old at n : ℕ) → 0 < n → grown old at n ≡ max old (at + n)
grown-some old at n low = rw (lt-ltb 0 n low)

-- bytes over others that are there
pub put-over : (at : ℕ) (part old mid : List ℕ) → ((k : ℕ) → slice_index mid k ≡ slice_index old k)
    → length mid ≡ max (length old) (at + length part)
    → 0 < length part → IsPut at part old (put_bytes at part mid)
put-over at part old mid same size some =
    let fits : at + length part ≤ length mid = omega (arith, size) in
    record {
      inside = λ k low. put-inside at k part mid (omega arith) low;
      before = λ k low. put-before at k part mid (omega arith) low ∙ same k;
      behind = λ k high. put-behind at k part mid (omega arith) high ∙ same k;
      len = length-put_bytes at part mid fits ∙ size ∙ sym (grown-some (length old) at (length part) some);
    }

-- no bytes
pub put-none : (at : ℕ) (old : List ℕ) → IsPut at [] old old
put-none at old = record {
  inside = λ k low. absurd (omega (arith, low));
  before = λ k low. refl;
  behind = λ k high. refl;
  len = refl;
}

grown-more : (old at d n : ℕ) → grown (grown old at d) (at + d) n ≡ grown old at (d + n)
grown-more old at zero n =
    let place : at + 0 ≡ at = omega arith in
    let count : n ≡ 0 + n = omega arith in
    ap (λ k. grown old k n) place ∙ ap (λ k. grown old at k) count
grown-more old at (suc d) zero =
    let count : suc d ≡ suc d + 0 = omega arith in
    ap (λ k. grown old at k) count
grown-more old at (suc d) (suc n) =
    let one = grown-some old at (suc d) (omega arith) in
    let two = grown-some (grown old at (suc d)) (at + suc d) (suc n) (omega arith) in
    let all = grown-some old at (suc d + suc n) (omega arith) in
    let both : max (max old (at + suc d)) (at + suc d + suc n) ≡ max old (at + (suc d + suc n)) = omega arith in
    two ∙ ap (λ m. max m (at + suc d + suc n)) one ∙ both ∙ sym all

-- the next bytes of a part
pub put-more : (at d n : ℕ) (part a b c : List ℕ) → d + n ≤ length part → IsPut at (take d part) a b
    → IsPut (at + d) (take n (drop d part)) b c
    → IsPut at (take (d + n) part) a c
put-more at d n part a b c fits p q =
    let ld : length (take d part) ≡ d = length-take-le d part (omega arith) in
    let lr = length-drop d part in
    let ln : length (take n (drop d part)) ≡ n = length-take-le n (drop d part) (omega arith) in
    let lt : length (take (d + n) part) ≡ d + n = length-take-le (d + n) part fits in
    record {
      inside = λ k low. elim (cases_lt k d) [
        | inl first ↦
            q.before (at + k) (omega arith) ∙ p.inside k (omega arith) ∙ get_or-take d part k 0 first
            ∙ sym (get_or-take (d + n) part k 0 (omega arith))
        | inr later ↦
            let place : at + k ≡ at + d + (k - d) = omega arith in
            let index : d + (k - d) ≡ k = omega arith in
            ap (slice_index c) place ∙ q.inside (k - d) (omega arith)
            ∙ get_or-take n (drop d part) (k - d) 0 (omega arith) ∙ get_or-drop d part (k - d) 0
            ∙ ap (slice_index part) index ∙ sym (get_or-take (d + n) part k 0 (omega arith))
      ];
      before = λ k low. q.before k (omega arith) ∙ p.before k low;
      behind = λ k high. q.behind k (omega arith) ∙ p.behind k (omega arith);
      len =
          q.len ∙ ap (λ m. grown (length b) (at + d) m) ln
          ∙ ap (λ m. grown m (at + d) n) (p.len ∙ ap (λ m. grown (length a) at m) ld)
          ∙ grown-more (length a) at d n ∙ ap (λ m. grown (length a) at m) (sym lt);
    }

-- Parts, and cells, with the same bytes.
use Rattle.std.proofs.Common.{◌≡◌, ℕ, ◌+◌, ◌*◌, ◌<◌, List, arith, refl, sym, ap, ◌∙◌}
use Rattle.std.specs.Prelude.{slice_index}
use Rattle.std.proofs.lemmas.List.{ext_get_or}
use Rattle.std.proofs.lemmas.List.FromFn.{get_or-map-range_with_len, length-map-range_with_len}
use Rattle.nofs_disk.specs.CellsOfBytes.{cell_in, part_of}

pub part-same : (a b : List ℕ) (i j n : ℕ) → ((k : ℕ) → k < n → slice_index a (i + k) ≡ slice_index b (j + k))
    → part_of a i n ≡ part_of b j n
unfolding part_of
part-same a b i j n same =
    ext_get_or 0 (part_of a i n) (part_of b j n)
    (length-map-range_with_len (slice_index a) i n ∙ sym (length-map-range_with_len (slice_index b) j n)) (λ k low.
    let small : k < n = omega (arith, low, length-map-range_with_len (slice_index a) i n) in
    get_or-map-range_with_len (slice_index a) i n k (i + k) 0 small refl ∙ same k small
    ∙ sym (get_or-map-range_with_len (slice_index b) j n k (j + k) 0 small refl))

pub cell-same-bytes : (a b : List ℕ) (n : ℕ)
    → ((k : ℕ) → k < 1056 → slice_index a (1056 * n + k) ≡ slice_index b (1056 * n + k)) → cell_in a n ≡ cell_in b n
unfolding cell_in
cell-same-bytes a b n same =
    let one = part-same a b (1056 * n) (1056 * n) 1024 (λ k low. same k (omega arith)) in
    let two = part-same a b (1056 * n + 1024) (1056 * n + 1024) 32 (λ k low.
    let place : 1056 * n + (1024 + k) ≡ 1056 * n + 1024 + k = omega arith in
    sym (ap (slice_index a) place) ∙ same (1024 + k) (omega arith) ∙ ap (slice_index b) place) in
    λ i. record { payload = one i; tag = two i }

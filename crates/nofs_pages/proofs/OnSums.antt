-- The accumulators after some stripes.
use Rattle.std.proofs.Common.{◌≡◌, ℕ, suc, ◌+◌, ◌*◌, ◌/◌, List, length, arith, refl, sym, ap, ◌∙◌}
use Rattle.std.specs.Prelude.{slice_range}
use Rattle.nofs_pages.specs.Sums.{begin_of, end_of, lanes_after, stripe_of, sum_in}
use Rattle.nofs_pages.specs.declared.sum.Lanes.{Lanes}

pub lanes-begin : (seed : ℕ) (bytes : List ℕ) → lanes_after seed bytes 0 ≡ begin_of seed
unfolding lanes_after
lanes-begin seed bytes = refl

lanes-suc : (seed : ℕ) (bytes : List ℕ) (k : ℕ)
    → lanes_after seed bytes (suc k) ≡ stripe_of (lanes_after seed bytes k) (slice_range bytes (32 * k) (32 * k + 32))
unfolding lanes_after
lanes-suc seed bytes k = refl

pub lanes-next : (seed : ℕ) (bytes : List ℕ) (k : ℕ)
    → lanes_after seed bytes (k + 1) ≡ stripe_of (lanes_after seed bytes k) (slice_range bytes (32 * k) (32 * k + 32))
lanes-next seed bytes k =
    let e : k + 1 ≡ suc k = omega arith in
    ap (lanes_after seed bytes) e ∙ lanes-suc seed bytes k

pub sum-all : (seed : ℕ) (bytes : List ℕ) (lanes : Lanes) (count : ℕ)
    → lanes ≡ lanes_after seed bytes count → count ≡ length bytes / 32 → end_of lanes (length bytes) ≡ sum_in seed bytes
unfolding sum_in
sum-all seed bytes lanes count is all =
    ap (λ l. end_of l (length bytes)) (is ∙ ap (lanes_after seed bytes) all)

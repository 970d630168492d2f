-- Orders of the numbers below a count. A function is what it may answer at a number.
use Rattle.std.specs.Prelude.{◌≡◌, ℕ, ◌<◌}

-- each number below a count is the item of some place below it, and the only one there
abbrev pub EachHasPlace : ℕ → (ℕ → ℕ → Type 0) → Type 0
EachHasPlace count Item =
    (item : ℕ) → item < count → (place : ℕ) × (place < count) × ((found : ℕ) → Item place found → found ≡ item)

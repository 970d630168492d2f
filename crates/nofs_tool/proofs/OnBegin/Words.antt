-- The task of two words, and words that are too few or too many for a command.
use Rattle.std.proofs.Common.{◌≡◌, ◌≢◌, ℕ, ◌<◌, ◌≤◌, List, [], ◌∷◌, length, get_or, map, None, refl, arith}
use Rattle.nofs_tool.specs.Begin.Words.{prefixed_in, task_in}

-- a command has one word, two or three
pub task-none : (words : List (List ℕ)) → length words ≢ 1 → length words ≢ 2 → length words ≢ 3 → task_in words ≡ None
task-none [] one two three = refl
task-none (a ∷ []) one two three = absurd (one refl)
task-none (a ∷ b ∷ []) one two three = absurd (two refl)
task-none (a ∷ b ∷ c ∷ []) one two three = absurd (three refl)
task-none (a ∷ b ∷ c ∷ d ∷ rest) one two three = refl

-- two words are one and a prefix
pub task-prefixed : {W : Type 0} (f : W → List ℕ) (ws : List W) (w p d e : W) → 2 ≤ length ws → length ws < 3
    → w ≡ get_or ws 0 d → p ≡ get_or ws 1 e → prefixed_in (f w) (f p) ≡ task_in (map f ws)
task-prefixed f [] w p d e low high first next = absurd (omega (arith, low))
task-prefixed f (a ∷ []) w p d e low high first next = absurd (omega (arith, low))
task-prefixed f (a ∷ b ∷ []) w p d e low high first next = λ j. prefixed_in (f (first j)) (f (next j))
task-prefixed f (a ∷ b ∷ c ∷ ws) w p d e low high first next = absurd (omega (arith, high))

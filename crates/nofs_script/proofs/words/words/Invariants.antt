use Rattle.std.proofs.Common.{◌≡◌, ◌≤◌, ◌++◌, length, map}
use Rattle.nofs_script.specs.Words.{piece_of, words_of}
use Rattle.nofs_script.proofs.words.words.Given as goal

abbrev pub invariant-spaces : goal.invariant-spaces
invariant-spaces l = (map piece_of l.words.items ++ words_of l.rest ≡ words_of l.line) × (length l.words.items ≤ 5)

abbrev pub decreases-spaces : goal.decreases-spaces
decreases-spaces l = length l.rest

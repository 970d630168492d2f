use Rattle.std.proofs.Common.{◌≡◌, ◌*◌, ◌==◌, ◌&&◌, take, drop}
use Rattle.std.specs.List.{list_all}
use Rattle.nofs_dirent.proofs.entry.are_zero_from.Given as goal

abbrev pub invariant-loop-word : goal.invariant-loop-word
invariant-loop-word l = l.all
    ≡ (list_all (λ b. b == 0) (drop 56 l.bytes) && list_all (λ b. b == 0) (take (8 * l.word) (drop l.from l.bytes)))

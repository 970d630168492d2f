use Rattle.std.proofs.Common.{◌≡◌, take}
use Rattle.std.specs.Prelude.{count_by, sum_by}
use Rattle.nofs_gen.specs.Tally.{is_refused_line}
use Rattle.nofs_gen.proofs.tally.refused.Given as goal

abbrev pub invariant-loop-lines : goal.invariant-loop-lines
invariant-loop-lines l = l.total ≡ sum_by (count_by is_refused_line) (take l.lines-index l.users)

use Rattle.std.proofs.Common.{◌≡◌, take}
use Rattle.std.specs.Prelude.{count_by}
use Rattle.nofs_gen.specs.Tally.{is_refused_line}
use Rattle.nofs_gen.proofs.tally.refused_in.Given as goal

abbrev pub invariant-loop-line : goal.invariant-loop-line
invariant-loop-line l = l.total ≡ count_by is_refused_line (take l.line-index l.lines)

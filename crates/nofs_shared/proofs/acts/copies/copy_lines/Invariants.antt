use Rattle.std.proofs.Common.{◌≡◌, take}
use Rattle.nofs_shared.proofs.acts.copies.copy_lines.Given as goal

abbrev pub invariant-loop-place : goal.invariant-loop-place
invariant-loop-place l = l.copy ≡ take l.place l.lines

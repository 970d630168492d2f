use Rattle.std.proofs.Common.{◌≡◌, ◌++◌, take, flat_map}
use Rattle.nofs_wire.specs.Frames.Replies.{line_bytes}
use Rattle.nofs_wire.proofs.frames.replies.push_lines.Given as goal

abbrev pub invariant-loop-line : goal.invariant-loop-line
invariant-loop-line l = l.out.items ≡ l.initial.out.items ++ flat_map line_bytes (take l.line-index l.lines)

use Rattle.std.proofs.Common.{◌≡◌, ◌++◌, map, take}
use Rattle.nofs_client.specs.declared.task.lines.ListPart.TheVariants.{Name}
use Rattle.nofs_client.proofs.task.slots.with_names.Given as goal

abbrev pub invariant-loop-line : goal.invariant-loop-line
invariant-loop-line l = l.parts ≡ l.initial.parts ++ map Name (take l.line-index l.names)

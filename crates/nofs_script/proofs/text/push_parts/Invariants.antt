use Rattle.std.proofs.Common.{◌≡◌, ◌++◌, take}
use Rattle.nofs_script.specs.Parts.{parts_text}
use Rattle.nofs_script.proofs.text.push_parts.Given as goal

abbrev pub invariant-loop-part : goal.invariant-loop-part
invariant-loop-part l = l.text.items ≡ l.fn.text.items ++ parts_text (take l.part-index l.parts)

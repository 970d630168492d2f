use Rattle.std.proofs.Common.{◌≡◌, ◌++◌, take, flat_map}
use Rattle.nofs_script.specs.Text.{got_text}
use Rattle.nofs_script.proofs.text.push_got.Given as goal

abbrev pub invariant-loop-part : goal.invariant-loop-part
invariant-loop-part l = l.text.items ≡ l.fn.text.items ++ flat_map got_text (take l.part-index l.part-items)

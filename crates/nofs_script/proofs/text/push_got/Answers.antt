use Rattle.nofs_script.specs.Text.{got_text}
use Rattle.nofs_script.proofs.OnText.{item-added}
use Rattle.nofs_script.proofs.text.push_got.Goals as goal

pub loop-part-preserved : goal.loop-part-preserved
loop-part-preserved c = item-added got_text c.as_slice-part-items.result.now c.loop-part.part-index c.part-item.result
    c.args.text.now.items c.loop-part.text.items c.push_parts.new.text.items _ c.loop-part-test.true c.part-item.is
    c.loop-part.invariant c.in_ok-push_parts.ensures c.got_parts.ensures

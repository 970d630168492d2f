use Rattle.nofs_script.specs.Text.{listed_text}
use Rattle.nofs_script.proofs.OnText.{item-added}
use Rattle.nofs_script.proofs.text.push_listed.Goals as goal

pub loop-part-preserved : goal.loop-part-preserved
loop-part-preserved c =
    item-added listed_text c.as_slice-part-items.result.now c.loop-part.part-index c.part-item.result
    c.args.text.now.items c.loop-part.text.items c.push_parts.new.text.items _ c.loop-part-test.true c.part-item.is
    c.loop-part.invariant c.in_ok-push_parts.ensures c.listed_parts.ensures

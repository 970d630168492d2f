use Rattle.std.proofs.Common.{rules, ◌<◌, length}
use Rattle.nofs_gen.proofs.OnFile.{padded-push}
use Rattle.nofs_gen.proofs.file.pad.Goals as goal

pub loop-values-preserved : goal.loop-values-preserved
loop-values-preserved c =
    let low : length c.loop-values.values.items < 72 = search rules in
    padded-push c.loop-values.values.items c.push.new.self.items _ c.in_ok-push.ensures.items low
    c.loop-values.invariant

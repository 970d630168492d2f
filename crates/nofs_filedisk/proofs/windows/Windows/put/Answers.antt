use Rattle.std.proofs.Common.{arith}
use Rattle.nofs_filedisk.proofs.OnWindows.{half-all, half-next}
use Rattle.nofs_filedisk.proofs.windows.Windows.put.Goals as goal

pub loop-at-preserved : goal.loop-at-preserved
loop-at-preserved c old new put all =
    let count = c.loop-at.self.count in
    half-next old new c.loop-at.at c.loop-at.self.windows.items c.index_mut.result.now c.put.new.self
    (omega (arith, count, c.loop-at-test.true))
    c.index_mut.ensures.value
    (c.loop-at.invariant old new put all) (c.put.ensures old new put)

pub returns : goal.returns
returns c old new put all =
    let count = c.loop-at.self.count in
    half-all old new c.loop-at.at c.loop-at.self.windows.items (omega (arith, count))
    (c.loop-at.invariant old new put all)

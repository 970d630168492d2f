use Rattle.std.proofs.Common.{◌≡◌, false, sym}
use Rattle.nofs_history.specs.Faults.{has_fault}
use Rattle.nofs_tool.proofs.OnSession.Counts.{found-more, none-unwritten}
use Rattle.nofs_tool.proofs.session.counts.has_write_fault.Goals as goal

pub loop-at-preserved : goal.loop-at-preserved
loop-at-preserved c = found-more _ _ _ _ _ c.loop-at.invariant c.is_unwritten-found.ensures

pub returns-then-not-has_fault : goal.returns-then-not-has_fault
returns-then-not-has_fault c =
    let ok : has_fault c.args.history.now.entries ≡ false = cc (c.has_fault.ensures, c.if-not-has_fault.true) in
    sym (none-unwritten c.args.history.now.entries ok)

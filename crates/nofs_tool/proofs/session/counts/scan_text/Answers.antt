use Rattle.std.proofs.Common.{◌≡◌, false}
use Rattle.nofs_tool.specs.Session.Counts.{has_write_fault}
use Rattle.nofs_tool.proofs.OnSession.Counts.{counts-text}
use Rattle.nofs_tool.proofs.session.counts.scan_text.Goals as goal

pub returns-else-has_write_fault : goal.returns-else-has_write_fault
returns-else-has_write_fault c =
    let none : has_write_fault c.args.history.now.entries ≡ false =
    cc (c.has_write_fault.ensures, c.if-has_write_fault.false) in
    counts-text c.args.history.now.entries c.args.counts.now c.counts_text.result none c.counts_text.ensures

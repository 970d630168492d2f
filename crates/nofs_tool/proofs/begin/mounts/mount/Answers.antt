use Rattle.nofs_tool.proofs.OnBegin.Causes.{unmounted-told}
use Rattle.nofs_tool.proofs.OnBegin.Formats.{raised-from}
use Rattle.nofs_tool.proofs.begin.mounts.mount.Goals as goal

pub returns-in-Ok-clause-raised : goal.returns-in-Ok-clause-raised
returns-in-Ok-clause-raised g c =
    let m = c.in-Ok.mount in
    let e = c.in-Ok.ensures in
    raised-from g.D.Disk.state c.args.disk m.found.value (g.D.Disk.state m.core.disk) m.core.books e.mount.0 e.begins

pub returns-in-Err-clause-refused : goal.returns-in-Err-clause-refused
returns-in-Err-clause-refused g c =
    unmounted-told _ _ c.in-Err.field-0.cause _ c.mount_cause.ensures c.in-Err.ensures.fault

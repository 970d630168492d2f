use Rattle.std.proofs.Common.{sym, subst}
use Rattle.std.specs.Prelude.{codes}
use Rattle.nofs_history.specs.HistoryState.{HistoryState}
use Rattle.nofs_cases.specs.Mounts.Replies.{SeesAndPuts}
use Rattle.nofs_cases.proofs.OnMounts.Crashes.{crashed}
use Rattle.nofs_cases.proofs.mounts.crashes.crashed_put.Goals as goal

pub returns-in-Ok-image : goal.returns-in-Ok-image
returns-in-Ok-image c =
    let m = c.in-Ok.mount in
    let steps = subst (λ (h : HistoryState). SeesAndPuts 5 (codes "ab") h.entries)
    (sym c.end-disk.ensures.is.1) c.in-Ok.ensures.history in
    crashed m.found.value c.end-disk.result.0 c.in-Ok-image.left m.first c.end-disk.result.1 c.in-Ok.ensures.found
    c.in-Ok.ensures.blank steps
    c.law_comes_after.ensures.settled c.in-Ok-image.ensures.settled c.in-Ok-image.ensures.parts c.end-disk.ensures.ends

use Rattle.std.proofs.Common.{arith}
use Rattle.nofs_pages.specs.Views.{paged_state}
use Rattle.nofs_pages.proofs.OnViews.{keeps-cells, keeps-trans}
use Rattle.nofs_pages.proofs.paged.Paged.sync_store.Goals as goal

pub returns-in-Ok-clause-keeps : goal.returns-in-Ok-clause-keeps
returns-in-Ok-clause-keeps g c =
    let old = c.args.self.now in
    keeps-cells (g.S.PageStore.state old.store) (g.S.PageStore.state c.sync.new.self)
    (g.S.PageStore.state old.synced.value) old.row old.faults old.faults c.sync.ensures.syncs.keeps (omega arith)

pub returns-in-Err-clause-keeps : goal.returns-in-Err-clause-keeps
returns-in-Err-clause-keeps g c =
    let old = c.args.self.now in
    let new = c.failed-in-Err.new.self in
    let synced = g.S.PageStore.state old.synced.value in
    keeps-trans (paged_state (g.S.PageStore.state old.store) synced old.row old.faults)
    (paged_state (g.S.PageStore.state c.sync.new.self) synced old.row old.faults)
    (paged_state (g.S.PageStore.state new.store) (g.S.PageStore.state new.synced.value) new.row new.faults)
    (keeps-cells (g.S.PageStore.state old.store) (g.S.PageStore.state c.sync.new.self) synced old.row old.faults
    old.faults c.sync.ensures.syncs.keeps (omega arith))
    c.failed-in-Err.ensures.keeps

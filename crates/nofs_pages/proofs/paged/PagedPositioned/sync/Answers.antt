use Rattle.std.proofs.Common.{◌∙◌, sym}
use Rattle.nofs_pages.specs.Views.{paged_state}
use Rattle.nofs_pages.proofs.OnCalls.{sync-all}
use Rattle.nofs_pages.proofs.paged.PagedPositioned.sync.Goals as goal

pub returns-clause-syncs : goal.returns-clause-syncs
returns-clause-syncs g c =
    let old = c.args.self.now in
    let mid = c.settle.new.self in
    let new = c.sync_store.new.self in
    let did = c.in_ok-sync_store.ensures in
    rw c.of.ensures
    (sync-all (g.S.PageStore.state old.store) (g.S.PageStore.state mid.store) (g.S.PageStore.state new.store)
    (g.S.PageStore.state old.synced.value) (g.S.PageStore.state mid.synced.value)
    (g.S.PageStore.state new.synced.value) old.row mid.row new.row old.faults mid.faults new.faults
    c.in_ok-settle.ensures.keeps did.keeps did.bytes (mid.plain c.in_ok-settle.ensures.plain) did.row did.no_fault
    c.in_ok-settle.ensures.no_fault)

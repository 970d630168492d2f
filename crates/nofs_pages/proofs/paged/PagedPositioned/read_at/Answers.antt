use Rattle.std.proofs.Common.{◌∙◌, Ok, ap}
use Rattle.nofs_pages.specs.Views.{paged_state}
use Rattle.nofs_pages.proofs.OnCalls.{reads-some}
use Rattle.nofs_pages.proofs.paged.PagedPositioned.read_at.Goals as goal

pub returns-in-Ok-Some-clause-reads : goal.returns-in-Ok-Some-clause-reads
returns-in-Ok-Some-clause-reads g c =
    let old = c.args.self.now in
    let new = c.read_some.new.self in
    let did = c.read_some.ensures in
    reads-some (g.S.PageStore.state old.store) (g.S.PageStore.state old.synced.value) old.row old.faults
    (paged_state (g.S.PageStore.state new.store) (g.S.PageStore.state new.synced.value) new.row new.faults) c.args.at
    c.args.into.now c.read_some.new.into
    c.read_some.result c.in-Ok-Some.count (c.in-Ok-Some.is ∙ ap Ok c.in-Ok-Some.field-0-is) did.keeps did.len did.fits
    did.part did.end did.no_fault

use Rattle.std.proofs.Common.{◌+◌, ◌∙◌, ap, arith, refl, sym}
use Rattle.std.specs.Prelude.{slice_range}
use Rattle.nofs_pages.specs.Views.{byte_over, paged_state}
use Rattle.nofs_pages.proofs.OnComposing.{cells-read}
use Rattle.nofs_pages.proofs.OnViews.{keeps-cells, keeps-trans, plain-same, rests-map}
use Rattle.nofs_pages.proofs.paged.Paged.read_parts.Goals as goal

pub invariant_of-self-clause-plain : goal.invariant_of-self-clause-plain
invariant_of-self-clause-plain g c settled tells =
    let old = c.args.self.now in
    let did = c.gather.ensures.keeps in
    plain-same (g.S.PageStore.state old.store).bytes (g.S.PageStore.state c.gather.new.store).bytes old.row
    (did.bytes (sym did.tells ∙ tells)) (old.plain settled (sym did.tells ∙ tells))

pub invariant_of-self-clause-rests : goal.invariant_of-self-clause-rests
invariant_of-self-clause-rests g c moving =
    let old = c.args.self.now in
    rests-map (g.S.PageStore.rests old.store) (g.S.PageStore.rests c.gather.new.store) old.put c.gather.ensures.rests
    (old.rests moving)

pub returns-in-Ok-true-clause-keeps : goal.returns-in-Ok-true-clause-keeps
returns-in-Ok-true-clause-keeps g c =
    let old = c.args.self.now in
    keeps-cells (g.S.PageStore.state old.store) (g.S.PageStore.state c.gather.new.store)
    (g.S.PageStore.state old.synced.value) old.row old.faults old.faults c.gather.ensures.keeps (omega arith)

pub returns-in-Ok-true-clause-part : goal.returns-in-Ok-true-clause-part
returns-in-Ok-true-clause-part g c tells =
    let old = c.args.self.now in
    cells-read (byte_over (g.S.PageStore.state old.store).bytes old.row) c.args.first c.args.offset c.args.count
    c.pages_of.result old.areas.items c.gather.new.areas.items c.copy_some.new.into
    (c.in-Ok-true.ensures.cells c.in-Ok-true.field-0-test tells) (omega (arith, c.pages_of.ensures))
    (c.copy_some.ensures.part
    ∙ ap (λ l. slice_range l c.args.offset (c.args.offset + c.args.count)) c.as_slice.ensures.value)

pub returns-in-Ok-false-clause-keeps : goal.returns-in-Ok-false-clause-keeps
returns-in-Ok-false-clause-keeps g c =
    let old = c.args.self.now in
    keeps-cells (g.S.PageStore.state old.store) (g.S.PageStore.state c.gather.new.store)
    (g.S.PageStore.state old.synced.value) old.row old.faults old.faults c.gather.ensures.keeps (omega arith)

pub returns-in-Err-clause-keeps : goal.returns-in-Err-clause-keeps
returns-in-Err-clause-keeps g c =
    let old = c.args.self.now in
    let new = c.failed.new.self in
    let synced = g.S.PageStore.state old.synced.value in
    keeps-trans (paged_state (g.S.PageStore.state old.store) synced old.row old.faults)
    (paged_state (g.S.PageStore.state c.gather.new.store) synced old.row old.faults)
    (paged_state (g.S.PageStore.state new.store) (g.S.PageStore.state new.synced.value) new.row new.faults)
    (keeps-cells (g.S.PageStore.state old.store) (g.S.PageStore.state c.gather.new.store) synced old.row old.faults
    old.faults c.gather.ensures.keeps (omega arith))
    c.failed.ensures.keeps

use Rattle.std.proofs.Common.{◌∙◌, arith, sym}
use Rattle.nofs_pages.specs.Views.{paged_state}
use Rattle.nofs_pages.proofs.OnComposing.{whole-read, whole-told}
use Rattle.nofs_pages.proofs.OnViews.{keeps-cells, keeps-trans, plain-same, rests-map}
use Rattle.nofs_pages.proofs.paged.Paged.read_whole.Goals as goal

pub invariant_of-self-clause-plain : goal.invariant_of-self-clause-plain
invariant_of-self-clause-plain g c settled tells =
    let old = c.args.self.now in
    let did = c.show.ensures.shows.keeps in
    plain-same (g.S.PageStore.state old.store).bytes (g.S.PageStore.state c.show.new.self).bytes old.row
    (did.bytes (sym did.tells ∙ tells)) (old.plain settled (sym did.tells ∙ tells))

pub invariant_of-self-clause-rests : goal.invariant_of-self-clause-rests
invariant_of-self-clause-rests g c moving =
    let old = c.args.self.now in
    rests-map (g.S.PageStore.rests old.store) (g.S.PageStore.rests c.show.new.self) old.put c.show.ensures.rests
    (old.rests moving)

pub returns-in-Ok-true-clause-keeps : goal.returns-in-Ok-true-clause-keeps
returns-in-Ok-true-clause-keeps g c =
    let old = c.args.self.now in
    keeps-cells (g.S.PageStore.state old.store) (g.S.PageStore.state c.show.new.self)
    (g.S.PageStore.state old.synced.value) old.row old.faults old.faults c.show.ensures.shows.keeps (omega arith)

pub returns-in-Ok-true-clause-part : goal.returns-in-Ok-true-clause-part
returns-in-Ok-true-clause-part g c tells =
    let old = c.args.self.now in
    whole-read (g.S.PageStore.state old.store).bytes old.row c.args.first c.args.count c.args.into.now c.show.new.into
    c.requires.apart c.requires.whole (c.in-Ok-true.ensures.shows.cells c.in-Ok-true.field-0-test tells)

pub returns-in-Ok-true-clause-told : goal.returns-in-Ok-true-clause-told
returns-in-Ok-true-clause-told g c =
    let old = c.args.self.now in
    whole-told (g.S.PageStore.told c.show.new.self) old.row c.args.first c.args.count c.requires.whole
    (c.in-Ok-true.ensures.told c.in-Ok-true.field-0-test)

pub returns-in-Ok-false-clause-keeps : goal.returns-in-Ok-false-clause-keeps
returns-in-Ok-false-clause-keeps g c =
    let old = c.args.self.now in
    keeps-cells (g.S.PageStore.state old.store) (g.S.PageStore.state c.show.new.self)
    (g.S.PageStore.state old.synced.value) old.row old.faults old.faults c.show.ensures.shows.keeps (omega arith)

pub returns-in-Err-clause-keeps : goal.returns-in-Err-clause-keeps
returns-in-Err-clause-keeps g c =
    let old = c.args.self.now in
    let new = c.failed.new.self in
    let synced = g.S.PageStore.state old.synced.value in
    keeps-trans (paged_state (g.S.PageStore.state old.store) synced old.row old.faults)
    (paged_state (g.S.PageStore.state c.show.new.self) synced old.row old.faults)
    (paged_state (g.S.PageStore.state new.store) (g.S.PageStore.state new.synced.value) new.row new.faults)
    (keeps-cells (g.S.PageStore.state old.store) (g.S.PageStore.state c.show.new.self) synced old.row old.faults
    old.faults c.show.ensures.shows.keeps (omega arith))
    c.failed.ensures.keeps

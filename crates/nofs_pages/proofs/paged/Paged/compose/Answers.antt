use Rattle.std.proofs.Common.{◌∙◌, arith, sym, ℕ}
use Rattle.nofs_pages.specs.Views.{byte_over, paged_state}
use Rattle.nofs_pages.proofs.OnComposing.{composed-same}
use Rattle.nofs_pages.proofs.OnViews.{keeps-cells, keeps-trans, over-same, plain-same, rests-map}
use Rattle.nofs_pages.proofs.paged.Paged.compose.Goals as goal

pub invariant_of-self-clause-plain : goal.invariant_of-self-clause-plain
invariant_of-self-clause-plain g c settled tells =
    let mid = c.renew.new.self in
    let did = c.compose.ensures.keeps in
    plain-same (g.S.PageStore.state mid.store).bytes (g.S.PageStore.state c.compose.new.store).bytes mid.row
    (did.bytes (sym did.tells ∙ tells)) (mid.plain settled (sym did.tells ∙ tells))

pub invariant_of-self-clause-rests : goal.invariant_of-self-clause-rests
invariant_of-self-clause-rests g c moving =
    let mid = c.renew.new.self in
    rests-map (g.S.PageStore.rests mid.store) (g.S.PageStore.rests c.compose.new.store) mid.put c.compose.ensures.rests
    (mid.rests moving)

pub returns-in-Ok-true-clause-keeps : goal.returns-in-Ok-true-clause-keeps
returns-in-Ok-true-clause-keeps g c =
    let old = c.args.self.now in
    let mid = c.renew.new.self in
    let synced = g.S.PageStore.state mid.synced.value in
    keeps-trans (paged_state (g.S.PageStore.state old.store) (g.S.PageStore.state old.synced.value) old.row old.faults)
    (paged_state (g.S.PageStore.state mid.store) synced mid.row mid.faults)
    (paged_state (g.S.PageStore.state c.compose.new.store) synced mid.row mid.faults) c.in_ok-renew.ensures.keeps
    (keeps-cells (g.S.PageStore.state mid.store) (g.S.PageStore.state c.compose.new.store) synced mid.row mid.faults
    mid.faults c.compose.ensures.keeps (omega arith))

pub returns-in-Ok-true-clause-composed : goal.returns-in-Ok-true-clause-composed
returns-in-Ok-true-clause-composed g c tells =
    let mid = g.S.PageStore.state c.renew.new.self.store in
    let new = g.S.PageStore.state c.compose.new.store in
    let row = c.renew.new.self.row in
    let did = c.compose.ensures.keeps in
    composed-same (byte_over mid.bytes row) (byte_over new.bytes row) c.args.first c.args.offset c.args.from.now
    c.compose.new.areas.items (λ (k : ℕ). over-same mid.bytes new.bytes row k (did.bytes (sym did.tells ∙ tells) k))
    (c.in-Ok-true.ensures.composed c.in-Ok-true.field-0-test (sym did.tells ∙ tells))

pub returns-in-Ok-false-clause-keeps : goal.returns-in-Ok-false-clause-keeps
returns-in-Ok-false-clause-keeps g c =
    let old = c.args.self.now in
    let mid = c.renew.new.self in
    let new = c.failed.new.self in
    let synced = g.S.PageStore.state mid.synced.value in
    keeps-trans (paged_state (g.S.PageStore.state old.store) (g.S.PageStore.state old.synced.value) old.row old.faults)
    (paged_state (g.S.PageStore.state mid.store) synced mid.row mid.faults)
    (paged_state (g.S.PageStore.state new.store) (g.S.PageStore.state new.synced.value) new.row new.faults)
    c.in_ok-renew.ensures.keeps
    (keeps-trans (paged_state (g.S.PageStore.state mid.store) synced mid.row mid.faults)
    (paged_state (g.S.PageStore.state c.compose.new.store) synced mid.row mid.faults)
    (paged_state (g.S.PageStore.state new.store) (g.S.PageStore.state new.synced.value) new.row new.faults)
    (keeps-cells (g.S.PageStore.state mid.store) (g.S.PageStore.state c.compose.new.store) synced mid.row mid.faults
    mid.faults c.compose.ensures.keeps (omega arith)) c.failed.ensures.keeps)

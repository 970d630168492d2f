use Rattle.std.proofs.Common.{◌∙◌, ℕ}
use Rattle.nofs_pages.specs.Views.{byte_over}
use Rattle.nofs_pages.proofs.OnComposing.{composed}
use Rattle.nofs_pages.proofs.OnViews.{over-same}
use Rattle.nofs_pages.proofs.compose.compose.Goals as goal

pub returns-then-begins-clause-composed : goal.returns-then-begins-clause-composed
returns-then-begins-clause-composed g c ends tells =
    let old = g.S.PageStore.state c.args.store.now in
    let mid = g.S.PageStore.state c.fetch_first.new.store in
    let row = c.args.row.now in
    let one = c.in_ok-begins.ensures in
    let two = c.in_ok-ends.ensures in
    composed (byte_over old.bytes row) (byte_over mid.bytes row) c.args.first c.args.offset c.pages_of.result
    c.args.from.now c.fetch_first.new.areas.items c.fetch_last.new.areas.items c.put_part.new.bytes.items
    (λ (k : ℕ). over-same old.bytes mid.bytes row k (one.keeps.bytes tells k)) c.pages_of.ensures c.requires.some
    c.requires.offset c.requires.fits two.len (one.cells c.if-begins.true tells)
    (two.cells ends (one.keeps.tells ∙ tells)) c.put_part.ensures.part

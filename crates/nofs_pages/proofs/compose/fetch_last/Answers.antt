use Rattle.std.proofs.Common.{arith}
use Rattle.nofs_pages.specs.Views.{byte_over}
use Rattle.nofs_pages.proofs.OnComposing.{last-fetched-ok}
use Rattle.nofs_pages.proofs.compose.fetch_last.Goals as goal

pub returns-then-end-count-clause-cells : goal.returns-then-end-count-clause-cells
returns-then-end-count-clause-cells g c =
    let old = g.S.PageStore.state c.args.store.now in
    last-fetched-ok (byte_over old.bytes c.args.row.now) old.tells c.args.first c.args.count c.args.end
    c.args.areas.now.items c.fetch.new.areas.items c.fetch.result (omega (arith, c.if-count-gt1.true))
    c.fetch.ensures.cells

use Rattle.std.proofs.Common.{◌+◌, Bool}
use Rattle.std.specs.Prelude.{IsTrue, slice_index}
use Rattle.nofs_pages.specs.Views.{ShowsCells}
use Rattle.nofs_pages.proofs.OnComposing.{if-ok, one-apart, row-copied, shown-beside}
use Rattle.nofs_pages.proofs.compose.fetch.Goals as goal

pub returns-then-has-clause-cells : goal.returns-then-has-clause-cells
returns-then-has-clause-cells g c all tells =
    let has = c.has.ensures.yes c.if-has.true in
    row-copied (g.S.PageStore.state c.args.store.now).bytes c.args.row.now c.args.number c.args.to
    c.args.areas.now.items c.copy.new.areas.items has.0 has.1 c.copy.ensures.part c.requires.areas

pub returns-clause-cells : goal.returns-clause-cells
returns-clause-cells g c =
    let old = g.S.PageStore.state c.args.store.now in
    let row = c.args.row.now in
    let apart = one-apart row c.args.number (c.has.ensures.no c.if-has.false) in
    if-ok c.show_among.result (λ (b : Bool) (shows : IsTrue b → IsTrue old.tells → ShowsCells (slice_index old.bytes)
    c.args.number 1 c.args.to c.args.areas.now.items c.show_among.new.areas.items) all tells.
    shown-beside old.bytes row c.args.number 1 c.args.to c.args.areas.now.items c.show_among.new.areas.items apart
    (shows all tells)) c.show_among.ensures.shows.cells

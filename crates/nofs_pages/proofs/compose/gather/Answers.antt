use Rattle.std.proofs.Common.{◌+◌, ◌∙◌, ◌≤◌, Bool, arith, ℕ}
use Rattle.std.specs.Prelude.{IsTrue, slice_index}
use Rattle.nofs_pages.specs.Views.{ShowsCells, byte_over}
use Rattle.nofs_pages.proofs.OnComposing.{cells-next, if-ok, shown-beside, told-next}
use Rattle.nofs_pages.proofs.OnViews.{over-same}
use Rattle.nofs_pages.proofs.compose.gather.Goals as goal

pub returns-then-is_apart-clause-cells : goal.returns-then-is_apart-clause-cells
returns-then-is_apart-clause-cells g c =
    let old = g.S.PageStore.state c.args.store.now in
    let row = c.args.row.now in
    if-ok c.show_among.result (λ (b : Bool) (shows : IsTrue b → IsTrue old.tells → ShowsCells (slice_index old.bytes)
    c.args.first c.args.count 0 c.args.areas.now.items c.show_among.new.areas.items) all tells.
    shown-beside old.bytes row c.args.first c.args.count 0 c.args.areas.now.items c.show_among.new.areas.items
    (c.is_apart.ensures c.if-is_apart.true) (shows all tells)) c.show_among.ensures.shows.cells

pub loop-at-preserved : goal.loop-at-preserved
loop-at-preserved g c =
    let old = g.S.PageStore.state c.args.store.now in
    let mid = g.S.PageStore.state c.loop-at.store in
    let row = c.args.row.now in
    let inv = c.loop-at.invariant in
    let did = c.in_ok-fetch.ensures in
    let faults = did.keeps.faults in
    let before = inv.keeps.faults in
    record {
      keeps = record {
        tells = did.keeps.tells ∙ inv.keeps.tells;
        faults = omega (arith, faults, before);
        bytes = λ tells k. did.keeps.bytes (inv.keeps.tells ∙ tells) k ∙ inv.keeps.bytes tells k;
      };
      no_fault = did.no_fault ∙ inv.no_fault;
      rests = λ p rests. did.rests p (inv.rests p rests);
      len = did.len ∙ inv.len;
      cells = λ tells. cells-next (byte_over old.bytes row) (byte_over mid.bytes row) c.args.first c.loop-at.at
          c.args.areas.now.items c.loop-at.areas.items c.fetch.new.areas.items
          (λ (k : ℕ). over-same old.bytes mid.bytes row k (inv.keeps.bytes tells k)) (inv.cells tells)
          (did.cells c.if-not-branch.false (inv.keeps.tells ∙ tells));
      told = told-next (g.S.PageStore.told c.loop-at.store) (g.S.PageStore.told c.fetch.new.store) row c.args.first
          c.loop-at.at did.stays_told inv.told (did.told c.if-not-branch.false);
    }

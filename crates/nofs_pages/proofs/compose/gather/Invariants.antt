use Rattle.std.proofs.Common.{◌≡◌, ℕ, length}
use Rattle.std.specs.Prelude.{IsTrue}
use Rattle.nofs_pages.specs.Stores.{KeepsCells}
use Rattle.nofs_pages.specs.Views.{HasTold, ShowsCells, byte_over}
use Rattle.nofs_pages.proofs.compose.gather.Given as goal

abbrev pub invariant-loop-at : goal.invariant-loop-at
invariant-loop-at g l = record {
  keeps : KeepsCells (g.S.PageStore.state l.fn.store) (g.S.PageStore.state l.store);
  no_fault : (g.S.PageStore.state l.store).faults ≡ (g.S.PageStore.state l.fn.store).faults;
  rests : (p : ℕ) → g.S.PageStore.rests l.fn.store p → g.S.PageStore.rests l.store p;
  len : length l.areas.items ≡ 101376;
  cells : IsTrue (g.S.PageStore.state l.fn.store).tells
      → ShowsCells (byte_over (g.S.PageStore.state l.fn.store).bytes l.row) l.first l.at 0
      l.fn.areas.items l.areas.items;
  told : HasTold (g.S.PageStore.told l.store) l.row l.first l.at;
}

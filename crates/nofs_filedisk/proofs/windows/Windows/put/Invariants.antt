use Rattle.std.proofs.Common.{List, ℕ, ◌*◌}
use Rattle.std.specs.Prelude.{All}
use Rattle.nofs_filedisk.specs.Bytes.{IsPut}
use Rattle.nofs_filedisk.specs.Windows.{IsShown}
use Rattle.nofs_filedisk.proofs.OnWindows.{HalfShown}
use Rattle.nofs_filedisk.proofs.windows.Windows.put.Given as goal

abbrev pub invariant-loop-at : goal.invariant-loop-at
invariant-loop-at l = (old new : List ℕ) → IsPut (1056 * l.block) l.part old new
    → All (IsShown old) l.fn.self.windows.items
    → HalfShown old new l.at l.self.windows.items

-- What contracts see of a history.
use Rattle.std.specs.Prelude.{ℕ, List}
use Rattle.nofs_history.specs.declared.machine.history.Entry1.{Entry1}

-- the moment of the mount, the entries in order, and the number of entries for which memory is kept
pub record HistoryState : Type 0 where
  pub start : ℕ
  pub entries : List Entry1
  pub spare : ℕ

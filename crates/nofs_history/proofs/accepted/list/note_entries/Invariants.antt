use Rattle.std.proofs.Common.{◌≡◌, ◌++◌, drop}
use Rattle.nofs_history.specs.Since.{values_given}
use Rattle.nofs_history.specs.Accepted.Files.{kept_files_of}
use Rattle.nofs_history.specs.Accepted.Fit.{AreFit}
use Rattle.nofs_history.proofs.accepted.list.note_entries.Given as goal

abbrev pub invariant-loop-at : goal.invariant-loop-at
invariant-loop-at l = AreFit l.history.entries
    → l.values.items ++ values_given (kept_files_of l.files)
    (drop l.at l.history.entries) l.wanted.inode l.wanted.generation l.wanted.slot
    ≡ l.initial.values.items ++ values_given (kept_files_of l.initial.files) l.history.entries l.wanted.inode
    l.wanted.generation l.wanted.slot

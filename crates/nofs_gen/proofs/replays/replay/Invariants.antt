use Rattle.std.proofs.Common.{◌≡◌, drop}
use Rattle.std.specs.Prelude.{fold}
use Rattle.nofs_gen.specs.Replay.{after_entry, empty_file, replayed_file}
use Rattle.nofs_gen.proofs.replays.replay.Given as goal

abbrev pub invariant-loop-at : goal.invariant-loop-at
invariant-loop-at l =
    fold (after_entry l.wanted.inode l.wanted.generation) (replayed_file l.file) (drop l.at l.history.entries)
    ≡ fold (after_entry l.wanted.inode l.wanted.generation) empty_file l.history.entries

use Rattle.std.specs.Prelude.{All}
use Rattle.nofs_memdisk.specs.Parts.{memory_state}
use Rattle.nofs_versions.specs.Memory.{PicksVersions}
use Rattle.nofs_example.proofs.flushed_cells.Given as goal

abbrev pub invariant-loop-block : goal.invariant-loop-block
invariant-loop-block l = All (PicksVersions (memory_state l.disk)) l.picks.items

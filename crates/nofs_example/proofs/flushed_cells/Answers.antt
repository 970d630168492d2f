use Rattle.std.proofs.Common.{List, refl, sym, subst, rules}
use Rattle.std.specs.Prelude.{All}
use Rattle.nofs_memdisk.specs.Parts.{memory_state}
use Rattle.nofs_versions.specs.declared.call.Pick.{Pick}
use Rattle.nofs_versions.specs.Memory.{PicksVersions}
use Rattle.nofs_example.proofs.OnCut.{one-more}
use Rattle.nofs_example.proofs.flushed_cells.Goals as goal

pub loop-block-preserved : goal.loop-block-preserved
loop-block-preserved c = subst (λ (l : List Pick). All (PicksVersions (memory_state c.args.disk.now)) l)
    (sym c.in_ok-push.ensures.items)
    (one-more c.args.disk.now c.loop-block.picks.items _ c.loop-block.invariant (search rules) refl)

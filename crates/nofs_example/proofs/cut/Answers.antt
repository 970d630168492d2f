use Rattle.std.proofs.Common.{List, sym, subst}
use Rattle.std.specs.Prelude.{All}
use Rattle.nofs_memdisk.specs.Parts.{memory_state}
use Rattle.nofs_versions.specs.declared.call.Pick.{Pick}
use Rattle.nofs_versions.specs.Memory.{PicksVersions}
use Rattle.nofs_example.proofs.OnCut.{cut-result}
use Rattle.nofs_example.proofs.cut.Goals as goal

pub returns : goal.returns
returns c =
    let m = c.args.mount in
    let all = subst (λ (l : List Pick). All (PicksVersions (memory_state c.end-disk.result.0)) l)
    (sym c.as_slice.ensures.value) c.in_ok-flushed.ensures in
    record {
      leaves = rw (sym c.end-disk.ensures.is.0) (cut-result m.found.value c.end-disk.result.0 m.first m.core.books
          c.as_slice.result.now c.image.result all c.image.ensures.parts c.image.ensures.settled
          (rw (c.end-disk.ensures.is.0) m.stands));
    }

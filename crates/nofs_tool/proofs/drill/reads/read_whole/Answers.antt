use Rattle.std.proofs.Common.{refl, ◌∙◌, ◌≤◌, length, subst}
use Rattle.nofs_tool.proofs.OnDrill.Reads.{begun, begun-as, failed, reads-as}
use Rattle.nofs_tool.proofs.drill.reads.read_whole.Goals as goal

pub returns-in_err-slots-clause-reads : goal.returns-in_err-slots-clause-reads
returns-in_err-slots-clause-reads g c =
    failed _ _ _ _ _ _ c.from_residual.ensures.1
    (begun-as _ _ _ _ (begun _ _ _ _ _ c.in_err-slots.ensures.reads)
    (λ made read. (read.0, read.1, subst (λ n. length read.0 ≤ n) c.slots_in.ensures read.2)))

pub returns-clause-reads : goal.returns-clause-reads
returns-clause-reads g c =
    reads-as _ _ _ _ _ _ _ _ c.in_ok-slots.ensures.reads
    (λ made read. (refl, refl, read.0 ∙ c.slots_in.ensures, read.1))

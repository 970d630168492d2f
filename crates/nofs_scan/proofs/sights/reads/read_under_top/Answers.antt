use Rattle.std.proofs.Common.{refl}
use Rattle.nofs_scan.specs.Sights.Verdicts.{above_in, under_top}
use Rattle.nofs_scan.proofs.OnSights.Reads.{reads-both}
use Rattle.nofs_scan.proofs.sights.reads.read_under_top.Goals as goal

pub returns-clause-answers : goal.returns-clause-answers
returns-clause-answers g c =
    reads-both _ _ _ (λ X. above_in X c.args.block c.args.child) (λ u X. above_in X u.pointer.block c.args.place)
    (λ u l. record { upper = u; lower = l }) (λ X. under_top X c.args.block c.args.child c.args.place)
    c.in_ok-upper.upper c.in_ok-lower.lower c.in_ok-upper.ensures.answers c.in_ok-lower.ensures.answers (λ X. refl)

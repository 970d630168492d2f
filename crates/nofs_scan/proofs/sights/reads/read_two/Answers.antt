use Rattle.std.proofs.Common.{refl}
use Rattle.nofs_scan.specs.Sights.Verdicts.{link_sight}
use Rattle.nofs_scan.proofs.OnSights.Reads.{sees-both}
use Rattle.nofs_scan.proofs.sights.reads.read_two.Goals as goal

pub returns : goal.returns
returns g c = sees-both _ _ _ (λ X. link_sight X c.args.one.now) (λ s X. link_sight X c.args.two.now) (λ s t. (s, t))
    (λ X. (link_sight X c.args.one.now, link_sight X c.args.two.now))
    c.in_ok-first.first _ _ _ c.in_ok-second.second c.in_ok-first.ensures c.in_ok-second.ensures (λ X. refl)

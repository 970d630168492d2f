use Rattle.std.proofs.Common.{◌∷◌, [], get_or, refl}
use Rattle.nofs_inode.specs.InodeRecords.{no_link}
use Rattle.nofs_scan.specs.Sights.Verdicts.{link_sight, link_sights}
use Rattle.nofs_scan.proofs.OnSights.Reads.{sees-both}
use Rattle.nofs_scan.proofs.sights.reads.read_links.Goals as goal

pub returns : goal.returns
returns g c = sees-both _ _ _
    (λ X. (link_sight X (get_or c.args.links.now 0 no_link), link_sight X (get_or c.args.links.now 1 no_link)))
    (λ low X. (link_sight X (get_or c.args.links.now 2 no_link), link_sight X (get_or c.args.links.now 3 no_link)))
    (λ low high. low.0 ∷ low.1 ∷ high.0 ∷ high.1 ∷ []) (λ X. link_sights X c.args.links.now)
    c.in_ok-low.low _ _ _ c.in_ok-high.high c.in_ok-low.ensures c.in_ok-high.ensures (λ X. refl)

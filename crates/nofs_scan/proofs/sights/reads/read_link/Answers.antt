use Rattle.std.proofs.Common.{refl}
use Rattle.nofs_model.specs.Files.{agreed, files_in}
use Rattle.nofs_scan.specs.Sights.Verdicts.{entry_linked, link_sight}
use Rattle.nofs_scan.proofs.OnSights.Reads.{reads-sees, sees-both}
use Rattle.nofs_scan.proofs.sights.reads.read_link.Goals as goal

pub returns : goal.returns
returns g c = sees-both _ _ _ (λ X. entry_linked (files_in X) c.args.link.now)
    (λ e X. agreed (files_in X) c.args.link.now.directory)
    (λ e a. record { generation = c.args.link.now.generation; entry = e; agreed = a })
    (λ X. link_sight X c.args.link.now)
    c.in_ok-entry.entry _ _ _ c.in_ok-agreed.agreed (reads-sees _ _ c.args.known.now _ _ c.in_ok-entry.ensures)
    c.in_ok-agreed.ensures
    (λ X. refl)

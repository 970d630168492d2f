use Rattle.std.proofs.Common.{refl}
use Rattle.nofs_disk.specs.Chains.{StaysButFaults-refl}
use Rattle.nofs_scan.proofs.OnSights.Reads.{none-linked}
use Rattle.nofs_scan.proofs.sights.reads.read_link_entry.Goals as goal

pub returns-then-link-eq0 : goal.returns-then-link-eq0
returns-then-link-eq0 g c = record {
  stays = StaysButFaults-refl _;
  found = λ tells. none-linked _ c.args.link.now c.if-link-eq0.true;
  cause = tt;
  no_fault = refl;
}

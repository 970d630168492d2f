use Rattle.std.proofs.Common.{refl}
use Rattle.nofs_disk.specs.Chains.{StaysButFaults-refl}
use Rattle.nofs_agree.proofs.OnKnown.{learns-none}
use Rattle.nofs_scan.proofs.OnSights.Reads.{none-agreed}
use Rattle.nofs_scan.proofs.sights.reads.read_agreed.Goals as goal

pub returns-then-inode-eq0 : goal.returns-then-inode-eq0
returns-then-inode-eq0 g c = record {
  stays = StaysButFaults-refl _;
  learns = learns-none _ c.args.known.now;
  found = λ tells known. rw c.if-inode-eq0.true (none-agreed _);
  cause = tt;
  no_fault = refl;
}

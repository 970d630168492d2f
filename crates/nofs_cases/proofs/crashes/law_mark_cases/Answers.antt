use Rattle.nofs_cases.proofs.OnCrashes.Put.{same-disk, settled-case}
use Rattle.nofs_cases.proofs.OnCrashes.Writes as writes
use Rattle.nofs_cases.proofs.crashes.law_mark_cases.Goals as goal

pub returns : goal.returns
returns c = record {
  same_disk = same-disk;
  images = writes.images-case;
  moment = writes.moment-case;
  flush = settled-case;
  writes = writes.writes-case;
  pointers = writes.pointers-case;
}

-- More is known of inodes: which are agreed, and which not. The books say the same of the machine's world as before.
use Rattle.std.proofs.Common.{Bool, List, Option, IsTrue, refl, ◌∙◌}
use Rattle.nofs_disk.specs.Disk.{DiskState}
use Rattle.nofs_history.specs.declared.machine.history.Entry1.{Entry1}
use Rattle.nofs_crashlaw.proofs.OnMaps.Homes.{uses-inode}
use Rattle.nofs_agree.specs.Chain.{LearnsAgreement}
use Rattle.nofs_agree.proofs.OnKnown.{is-told}
use Rattle.nofs_state.specs.Books.Maps.{IsSafe}
use Rattle.nofs_state.specs.Books.Agreement.{with_agreement}
use Rattle.nofs_state.specs.Cores.Invariant.{IsOpen, IsStopped, Past}
use Rattle.nofs_state.specs.declared.books.maps.Books.{Books}
use Rattle.nofs_state.proofs.OnBooks.Machine.{are-agreed}
use Rattle.nofs_state.proofs.OnCores.Replies.{open-files}
use Rattle.nofs_state.proofs.OnBooks.Safe.{safe-sizes}
use Rattle.nofs_state.proofs.OnBooks.Worlds.{says-maps}

pub safe-knows : (d : DiskState) (k : Books) (known : List (Option Bool)) → LearnsAgreement d k.agreement known
    → IsSafe d k → IsSafe d (with_agreement k known)
safe-knows d k known learns s = safe-sizes d d k (with_agreement k known) s s.at
    (record {
      at = refl;
      serial = refl;
      unknown_inodes = refl;
      free_inodes = refl;
      agreement = learns.len;
      unknown_blocks = refl;
      free_blocks = refl;
    })
    s.in_area

pub open-knows : (d : DiskState) (k : Books) (known : List (Option Bool)) (H : List Entry1) (p : Past) → IsTrue d.tells
    → LearnsAgreement d k.agreement known
    → IsSafe d k → IsOpen d k H p
    → IsOpen d (with_agreement k known) H p
open-knows d k known H p tells learns safe o = record {
  run = record { run = o.run.run; ends = o.run.ends };
  going = o.going;
  says = says-maps k (with_agreement k known) p.world p.world.known_inodes p.world.known_blocks o.says
      (record { at = refl; serial = refl; stopped = refl })
      o.says.known_inodes o.says.known_blocks o.says.free_inodes o.says.free_blocks
      (λ i a t. uses-inode p.world.files d.now (open-files d k H p o) i
      ∙ is-told d.now known i a (learns.still tells (are-agreed d k H p safe o)) t);
  at = o.at;
  mountable = o.mountable;
  files = o.files;
  homes = o.homes;
  homes_past = o.homes_past;
  stage = o.stage;
  older = o.older;
  rest = o.rest;
  no_fault = o.no_fault;
}

pub stopped-knows : (d : DiskState) (k : Books) (known : List (Option Bool)) (H : List Entry1) (p : Past)
    → IsStopped d k H p
    → IsStopped d (with_agreement k known) H p
stopped-knows d k known H p s = record {
  run = record { run = s.run.run; ends = s.run.ends };
  stopped = s.stopped;
  world_stopped = s.world_stopped;
  lasts =
      s.lasts;
}

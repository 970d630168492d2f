-- What a mount leaves is a base of which the law of the move speaks.
use Rattle.std.proofs.Common.{refl, arith}
use Rattle.nofs_disk.specs.Disk.{cell_at}
use Rattle.nofs_history.specs.World.{world_of}
use Rattle.nofs_crashlaw.proofs.OnLives.Begin.{law-begin}
use Rattle.nofs_crashlaw.specs.Runs.Bases.{LawMounted}

pub law-mounted : LawMounted
unfolding world_of
law-mounted X Y first sound raised first_cell sized mount serial =
    let b = law-begin X Y first sound raised first_cell mount in
    let one = raised.mount in
    record {
      mountable = b.0.mountable;
      sized = sized;
      mount = mount;
      serial = serial;
      positive = omega (arith, one);
      below = λ block lt. b.1 block lt (cell_at Y block) (0, omega arith, refl);
    }

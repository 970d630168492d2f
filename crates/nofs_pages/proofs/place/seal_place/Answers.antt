use Rattle.std.proofs.Common.{◌*◌, ◌+◌, arith}
use Rattle.nofs_pages.proofs.OnBench.{put-place}
use Rattle.nofs_pages.proofs.place.seal_place.Goals as goal

pub returns : goal.returns
returns c =
    put-place (4096 * c.args.at) (c.args.first + c.args.at) c.args.version (3168 * c.args.at) c.args.areas.now
    c.args.places.now c.seal_one.new.page (omega arith) (omega arith) c.requires.areas c.seal_one.ensures

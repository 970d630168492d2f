use Rattle.std.proofs.Common.{length}
use Rattle.nofs_filedisk.proofs.OnMoving.Reads.{goes-on}
use Rattle.nofs_filedisk.proofs.moving.read_part.Goals as goal

pub loop-done-preserved : goal.loop-done-preserved
loop-done-preserved g c =
    let read = c.in_ok-count.ensures in
    goes-on c.args.at (length c.args.into.now) c.loop-done.done c.in_ok-count.count c.loop-done.into c.read_on.new.into
    (g.B.Positioned.state c.args.file.now) (g.B.Positioned.state c.loop-done.file)
    (g.B.Positioned.state c.read_on.new.file)
    c.loop-done.invariant read.keeps read.len read.done read.fits read.part read.no_fault

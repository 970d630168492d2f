use Rattle.std.proofs.Common.{refl, rules}
use Rattle.nofs_scan.proofs.OnSights.Reads.{AreLast-none}
use Rattle.nofs_scan.proofs.OnSteps.Looks.{looked-full, looked-goes}
use Rattle.nofs_scan.proofs.steps.looks.look_at_all.Goals as goal

pub loop-place-init : goal.loop-place-init
loop-place-init g c = (search rules, AreLast-none _ _ refl refl refl refl refl refl)

pub loop-place-preserved : goal.loop-place-preserved
loop-place-preserved g c = (
  looked-goes (g.D.Disk.state c.args.disk.now) (g.D.Disk.state c.loop-place.disk)
      (g.D.Disk.state c.read_sight.new.disk)
      c.args.at.now c.args.known.now c.loop-place.known c.read_sight.new.known c.args.kind
      c.args.items.now c.loop-place.place 0 c.loop-place.sights c.push.new.self c.in-Ok-read_sight.sight
      c.loop-place.invariant.0 c.loop-place-test.true
      c.in-Ok-read_sight.ensures.looks c.in-Ok-push.ensures.appended,
  c.in-Ok-read_sight.ensures.kept,
)

pub returns-in-Err-push : goal.returns-in-Err-push
returns-in-Err-push g c =
    looked-full (g.D.Disk.state c.args.disk.now) (g.D.Disk.state c.loop-place.disk)
    (g.D.Disk.state c.read_sight.new.disk)
    c.args.at.now c.args.known.now c.loop-place.known c.read_sight.new.known c.args.kind
    c.args.items.now c.loop-place.place _ c.loop-place.sights c.in-Ok-read_sight.sight c.loop-place.invariant.0
    c.in-Ok-read_sight.ensures.looks

use Rattle.nofs_filedisk.proofs.OnMoving.Writes.{fails, goes-on, on-err}
use Rattle.nofs_filedisk.proofs.moving.write_part.Goals as goal

pub returns-in_err-done-clause-err : goal.returns-in_err-done-clause-err
returns-in_err-done-clause-err g c =
    on-err c.from_residual.result
    (fails c.args.at c.args.part.now c.loop-done.done _ (g.B.Positioned.state c.args.file.now)
    (g.B.Positioned.state c.loop-done.file)
    (g.B.Positioned.state c.write_at.new.self) c.loop-done.invariant c.in_err-done.ensures)

pub loop-done-preserved : goal.loop-done-preserved
loop-done-preserved g c =
    goes-on c.args.at c.args.part.now c.loop-done.done c.in_ok-done.field-0 (g.B.Positioned.state c.args.file.now)
    (g.B.Positioned.state c.loop-done.file)
    (g.B.Positioned.state c.write_at.new.self) c.loop-done.invariant c.in_ok-done.ensures

use Rattle.nofs_super.proofs.FormatRun.{puts-done, puts-kept, puts-unwritten}
use Rattle.nofs_super.proofs.fresh.put_fresh.Goals as goal

pub returns-in_err-write : goal.returns-in_err-write
returns-in_err-write g c =
    puts-unwritten c.args.blocks c.args.inodes c.args.block (g.D.Disk.state c.args.disk.now) _ _ c.write.result _
    c.in_err-write.was (g.met.D.Disk.is_disk c.write.new.self) c.requires.block c.write_fresh.ensures c.write.ensures
    c.from_residual.result c.from_residual.ensures.0

pub returns-in_err-write_out : goal.returns-in_err-write_out
returns-in_err-write_out g c =
    puts-kept c.args.blocks c.args.inodes c.args.block (g.D.Disk.state c.args.disk.now) _ _ _ c.write.result
    c.write_out.result c.in_ok-write.was (g.met.D.Disk.is_disk c.write.new.self)
    (g.met.D.Disk.is_disk c.write_out.new.self) c.requires.block c.write_fresh.ensures c.write.ensures
    c.write_out.ensures _ c.in_err-write_out.was c.from_residual-in_err-write_out.result
    c.from_residual-in_err-write_out.ensures.0

pub returns : goal.returns
returns g c =
    puts-done c.args.blocks c.args.inodes c.args.block (g.D.Disk.state c.args.disk.now) _ _ _ c.write.result
    c.write_out.result c.in_ok-write.was (g.met.D.Disk.is_disk c.write.new.self)
    (g.met.D.Disk.is_disk c.write_out.new.self) c.requires.block c.write_fresh.ensures c.write.ensures
    c.write_out.ensures _ c.in_ok-write_out.was

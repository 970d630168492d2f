use Rattle.std.proofs.Common.{◌≡◌, arith, ◌∙◌, sym}
use Rattle.nofs_super.proofs.FormatRun.{adds-flush, adds-more, cells-formatted, ends-refused, written-more}
use Rattle.nofs_super.proofs.FormatRun.{written-none}
use Rattle.nofs_super.proofs.fresh.format.Goals as goal

pub returns-in-Some-clause-ends : goal.returns-in-Some-clause-ends
returns-in-Some-clause-ends g c =
    ends-refused c.args.blocks c.args.inodes (g.D.Disk.state c.args.disk.now) c.in-Some.fault (let e =
    c.in-Some.ensures.value in cc)

pub loop-block-init : goal.loop-block-init
loop-block-init g c = written-none c.args.blocks c.args.inodes _ _ c.ready.result
    (sym c.is_err.ensures.value ∙ c.if-is_err.false) c.ready.ensures

pub loop-block-preserved : goal.loop-block-preserved
loop-block-preserved g c =
    written-more c.args.blocks c.args.inodes c.loop-block.block _ _ _ c.put_fresh.result c.loop-block-test.true
    c.loop-block.invariant c.put_fresh.ensures
    (sym c.is_err-in-loop-block.ensures.value ∙ c.if-is_err-2.false)
    (g.met.D.Disk.is_disk c.args.disk.now)
    (let f = c.in-None.ensures.fits in let b = c.blocks-2.ensures in omega arith)

pub returns-then-is_err-2-clause-adds : goal.returns-then-is_err-2-clause-adds
returns-then-is_err-2-clause-adds g c =
    adds-more c.args.blocks c.args.inodes c.loop-block.block _ _ _ c.put_fresh.result c.loop-block-test.true
    c.loop-block.invariant c.put_fresh.ensures

pub returns-in-Ok-clause-adds : goal.returns-in-Ok-clause-adds
returns-in-Ok-clause-adds g c =
    adds-flush c.args.blocks c.args.inodes c.loop-block.block _ _ _ (g.met.D.Disk.is_disk c.flush.new.self)
    c.loop-block.invariant c.flush.ensures

pub returns-in-Err-clause-adds : goal.returns-in-Err-clause-adds
returns-in-Err-clause-adds g c =
    adds-flush c.args.blocks c.args.inodes c.loop-block.block _ _ _ (g.met.D.Disk.is_disk c.flush.new.self)
    c.loop-block.invariant c.flush.ensures

pub returns-in-Ok-clause-cells : goal.returns-in-Ok-clause-cells
returns-in-Ok-clause-cells g c =
    let end : c.loop-block.block ≡ c.args.blocks = omega arith in
    cells-formatted c.args.blocks c.args.inodes c.loop-block.block (g.D.Disk.state c.args.disk.now)
    (g.D.Disk.state c.loop-block.disk)
    (g.D.Disk.state c.flush.new.self) end c.loop-block.invariant c.flush.ensures.now

use Rattle.std.proofs.Common.{◌+◌, arith}
use Rattle.nofs_disk.specs.Chains.{IsSameDisk-refl, KeepsPast-refl, StaysButFaults-refl}
use Rattle.nofs_mirror.proofs.OnCopying.{Copies-trans, cause_within, copied_more}
use Rattle.nofs_mirror.proofs.OnPartCopy.{ends_at, part_more, part_next, to_ends, to_next, to_none}
use Rattle.nofs_mirror.proofs.copying.copy_cells.Goals as goal

pub loop-block-init : goal.loop-block-init
loop-block-init g c =
    let lead = g.A.Disk.state c.args.lead.now in
    let other = g.B.Disk.state c.args.other.now in (
      record {
        lead = StaysButFaults-refl lead;
        disk = IsSameDisk-refl other;
        past = KeepsPast-refl other;
        later = omega arith;
      },
      λ b lead_tells other_tells low. absurd (omega arith),
      omega arith,
      to_none lead other (g.met.B.Disk.is_disk c.args.other.now),
    )

pub loop-block-preserved : goal.loop-block-preserved
loop-block-preserved g c =
    let before = c.loop-block.invariant in
    let room = before.2 in
    let used = c.in-Ok.ensures.spare in (
      Copies-trans _ _ _ _ _ _ before.0 c.copy_cell.ensures.copies,
      copied_more (g.A.Disk.state c.args.lead.now) (g.A.Disk.state c.loop-block.lead)
          (g.B.Disk.state c.loop-block.other)
          (g.B.Disk.state c.copy_cell.new.other) c.loop-block.block before.0.lead c.in-Ok.ensures.copied before.1,
      omega arith,
      to_next c.loop-block.block _ _ _ _ _ before.0.lead c.copy_cell.ensures.copies.past before.0.disk.blocks before.3
          c.copy_cell.ensures.part c.in-Ok.ensures.moment,
    )

pub returns-in-Err-clause-copies : goal.returns-in-Err-clause-copies
returns-in-Err-clause-copies g c =
    let before = c.loop-block.invariant in
    let low = c.loop-block-test.true in
    let did = c.copy_cell.ensures in
    let failed = c.in-Err.ensures in record {
      copies = Copies-trans _ _ _ _ _ _ before.0 did.copies;
      part = part_more (c.loop-block.block + 1) c.args.blocks _ _ _ (omega arith)
          (part_next c.loop-block.block _ _ _ _ _ before.0.lead did.copies.past before.0.disk.blocks before.3.part
          did.part);
      copied = tt;
      ends = ends_at g.B.Disk.state c.in-Err.fault c.args.blocks (g.A.Disk.state c.args.lead.now)
          (g.B.Disk.state c.args.other.now) c.loop-block.other c.copy_cell.new.other failed.untouched
          (to_ends c.loop-block.block c.args.blocks _ _ _ low before.1 before.3);
      cause = cause_within c.in-Err.fault _ _ _ _ _ _ before.0 failed.cause;
    }

pub returns-clause-copies : goal.returns-clause-copies
returns-clause-copies g c =
    let before = c.loop-block.invariant in record {
      copies = before.0;
      part = part_more c.loop-block.block c.args.blocks _ _ _ (omega arith) before.3.part;
      copied = λ b lead_tells other_tells low. before.1 b lead_tells other_tells (omega arith);
      ends = tt;
      cause = tt;
    }

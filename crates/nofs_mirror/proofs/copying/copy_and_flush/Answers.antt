use Rattle.nofs_mirror.proofs.OnCopying.{cause_within, copied_flush, copies_flush}
use Rattle.nofs_mirror.specs.declared.copying.CopyFault.TheVariants.{Write}
use Rattle.nofs_mirror.proofs.OnPartCopy.{part_flushed, part_trans}
use Rattle.nofs_mirror.proofs.copying.copy_and_flush.Goals as goal

pub returns-in-Ok-flush-clause-copies : goal.returns-in-Ok-flush-clause-copies
returns-in-Ok-flush-clause-copies g c =
    let did = c.copy_cells.ensures.copies in record {
      copies = copies_flush _ _ _ _ _ did.copies c.flush.ensures;
      part = part_trans c.args.blocks _ _ _ _ c.flush.ensures.past did.copies.disk.blocks did.part
          (part_flushed c.args.blocks _ _ _ (g.met.B.Disk.is_disk c.copy_cells.new.other)
          (g.met.B.Disk.is_disk c.flush.new.self) c.flush.ensures);
      copied = copied_flush c.args.blocks (g.A.Disk.state c.args.lead.now) (g.B.Disk.state c.copy_cells.new.other)
          (g.B.Disk.state c.flush.new.self) c.flush.ensures c.in-Ok.ensures.copies.copied;
      ends = tt;
      cause = tt;
    }

pub returns-in-Err-flush-clause-copies : goal.returns-in-Err-flush-clause-copies
returns-in-Err-flush-clause-copies g c =
    let lead = g.A.Disk.state c.copy_cells.new.lead in
    let did = c.copy_cells.ensures.copies in record {
      copies = copies_flush _ _ _ _ _ did.copies c.flush.ensures;
      part = part_trans c.args.blocks _ _ _ _ c.flush.ensures.past did.copies.disk.blocks did.part
          (part_flushed c.args.blocks _ _ _ (g.met.B.Disk.is_disk c.copy_cells.new.other)
          (g.met.B.Disk.is_disk c.flush.new.self) c.flush.ensures);
      copied = tt;
      ends = tt;
      cause = cause_within Write (g.A.Disk.state c.args.lead.now) lead lead (g.B.Disk.state c.args.other.now)
          (g.B.Disk.state c.copy_cells.new.other) (g.B.Disk.state c.flush.new.self) did.copies
          c.in-Err-flush.ensures.cause;
    }

use Rattle.std.proofs.Common.{Ok, refl}
use Rattle.nofs_names.proofs.OnDrops.Blocks.{inode-marks}
use Rattle.nofs_names.proofs.drops.blocks.owned_blocks.Goals as goal

pub returns : goal.returns
returns g c =
    let marks = inode-marks (g.D.Disk.state c.args.disk.now) (g.D.Disk.state c.mark_slots.new.disk)
    (g.D.Disk.state c.mark_far.new.disk)
    (g.D.Disk.state c.mark_slots-2.new.disk) c.args.it.now.at c.args.it.now.inode c.new-owned.result
    c.mark_slots.new.owned c.mark_far.new.owned c.mark_slots-2.new.owned
    c.mark_slots.new.last c.mark_far.new.last c.mark_slots-2.new.last
    (Ok tt) c.new-owned.ensures c.in_ok-mark_slots.ensures
    c.in_ok-mark_far.ensures c.in_ok-mark_slots-2.ensures in
    record {
      stays = marks.stays;
      no_fault = λ e. marks.no_fault refl;
      owned = marks.owned;
      kept = marks.kept;
      refused = tt;
    }

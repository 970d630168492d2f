use Rattle.std.proofs.Common.{ℕ, ◌^◌, ◌+◌, Ok, subst}
use Rattle.nofs_state.specs.Inodes.Blocks.{MarksAll}
use Rattle.nofs_files.proofs.OnResizes.Blocks.{cut-map-ends}
use Rattle.nofs_files.proofs.resizes.cuts.mark_cut.Goals as goal

pub returns-in-Ok-mark_slots : goal.returns-in-Ok-mark_slots
returns-in-Ok-mark_slots g c = cut-map-ends (g.D.Disk.state c.args.disk.now) (g.D.Disk.state c.mark_slots.new.disk)
    (g.D.Disk.state c.mark_slots-2.new.disk)
    c.args.at.now c.args.inode c.args.kept c.new-freed.result c.mark_slots.new.owned c.mark_slots-2.new.owned
    c.mark_slots.new.last c.mark_slots-2.new.last
    c.new-freed.ensures c.in-Ok.ensures (subst
    (λ (n : ℕ). MarksAll (g.D.Disk.state c.mark_slots.new.disk) (g.D.Disk.state c.mark_slots-2.new.disk)
    c.args.at.now c.args.inode n
    (2 ^ 32 + 66) c.mark_slots.new.owned c.mark_slots-2.new.owned c.mark_slots-2.new.last (Ok tt))
    c.first_cut-first.ensures.first c.in-Ok-mark_slots.ensures)

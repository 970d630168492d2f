use Rattle.nofs_mirror.specs.declared.sides.past.Effect.TheVariants.{Write}
use Rattle.nofs_mirror.proofs.OnMirror.Calls.{called_holds, called_leaves}
use Rattle.nofs_mirror.proofs.OnLaws.Writes.{mirror_writes, write_kept, writes_sides}
use Rattle.nofs_mirror.proofs.mirror.MirrorDisk.write.Goals as goal

pub invariant_of-self : goal.invariant_of-self
invariant_of-self g c =
    let old = c.args.self.now in
    let w = writes_sides old c.of.result g.met.A.Disk.is_disk g.met.B.Disk.is_disk c.requires.block
    c.note_sizes.ensures c.of.ensures
    c.write_side-lead.ensures c.write_side-other.ensures in
    let note = c.note.ensures in
    called_holds old _ w.called note.past note.spare note.sides (write_kept w)

pub returns-clause-does : goal.returns-clause-does
returns-clause-does g c =
    let old = c.args.self.now in
    let w = writes_sides old c.of.result g.met.A.Disk.is_disk g.met.B.Disk.is_disk c.requires.block
    c.note_sizes.ensures c.of.ensures
    c.write_side-lead.ensures c.write_side-other.ensures in
    let note = c.note.ensures in
    rw (note.past, ← c.of.ensures) (mirror_writes w _ _ _ _ note.spare old.log.counted note.result note.faults)

pub returns-clause-lead_left : goal.returns-clause-lead_left
returns-clause-lead_left g c =
    let w = writes_sides c.args.self.now c.of.result g.met.A.Disk.is_disk g.met.B.Disk.is_disk c.requires.block
    c.note_sizes.ensures c.of.ensures c.write_side-lead.ensures c.write_side-other.ensures in
    rw c.note.ensures.past (called_leaves c.args.self.now (Write c.args.block c.of.result) _ _ w.called).0

pub returns-clause-other_left : goal.returns-clause-other_left
returns-clause-other_left g c =
    let w = writes_sides c.args.self.now c.of.result g.met.A.Disk.is_disk g.met.B.Disk.is_disk c.requires.block
    c.note_sizes.ensures c.of.ensures c.write_side-lead.ensures c.write_side-other.ensures in
    rw c.note.ensures.past (called_leaves c.args.self.now (Write c.args.block c.of.result) _ _ w.called).1

use Rattle.nofs_mirror.proofs.OnLaws.Flushes.{flush_kept, flushes_sides, mirror_flushes}
use Rattle.nofs_mirror.proofs.OnMirror.Calls.{called_holds, called_leaves}
use Rattle.nofs_mirror.proofs.mirror.MirrorDisk.flush.Goals as goal

pub invariant_of-self : goal.invariant_of-self
invariant_of-self g c =
    let old = c.args.self.now in
    let w = flushes_sides old g.met.A.Disk.is_disk g.met.B.Disk.is_disk
    c.flush_side-lead.ensures c.flush_side-other.ensures in
    let note = c.note.ensures in
    called_holds old _ w.called (rw c.flush_effect-effect.ensures at note.past) note.spare note.sides (flush_kept w)

pub returns-clause-does : goal.returns-clause-does
returns-clause-does g c =
    let old = c.args.self.now in
    let w = flushes_sides old g.met.A.Disk.is_disk g.met.B.Disk.is_disk
    c.flush_side-lead.ensures c.flush_side-other.ensures in
    let note = c.note.ensures in
    rw (note.past, c.flush_effect-effect.ensures)
    (mirror_flushes w _ _ _ _ note.spare old.log.counted note.result note.faults)

pub returns-clause-lead_left : goal.returns-clause-lead_left
returns-clause-lead_left g c =
    let w = flushes_sides c.args.self.now g.met.A.Disk.is_disk g.met.B.Disk.is_disk
    c.flush_side-lead.ensures c.flush_side-other.ensures in
    rw c.note.ensures.past (called_leaves c.args.self.now _ _ _ w.called).0

pub returns-clause-other_left : goal.returns-clause-other_left
returns-clause-other_left g c =
    let w = flushes_sides c.args.self.now g.met.A.Disk.is_disk g.met.B.Disk.is_disk
    c.flush_side-lead.ensures c.flush_side-other.ensures in
    rw c.note.ensures.past (called_leaves c.args.self.now _ _ _ w.called).1

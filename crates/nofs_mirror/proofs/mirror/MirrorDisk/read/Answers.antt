use Rattle.std.proofs.Common.{ap, arith, refl}
use Rattle.nofs_mirror.specs.Sides.Past.{mirror_calls}
use Rattle.nofs_mirror.proofs.OnMirror.Reads.{mirror_reads, rest_noted, rest_stays, stays_rests}
use Rattle.nofs_mirror.proofs.mirror.MirrorDisk.read.Goals as goal

pub invariant_of-self : goal.invariant_of-self
invariant_of-self g c =
    let reads = c.read_either.ensures.reads in
    rest_stays c.args.self.now (stays_rests _ _ reads.lead) (stays_rests _ _ reads.other)

pub invariant_of-self-in-Err : goal.invariant_of-self-in-Err
invariant_of-self-in-Err g c =
    let reads = c.read_either.ensures.reads in
    let note = c.note_fault.ensures in
    rest_noted c.args.self.now (stays_rests _ _ reads.lead) (stays_rests _ _ reads.other)
    (ap (λ p. mirror_calls p.value) note.past) note.spare note.sides

pub returns-in-Ok-clause-does : goal.returns-in-Ok-clause-does
returns-in-Ok-clause-does g c =
    mirror_reads c.args.self.now _ _ _ _ c.in-Ok.ensures.reads c.requires (omega arith) tt refl

pub returns-in-Err-clause-does : goal.returns-in-Err-clause-does
returns-in-Err-clause-does g c =
    let note = c.note_fault.ensures in
    let count = note.faults in
    let low = c.args.self.now.log.counted in
    rw (note.past, note.spare)
    (mirror_reads c.args.self.now _ _ _ _ c.in-Err.ensures.reads c.requires (omega arith) (omega arith) tt)

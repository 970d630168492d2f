use Rattle.std.proofs.Common.{arith}
use Rattle.nofs_mirror.proofs.OnMirror.Reads.{mirror_ready, rest_holds, rest_stays}
use Rattle.nofs_mirror.proofs.mirror.MirrorDisk.ready.Goals as goal

pub invariant_of-self-in-Ok : goal.invariant_of-self-in-Ok
invariant_of-self-in-Ok g c =
    let both = c.ready_both.ensures in
    rest_holds c.args.self.now both.lead both.other c.args.calls c.in-Ok.ensures.lead_room c.in-Ok.ensures.other_room

pub invariant_of-self-in-Err-1 : goal.invariant_of-self-in-Err-1
invariant_of-self-in-Err-1 g c = rest_stays c.args.self.now c.ready_both.ensures.lead c.ready_both.ensures.other

pub returns-in-Ok : goal.returns-in-Ok
returns-in-Ok g c = mirror_ready c.args.self.now c.ready_both.ensures.lead c.ready_both.ensures.other c.args.calls _
    (omega arith) (omega arith)

pub returns-in-Err : goal.returns-in-Err
returns-in-Err g c = mirror_ready c.args.self.now c.ready_both.ensures.lead c.ready_both.ensures.other
    c.args.self.now.log.spare _ (omega arith) tt

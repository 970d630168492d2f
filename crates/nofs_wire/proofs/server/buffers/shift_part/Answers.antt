use Rattle.std.proofs.Common.{ap, ◌∙◌, ◌-◌, take}
use Rattle.nofs_wire.proofs.OnServer.Buffers.{shifted}
use Rattle.nofs_wire.proofs.server.buffers.shift_part.Goals as goal

pub returns-clause-moved : goal.returns-clause-moved
returns-clause-moved c =
    ap (take (c.args.to - c.args.from)) c.copy_within.ensures.after
    ∙ shifted c.args.from c.args.to c.args.bytes.now c.requires.order c.requires.within

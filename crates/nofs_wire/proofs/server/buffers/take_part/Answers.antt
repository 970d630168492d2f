use Rattle.std.proofs.Common.{arith}
use Rattle.std.proofs.lemmas.Grind.{common_steps}
use Rattle.nofs_wire.proofs.OnServer.Buffers.{takes-into}
use Rattle.nofs_wire.proofs.server.buffers.take_part.Goals as goal

pub returns-clause-into : goal.returns-clause-into
returns-clause-into g c =
    takes-into c.take.result c.args.from c.args.to c.args.bytes.now c.take.new.into _ _ _ (omega arith) c.requires.some
    (grind (arith, common_steps))
    c.take.ensures.within c.take.ensures.bytes

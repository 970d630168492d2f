use Rattle.std.proofs.Common.{arith}
use Rattle.nofs_wire.proofs.OnFrames.Requests.{reads-back}
use Rattle.nofs_wire.proofs.OnFrames.Spellings.{one-spelling-read}
use Rattle.nofs_wire.proofs.frames.requests.read_step.Goals as goal

pub returns-clause-one_spelling : goal.returns-clause-one_spelling
returns-clause-one_spelling c =
    one-spelling-read c.read_body.result c.args.body.now (λ k. let fits = c.type_inv.body k in omega (arith, fits))
    c.read_body.ensures

pub returns-clause-each_step : goal.returns-clause-each_step
returns-clause-each_step c =
    λ s fits same. reads-back c.read_body.result c.args.body.now c.read_body.ensures s fits same

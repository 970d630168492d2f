use Rattle.nofs_salvage.proofs.OnWalk.Steps.{refused-step}
use Rattle.nofs_salvage.proofs.walk.steps.ask.Goals as goal

pub returns-in-Refused-clause-reads : goal.returns-in-Refused-clause-reads
returns-in-Refused-clause-reads g c = rw (c.fault_of.ensures, c.step.ensures.made, c.in-Refused.is)
    (refused-step _ c.args.step c.in-Refused.why c.requires.read c.requires.no_get)

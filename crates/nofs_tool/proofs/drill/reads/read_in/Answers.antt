use Rattle.nofs_tool.specs.Drill.{IsReadAt, IsReadAtBegun, found_in}
use Rattle.nofs_tool.proofs.OnDrill.Reads.{begun, failed, look-end, look-more, step-unbegun}
use Rattle.nofs_tool.proofs.drill.reads.read_in.Goals as goal

pub returns-in_err-look_up-clause-reads : goal.returns-in_err-look_up-clause-reads
returns-in_err-look_up-clause-reads g c = failed _ _ _ _ _ _ c.from_residual.ensures.1
    (step-unbegun found_in IsReadAtBegun _ _ _ (begun _ _ _ _ _ c.in_err-look_up.ensures.reads))

pub returns-in-None-clause-reads : goal.returns-in-None-clause-reads
returns-in-None-clause-reads g c =
    look-end IsReadAt IsReadAtBegun _ _ _ _ _ _ c.in_ok-look_up.ensures.reads c.in-None.is

pub returns-in-Some-clause-reads : goal.returns-in-Some-clause-reads
returns-in-Some-clause-reads g c = look-more IsReadAt IsReadAtBegun _ _ _ _ _ _ c.in_ok-look_up.ensures.reads _ _ _
    c.in-Some.is c.read_found.ensures.reads

use Rattle.nofs_test_serving.proofs.Scripts.{script-formed}
use Rattle.nofs_test_serving.proofs.tests.runs.last_of.Goals as goal

pub returns-in-Some : goal.returns-in-Some
returns-in-Some c = script-formed c.args.session c.into_vec-scripts.result.items c.pop.new.self.items c.pop.result
    c.in-Some.commands c.requires
    c.into_vec-scripts.ensures c.pop.ensures.items c.in-Some.is

use Rattle.nofs_gen.proofs.OnScript.{script-formed}
use Rattle.nofs_gen.proofs.script.script_of.Goals as goal

pub returns-clause-formed : goal.returns-clause-formed
returns-clause-formed c = script-formed c.args.start c.args.steps c.args.user _ c.in_ok-commands.ensures

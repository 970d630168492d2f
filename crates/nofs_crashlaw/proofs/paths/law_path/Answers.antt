use Rattle.nofs_crashlaw.proofs.OnPaths.Finds.{law-sure-chain, law-sure-name}
use Rattle.nofs_crashlaw.proofs.paths.law_path.Goals as goal

pub returns : goal.returns
returns c = record { chain = law-sure-chain; name = law-sure-name }

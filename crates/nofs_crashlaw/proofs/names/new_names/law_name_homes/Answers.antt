use Rattle.nofs_crashlaw.proofs.OnHomes.Steps.{law-name-homes}
use Rattle.nofs_crashlaw.proofs.names.new_names.law_name_homes.Goals as goal

pub returns : goal.returns
returns c = law-name-homes

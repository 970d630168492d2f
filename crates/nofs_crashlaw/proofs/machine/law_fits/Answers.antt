use Rattle.nofs_crashlaw.proofs.OnMachine.Fits.{law-fits}
use Rattle.nofs_crashlaw.proofs.machine.law_fits.Goals as goal

pub returns : goal.returns
returns c = law-fits

use Rattle.nofs_pages.proofs.OnCrashes.{keeps-cells}
use Rattle.nofs_pages.proofs.laws.law_pages.Goals as goal

pub returns : goal.returns
returns c = keeps-cells

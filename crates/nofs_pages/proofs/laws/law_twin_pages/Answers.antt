use Rattle.nofs_pages.proofs.OnTwinCrashes.{twins-keep-cells, twins-stay-told}
use Rattle.nofs_pages.proofs.laws.law_twin_pages.Goals as goal

pub returns-clause-cells : goal.returns-clause-cells
returns-clause-cells c = twins-keep-cells

pub returns-clause-told : goal.returns-clause-told
returns-clause-told c = twins-stay-told

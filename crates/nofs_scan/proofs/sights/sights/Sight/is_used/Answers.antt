use Rattle.std.proofs.Common.{ap, ◌∙◌}
use Rattle.nofs_scan.specs.Sights.Verdicts.{sight_verdict}
use Rattle.nofs_scan.proofs.OnSights.Verdicts.{judged-is}
use Rattle.nofs_scan.proofs.sights.sights.Sight.is_used.Goals as goal

pub returns-clause-scan : goal.returns-clause-scan
returns-clause-scan c = λ X kind item range same. c.judged.ensures ∙ ap sight_verdict same ∙ judged-is X kind item range

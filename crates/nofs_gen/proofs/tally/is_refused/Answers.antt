use Rattle.std.proofs.Common.{sym, ap}
use Rattle.nofs_gen.specs.Tally.{is_refused_line}
use Rattle.nofs_gen.proofs.tally.is_refused.Goals as goal

pub returns-in-Refused : goal.returns-in-Refused
returns-in-Refused c = sym (ap is_refused_line c.in-Refused.is)

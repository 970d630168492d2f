use Rattle.nofs_reader.proofs.OnLaws.{entries-are}
use Rattle.nofs_reader.proofs.laws.law_entries.Goals as goal

pub returns : goal.returns
returns c = entries-are

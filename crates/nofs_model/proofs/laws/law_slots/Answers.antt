use Rattle.nofs_model.proofs.OnSlots.Meanings.{slots-law}
use Rattle.nofs_model.proofs.laws.law_slots.Goals as goal

pub returns : goal.returns
returns c = slots-law

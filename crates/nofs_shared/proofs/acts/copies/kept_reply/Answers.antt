use Rattle.std.proofs.Common.{inr, sym, ◌∙◌}
use Rattle.nofs_shared.proofs.acts.copies.kept_reply.Goals as goal

pub returns-then-is_out_of_memory-clause-memory : goal.returns-then-is_out_of_memory-clause-memory
returns-then-is_out_of_memory-clause-memory c =
    λ s fits. inr (sym c.is_out_of_memory.ensures ∙ c.if-is_out_of_memory.true)

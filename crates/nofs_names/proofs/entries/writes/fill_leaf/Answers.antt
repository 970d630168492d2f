use Rattle.std.proofs.Common.{ℕ, List, ap, ◌∙◌}
use Rattle.nofs_disk.specs.Pointer.{is_null}
use Rattle.nofs_ptrs.specs.Cells.{pointer_at}
use Rattle.nofs_state.proofs.OnWrites.ZeroPointers.{zeros-null}
use Rattle.nofs_names.proofs.entries.writes.fill_leaf.Goals as goal

pub returns-clause-others : goal.returns-clause-others
returns-clause-others c j ne lt = ap is_null
    (c.add_pointer.ensures.others j ne lt ∙ ap (λ (q : List ℕ). pointer_at q j) c.clear_payload.ensures) ∙ zeros-null
    1024 j

-- What a step adds to a history, and what it claims.
use Rattle.std.specs.Prelude.{◌≡◌, ℕ, true, false, List, [], ◌∷◌, ◌++◌, None, Contains}
use Rattle.nofs_disk.specs.declared.tag.Pointer.{Pointer}
use Rattle.nofs_model.specs.Geometry.{Image}
use Rattle.nofs_model.specs.Owners.{owner}
use Rattle.nofs_history.specs.Claims.{claimed_blocks}
use Rattle.nofs_history.specs.Steps.{is_out_of_memory}
use Rattle.nofs_history.specs.declared.machine.history.Entry1.{Entry1}
use Rattle.nofs_history.specs.declared.machine.steps.Step.{Step}
use Rattle.nofs_history.specs.declared.machine.replies.Reply.{Reply}

-- nothing where memory was wanting, and else one entry of this caller, with its step and its reply
pub record AddsStep (caller : ℕ) (s : Step) (r : Reply) (H K : List Entry1) : Type 0 where
  pub none : is_out_of_memory r ≡ true → K ≡ H
  pub one : is_out_of_memory r ≡ false → (e : Entry1) × (K ≡ H ++ e ∷ []) × (e.caller ≡ caller)
      × (e.step ≡ s) × (e.reply ≡ r)

-- no block that the new entry claims had an owner on the disk before the step
abbrev pub Unowned : Image → List Entry1 → List Entry1 → Type 0
Unowned X H K = (e : Entry1) → K ≡ H ++ e ∷ [] → (x : Pointer) → Contains (claimed_blocks e.claims) x
    → owner X x.block ≡ None

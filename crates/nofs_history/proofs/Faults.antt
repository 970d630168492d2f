-- A history with one entry more: whether a call of the device failed in one of its steps.
use Rattle.std.proofs.Common.{◌≡◌, Bool, true, false, ◌||◌, List, [], ◌∷◌, ◌++◌, refl, if◌then◌else◌}
use Rattle.nofs_history.specs.Faults.{is_fault, has_fault}
use Rattle.nofs_history.specs.declared.machine.history.Entry1.{Entry1}

-- it has a fault where it had one before, or where this entry is one
pub fault_more : (es : List Entry1) (e : Entry1) → has_fault (es ++ e ∷ []) ≡ (has_fault es || is_fault e.reply)
fault_more [] e = go (is_fault e.reply)
  where
    go : (f : Bool) → (if f then true else false) ≡ f
    go true = refl
    go false = refl
fault_more (x ∷ es) e = go (is_fault x.reply) (fault_more es e)
  where
    go : (f : Bool) → has_fault (es ++ e ∷ []) ≡ (has_fault es || is_fault e.reply)
        → (if f then true else has_fault (es ++ e ∷ [])) ≡ ((if f then true else has_fault es) || is_fault e.reply)
    go true more = refl
    go false more = more

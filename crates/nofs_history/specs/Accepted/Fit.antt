-- Bounds without which what a step gives is no cell or no file.
use Rattle.std.specs.Prelude.{◌≡◌, true, [], ◌∷◌, length, ◌+◌, ◌&&◌, nat_le, nat_lt, List, Bool}
use Rattle.nofs_ptrs.specs.Paths.{slot_limit}
use Rattle.nofs_history.specs.Machine.{may_give}
use Rattle.nofs_history.specs.declared.machine.history.Claims.{Claims}
use Rattle.nofs_history.specs.declared.machine.history.Entry1.{Entry1}
use Rattle.nofs_history.specs.declared.machine.steps.Step.{Step}
use Rattle.nofs_history.specs.declared.machine.steps.Step.TheVariants as step

-- the bounds without which what a step gives is no cell or no file: every step that the machine accepts keeps them
abbrev pub is_fit : Step → Claims → Bool
is_fit (step.Put i g k at bytes) claims = nat_lt k slot_limit && nat_le (at + length bytes) 1024
is_fit (step.Make d g name kind) claims = nat_le (length name) 48 && nat_lt 0 claims.inode
is_fit (step.Link d g name i of) claims = nat_le (length name) 48
is_fit (step.Rename d g old new) claims = nat_le (length new) 48
is_fit (step.Look d g name) claims = true
is_fit (step.Drop d g name) claims = true
is_fit (step.List d g k) claims = true
is_fit (step.Get i g k) claims = true
is_fit (step.Resize i g size) claims = true
is_fit (step.Stat i g) claims = true
is_fit (step.Flush i g) claims = true
is_fit (step.SeeInode i) claims = true
is_fit (step.SeeBlock b) claims = true

-- an entry that gives something keeps them
abbrev pub IsFit : Entry1 → Type 0
IsFit e = may_give e.reply ≡ true → is_fit e.step e.claims ≡ true

-- and each of these entries
abbrev pub AreFit : List Entry1 → Type 0
AreFit [] = Unit {0}
AreFit (e ∷ es) = IsFit e × AreFit es

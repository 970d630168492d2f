-- The steps on names.
use Rattle.std.specs.Prelude.{Bool, true, false}
use Rattle.nofs_history.specs.declared.machine.steps.Step.{Step}
use Rattle.nofs_history.specs.declared.machine.steps.Step.TheVariants as step

-- a step on a name, or on the names of a directory
abbrev pub is_on_names : Step → Bool
is_on_names (step.Make _ _ _ _) = true
is_on_names (step.Link _ _ _ _ _) = true
is_on_names (step.Rename _ _ _ _) = true
is_on_names (step.Drop _ _ _) = true
is_on_names (step.Look _ _ _) = true
is_on_names (step.List _ _ _) = true
is_on_names _ = false

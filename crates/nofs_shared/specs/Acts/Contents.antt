-- The steps whose replies have the content of a slot.
use Rattle.std.specs.Prelude.{Bool, true, false}
use Rattle.nofs_history.specs.declared.machine.steps.Step.{Step}
use Rattle.nofs_history.specs.declared.machine.steps.Step.TheVariants as step

-- a step that reads alone, and may answer bytes or names
abbrev pub reads_content : Step → Bool
reads_content (step.List _ _ _) = true
reads_content (step.Get _ _ _) = true
reads_content _ = false

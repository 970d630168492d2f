-- What is known of a script.
use Rattle.std.proofs.Math.Logic.{∥∥₁_elim}
use mathlib.Core.HLevel.{×_prop, Unit-prop}
use native.Mathlib.Bridge.{le_prop}
use Rattle.std.proofs.Common.{List}
use Rattle.std.specs.List.{AllByRecursion-prop}
use Rattle.nofs_client.specs.declared.task.commands.Command.{Command}
use Rattle.nofs_client.specs.declared.task.commands.Command.TheVariants as command
use Rattle.nofs_client.specs.Task.Commands.{IsWellFormed, AreWellFormed}

IsWellFormed-prop : (c : Command) → IsProp (IsWellFormed c)
IsWellFormed-prop (command.Make path) = le_prop
IsWellFormed-prop (command.MakeDirectory path) = le_prop
IsWellFormed-prop (command.Put path offset bytes) = le_prop
IsWellFormed-prop (command.Get path offset length) = Unit-prop
IsWellFormed-prop (command.Size path size) = Unit-prop
IsWellFormed-prop (command.Stat path) = Unit-prop
IsWellFormed-prop (command.List path) = Unit-prop
IsWellFormed-prop (command.Link path new_path) = le_prop
IsWellFormed-prop (command.Drop path) = le_prop
IsWellFormed-prop (command.Rename path name) = le_prop
IsWellFormed-prop (command.Fsync path) = Unit-prop
IsWellFormed-prop (command.Move from to) = ×_prop le_prop le_prop

-- the fact that a script keeps
pub AreWellFormed-known : (cs : List Command) → ∥ AreWellFormed cs ∥₁ → AreWellFormed cs
AreWellFormed-known cs known = ∥∥₁_elim known (AllByRecursion-prop IsWellFormed IsWellFormed-prop cs) (λ formed. formed)

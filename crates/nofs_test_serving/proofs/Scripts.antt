-- The last script of a session is well formed.
use Rattle.std.proofs.Common.{◌≡◌, List, [], ◌∷◌, ◌++◌, sym, ◌∙◌, ap, subst}
use Rattle.std.specs.List.{AllByRecursion}
use Rattle.std.specs.Option.{option_to_list}
use Rattle.std.specs.declared.option.Option.{Option}
use Rattle.std.specs.declared.option.Option.TheVariants.{Some}
use Rattle.nofs_client.specs.declared.task.commands.Command.{Command}
use Rattle.nofs_client.specs.Task.Commands.{AreWellFormed}
use Rattle.nofs_script.specs.Session.{IsSession}

last-formed : (rest : List (List Command)) (c : List Command) → AllByRecursion AreWellFormed (rest ++ c ∷ [])
    → AreWellFormed c
last-formed [] c a = a.0
last-formed (x ∷ rest) c a = last-formed rest c a.1

pub script-formed : (session scripts rest : List (List Command)) (o : Option (List Command)) (c : List Command)
    → IsSession session → scripts ≡ session
    → scripts ≡ rest ++ option_to_list o → o ≡ Some c → AreWellFormed c
script-formed session scripts rest o c s same parts is =
    last-formed rest c (subst (AllByRecursion AreWellFormed)
    (sym same ∙ (parts ∙ ap (λ (p : Option (List Command)). rest ++ option_to_list p) is)) s.formed)

-- Drawn commands, one after another, and that they are well formed.
use Rattle.std.proofs.Common.{◌≡◌, ℕ, zero, suc, ◌+◌, ◌-◌, ◌/◌, ◌%◌, ◌<◌, ◌==◌, Bool, true, false, cond, List, [], ◌∷◌}
use Rattle.std.proofs.Common.{◌++◌, length, replicate, sym}
use Rattle.std.proofs.Common.{ap, ◌∙◌, subst, append_assoc, arith}
use Rattle.std.proofs.lemmas.List.{length-replicate}
use Rattle.nofs_client.specs.declared.task.commands.Command.{Command}
use Rattle.nofs_client.specs.declared.task.commands.Command.TheVariants as command
use Rattle.nofs_client.specs.Task.Commands.{IsWellFormed, AreWellFormed}
use Rattle.nofs_gen.specs.Script.{user_path, first_number, next_number, drawn_command, drawn, script_of}

-- one more command was drawn
pub drawn-more : (user x next n k : ℕ) (whole old new : List Command) (one : Command) → k < n → next ≡ next_number x
    → one ≡ drawn_command user (next / 65536) → new ≡ old ++ one ∷ [] → old ++ drawn user x (n - k) ≡ whole
    → new ++ drawn user next (n - (k + 1)) ≡ whole
drawn-more user x next n k whole old new one low next_is one_is new_is e =
    let left : n - k ≡ suc (n - (k + 1)) = omega (arith, low) in
    let drawn_is : drawn user x (n - k) ≡ one ∷ drawn user next (n - (k + 1)) = ap (drawn user x) left
    ∙ sym (ap (λ c. c ∷ drawn user next (n - (k + 1))) one_is
    ∙ ap (λ y. drawn_command user (y / 65536) ∷ drawn user y (n - (k + 1))) next_is) in
    ap (λ l. l ++ drawn user next (n - (k + 1))) new_is
    ∙ (append_assoc old (one ∷ []) (drawn user next (n - (k + 1))) ∙ (ap (λ t. old ++ t) (sym drawn_is) ∙ e))

-- all were drawn
pub drawn-end : (user x n k : ℕ) (whole old : List Command)
    → n - k ≡ 0 → old ++ drawn user x (n - k) ≡ whole → old ++ [] ≡ whole
drawn-end user x n k whole old none e = ap (λ m. old ++ drawn user x m) (sym none) ∙ e

command-formed : (user d : ℕ) → IsWellFormed (drawn_command user d)
command-formed user d = go (d % 4 == 0) (d % 4 == 1)
  where
    some : 0 < length (replicate (1 + d % 1000) (d % 256))
    some = let n = length-replicate (1 + d % 1000) (d % 256) in omega (arith, n)

    go : (a b : Bool) → IsWellFormed (cond a (command.Size (user_path user) (d / 4))
        (cond b (command.Get (user_path user) 0 4096)
        (command.Put (user_path user) (d / 4) (replicate (1 + d % 1000) (d % 256)))))
    go true b = tt
    go false true = tt
    go false false = some

-- the drawn commands, and those after them
drawn-formed : (user x n : ℕ) (rest : List Command) → AreWellFormed rest → AreWellFormed (drawn user x n ++ rest)
drawn-formed user x zero rest r = r
drawn-formed user x (suc n) rest r =
    (command-formed user (next_number x / 65536), drawn-formed user (next_number x) n rest r)

pub script-formed : (start steps user : ℕ) (script : List Command) → script ≡ script_of start steps user
    → AreWellFormed script
unfolding script_of
script-formed start steps user script is = subst AreWellFormed (sym is) (
  omega arith,
  (omega arith, drawn-formed user (first_number start user) steps (command.Fsync (user_path user) ∷ []) (tt, tt)),
)

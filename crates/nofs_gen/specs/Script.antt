-- The drawn commands of a drill's users.
use Rattle.std.specs.Prelude.{ℕ, zero, suc, ◌+◌, ◌-◌, ◌*◌, ◌/◌, ◌%◌, ◌==◌, List, [], ◌∷◌, ◌++◌, replicate, codes}
use Rattle.std.specs.Prelude.{if◌then◌else◌}
use Rattle.nofs_client.specs.declared.task.commands.Path.{Path}
use Rattle.nofs_client.specs.declared.task.commands.Path.TheVariants.{Names}
use Rattle.nofs_client.specs.declared.task.commands.Command.{Command}
use Rattle.nofs_client.specs.declared.task.commands.Command.TheVariants as command

-- the number that a user begins with
abbrev pub first_number : ℕ → ℕ → ℕ
first_number start user = (start % 2147483648 + user - 1) % 2147483648

-- the number after one more draw
unfoldable pub next_number : ℕ → ℕ
next_number x = (x * 1103515245 + 12345) % 2147483648

-- the digit of a user, as a name
abbrev pub digit : ℕ → List ℕ
digit user = (48 + user) ∷ []

-- the directory of a user, and the file in it
abbrev pub directory_of : ℕ → Path
directory_of user = Names (digit user ∷ [])

abbrev pub user_path : ℕ → Path
user_path user = Names (digit user ∷ codes "f" ∷ [])

-- the command that a draw stands for
abbrev pub drawn_command : ℕ → ℕ → Command
drawn_command user d =
    if d % 4 == 0 then command.Size (user_path user) (d / 4)
    else if d % 4 == 1 then command.Get (user_path user) 0 4096
    else command.Put (user_path user) (d / 4) (replicate (1 + d % 1000) (d % 256))

-- so many drawn commands, from a number on: a draw is its number without the last 16 bits
abbrev pub drawn : ℕ → ℕ → ℕ → List Command
drawn user x zero = []
drawn user x (suc n) = drawn_command user (next_number x / 65536) ∷ drawn user (next_number x) n

-- the script of a user: it makes its file, works on it, and makes it durable
unfoldable pub script_of : ℕ → ℕ → ℕ → List Command
script_of start steps user =
    command.MakeDirectory (directory_of user) ∷ command.Make (user_path user)
    ∷ drawn user (first_number start user) steps ++ command.Fsync (user_path user)
    ∷ []

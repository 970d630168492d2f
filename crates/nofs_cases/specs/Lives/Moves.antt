-- Instances of the laws of runs and of the durable move: a move on the disk with one name, from a to b in the root, as
-- five entries of one history with nothing between them.
use Rattle.std.specs.Prelude.{◌≡◌, ℕ, ◌^◌, true, false, List, [], ◌∷◌, Some, slice_get}
use Rattle.nofs_inode.specs.declared.inode.FileKind.TheVariants.{File}
use Rattle.nofs_history.specs.HistoryState.{HistoryState}
use Rattle.nofs_history.specs.Machine.{found, link_to}
use Rattle.nofs_history.specs.Claims.{no_claims}
use Rattle.nofs_history.specs.declared.machine.history.Entry1.{Entry1}
use Rattle.nofs_history.specs.declared.machine.steps.Step.TheVariants as step
use Rattle.nofs_history.specs.declared.machine.replies.Reply.TheVariants as reply
use Rattle.nofs_crashlaw.specs.Runs.Bases.{IsHistory}
use Rattle.nofs_crashlaw.specs.Runs.Pairs.{is_drop, IsDirectory, Filled}
use Rattle.nofs_crashlaw.specs.Runs.Laws.{files_before, HasPair}
use Rattle.nofs_crashlaw.specs.Paths.Moves.{IsMove, HasDrop, IsAlone}
use Rattle.nofs_crashlaw.specs.Machine.Examples.{a, b}
use Rattle.nofs_cases.specs.Disks.Worlds.{entry_of_step}
use Rattle.nofs_cases.specs.Names.Disks.{name_image}

-- The entries

abbrev pub look_entry : Entry1
look_entry =
    entry_of_step (step.Look 1 1 a) (reply.Found (record { inode = 3; generation = 2 ^ 40; kind = File })) no_claims 0 0

abbrev pub first_flush : Entry1
first_flush = entry_of_step (step.Flush 0 0) reply.Flushed no_claims 0 2

abbrev pub link_entry : Entry1
link_entry = entry_of_step (step.Link 1 1 b 3 (2 ^ 40)) reply.Linked no_claims 2 6

abbrev pub second_flush : Entry1
second_flush = entry_of_step (step.Flush 0 0) reply.Flushed no_claims 6 8

-- the file has another name by now
abbrev pub drop_entry : Entry1
drop_entry = entry_of_step (step.Drop 1 1 a) (reply.Dropped false) no_claims 8 12

abbrev pub move_entries : List Entry1
move_entries = look_entry ∷ first_flush ∷ link_entry ∷ second_flush ∷ drop_entry ∷ []

abbrev pub move_history : HistoryState
move_history = record { start = 0; entries = move_entries; spare = 0 }

-- The root is a directory as the first entry comes, which is no Drop.
abbrev pub DirectoryCase : Type 0
DirectoryCase = IsHistory name_image move_history × (slice_get move_entries 0 ≡ Some look_entry)
    × IsDirectory (files_before name_image move_entries 0) 1 1
    × (is_drop look_entry.step ≡ true → Filled (files_before name_image move_entries 0) 1)

-- The name a is a pair then, and the first entry does not drop it.
abbrev pub PairCase : Type 0
PairCase = IsHistory name_image move_history × (slice_get move_entries 0 ≡ Some look_entry)
    × HasPair (files_before name_image move_entries 0) 3 (2 ^ 40) 0 (link_to 1 0 1)
    × ((of : ℕ) (name : List ℕ) → look_entry.step ≡ step.Drop 1 of name
    → found (files_before name_image move_entries 0) 1 name ≡ Some 0 → ⊥)

-- The law of the move, and the law that its five entries alone are one.
abbrev pub MoveCase : Type 0
MoveCase = IsHistory name_image move_history × IsAlone move_entries 1 1 a 1 1 b 3 (2 ^ 40) File
    × ((move : IsMove name_image move_entries 1 1 a 1 1 b 3 (2 ^ 40)) × HasDrop move_entries move.link move.drop 1 1 a
    × (slice_get move_entries move.last ≡ Some drop_entry))

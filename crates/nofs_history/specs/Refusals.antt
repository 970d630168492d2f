-- Why a step is refused: a table for each step, tested from its top.
use Rattle.std.specs.Prelude.{ℕ, ◌+◌, ◌-◌, ◌*◌, ◌/◌, ◌%◌, ◌^◌, min, Bool, true, false, ◌&&◌, ◌||◌, not, List, [], ◌∷◌}
use Rattle.std.specs.Prelude.{length, Option, Some, None, is_some, option_map, if◌then◌else◌, nat_lt, nat_le, ◌==◌}
use Rattle.nofs_dirent.specs.declared.entry.Entry.{Entry}
use Rattle.nofs_dirent.specs.Entries.{entry_limit}
use Rattle.nofs_ptrs.specs.Paths.{slot_limit, InRecord, Under, path_of}
use Rattle.nofs_dirent.specs.Names.{is_name}
use Rattle.nofs_model.specs.Files.{NodeState, Absent, Present, Damaged, entry_at}
use Rattle.nofs_history.specs.Search.{least_from, first_of}
use Rattle.nofs_history.specs.Machine.{generation_of, value_of, size_of, node_of, is_folder_at, is_paired, found}
use Rattle.nofs_history.specs.Machine.{first_dead, is_lost, first_lost_slot, place_for, link_place, slots_in, cut_of}
use Rattle.nofs_history.specs.World.{World, free_inodes, free_blocks, unverified_inodes, unverified_blocks, next_inode}
use Rattle.nofs_history.specs.World.{next_block, damaged_above, blocks_needed, inodes_needed}
use Rattle.nofs_history.specs.declared.machine.steps.Step.{Step}
use Rattle.nofs_history.specs.declared.machine.steps.Step.TheVariants as step
use Rattle.nofs_history.specs.declared.machine.replies.Refusal.{Refusal}
use Rattle.nofs_history.specs.declared.machine.replies.Refusal.TheVariants as refusal

-- The rows of refusals

abbrev pub row : Bool → Refusal → Option Refusal
row test why = if test then Some why else None

-- a name that no file can have
abbrev pub bad_name : List ℕ → Option Refusal
bad_name name = row (not (is_name name)) refusal.BadName

-- how many slots a file can have
abbrev pub slots : World → ℕ
slots W = if W.version == 1 then 72 else slot_limit

-- a slot beyond them
abbrev pub too_large : World → ℕ → Option Refusal
too_large W k = row (nat_le (slots W) k) refusal.TooLarge

-- no file of this generation
abbrev pub stale : World → ℕ → ℕ → Option Refusal
stale W i g = row (not (is_some (W.files i) && (generation_of W.files i == g))) refusal.Stale

-- a file where a directory is wanted
abbrev pub not_directory : World → ℕ → Option Refusal
not_directory W d = row (not (is_folder_at W.files d)) refusal.NotDirectory

-- a directory where a file is wanted
abbrev pub is_directory : World → ℕ → Option Refusal
is_directory W i = row (is_folder_at W.files i) refusal.IsDirectory

-- the name leads to a file
abbrev pub exists : World → ℕ → List ℕ → Option Refusal
exists W d name = row (is_some (found W.files d name)) refusal.Exists

-- a name that finds nothing
abbrev pub missing : World → ℕ → List ℕ → Option Refusal
missing W d name = if is_some (found W.files d name) then None else
    first_of (option_map refusal.LostEntry (first_dead W.files d name)
    ∷ option_map refusal.LostSlot (first_lost_slot W.files d) ∷ Some refusal.Missing ∷ [])

-- what an entry names is a directory with some name of a file
abbrev pub is_filled : World → Option Entry → Bool
is_filled W None = false
is_filled W (Some entry) =
    is_folder_at W.files entry.inode && is_some (least_from (λ e. is_paired W.files entry.inode e) 0 entry_limit)

-- what entry e names is a directory with a name in it
abbrev pub not_empty_at : World → ℕ → Option ℕ → Option Refusal
not_empty_at W d None = None
not_empty_at W d (Some e) = row (is_filled W (entry_at W.files d e)) refusal.NotEmpty

-- what a name finds is a directory with a name in it
abbrev pub not_empty : World → ℕ → List ℕ → Option Refusal
not_empty W d name = not_empty_at W d (found W.files d name)

-- no place for a back link
abbrev pub too_many_links : World → ℕ → Option Refusal
too_many_links W i = row (not (is_some (link_place W.files i))) refusal.TooManyLinks

-- no place for an entry
abbrev pub directory_full : World → ℕ → List ℕ → Option Refusal
directory_full W d name = row (not (is_some (place_for W.files d name))) refusal.DirectoryFull

-- a gap would stand before the slot
abbrev pub past_end : World → ℕ → ℕ → Option Refusal
past_end W i k =
    let size : ℕ = size_of W.files i in
    row (nat_lt (slots_in size) k || ((k == slots_in size) && not (size % 1024 == 0))) refusal.PastEnd

-- what the slot needs is lost
abbrev pub lost_under : World → ℕ → ℕ → ℕ → List ℕ → Option Refusal
lost_under W i k at bytes =
    let covered : Bool = (at == 0) && nat_le (cut_of (size_of W.files i) k) (length bytes) in
    row (damaged_above W.files i (path_of k)
    || (is_lost (value_of W.files i k) && (nat_lt k (slots_in (size_of W.files i)) && not covered)))
    (refusal.LostSlot k)

-- whether a block of pointers is damaged
abbrev pub is_damaged : NodeState → Bool
is_damaged Absent = false
is_damaged Present = false
is_damaged Damaged = true

-- what is cut inside is damaged: the leaf, the top, a child
abbrev pub lost_resize : World → ℕ → ℕ → Option Refusal
lost_resize W i size =
    let m : ℕ = min (slots_in (size_of W.files i)) (slots_in size) in
    let j : ℕ = (m - 73) / 64 in
    first_of (
    row (nat_lt 8 m && is_damaged (node_of W.files i (InRecord 8))) (refusal.LostSlot 8)
    ∷ row (nat_lt 72 m && is_damaged (node_of W.files i (InRecord 9))) (refusal.LostSlot 72)
    ∷ row (nat_lt 72 m && is_damaged (node_of W.files i (Under (InRecord 9) j))) (refusal.LostSlot (72 + 64 * j))
    ∷ [])

-- the counts are those of the world after
abbrev pub inodes_full : World → World → Option Refusal
inodes_full W after = row (free_inodes W == 0) (refusal.InodesFull (unverified_inodes after) (next_inode after))

-- fewer blocks than needed are; counts are those of the world after
abbrev pub full : World → World → Step → Option Refusal
full W after step = row (nat_lt (free_blocks W) (blocks_needed W.files step))
    (refusal.Full (blocks_needed W.files step) (free_blocks after) (unverified_blocks after) (next_block after))

-- fewer stamps than needed are left
abbrev pub serials_spent : World → Step → Option Refusal
serials_spent W step =
    row (nat_lt (2 ^ 40) (W.serial + inodes_needed step + blocks_needed W.files step)) refusal.SerialsSpent

-- the refusals of a step, in the order in which they are tested
abbrev pub rows : World → World → Step → List (Option Refusal)
rows W after (step.Look d g name) =
    bad_name name
    ∷ stale W d g
    ∷ not_directory W d
    ∷ missing W d name
    ∷ []
rows W after (step.Make d g name kind) =
    bad_name name
    ∷ stale W d g
    ∷ not_directory W d
    ∷ exists W d name
    ∷ directory_full W d name
    ∷ inodes_full W after
    ∷ full W after (step.Make d g name kind)
    ∷ serials_spent W (step.Make d g name kind)
    ∷ []
rows W after (step.Link d g name i of) =
    bad_name name
    ∷ stale W d g
    ∷ stale W i of
    ∷ not_directory W d
    ∷ is_directory W i
    ∷ exists W d name
    ∷ too_many_links W i
    ∷ directory_full W d name
    ∷ full W after (step.Link d g name i of)
    ∷ serials_spent W (step.Link d g name i of)
    ∷ []
rows W after (step.Drop d g name) =
    bad_name name
    ∷ stale W d g
    ∷ not_directory W d
    ∷ missing W d name
    ∷ not_empty W d name
    ∷ []
rows W after (step.Rename d g old new) =
    bad_name old
    ∷ bad_name new
    ∷ stale W d g
    ∷ not_directory W d
    ∷ missing W d old
    ∷ exists W d new
    ∷ []
rows W after (step.List d g slot) = stale W d g ∷ not_directory W d ∷ []
rows W after (step.Get i g k) = too_large W k ∷ stale W i g ∷ is_directory W i ∷ []
rows W after (step.Put i g k at bytes) =
    row (nat_lt 1024 (at + length bytes) || (length bytes == 0)) refusal.BadRange
    ∷ too_large W k
    ∷ stale W i g
    ∷ is_directory W i
    ∷ past_end W i k
    ∷ lost_under W i k at bytes
    ∷ full W after (step.Put i g k at bytes)
    ∷ serials_spent W (step.Put i g k at bytes)
    ∷ []
rows W after (step.Resize i g size) =
    row (nat_lt (1024 * slots W) size) refusal.TooLarge
    ∷ stale W i g
    ∷ is_directory W i
    ∷ lost_resize W i size
    ∷ []
rows W after (step.Stat i g) = stale W i g ∷ []
rows W after (step.Flush i g) = (if (i == 0) && (g == 0) then None else stale W i g) ∷ []
rows W after (step.SeeInode i) = row ((i == 0) || nat_lt W.inodes i) refusal.BadRange ∷ []
rows W after (step.SeeBlock p) = row (nat_le W.blocks p) refusal.BadRange ∷ []

-- refusals that come before any read
abbrev pub reads_nothing : Refusal → Bool
reads_nothing refusal.BadName = true
reads_nothing refusal.BadRange = true
reads_nothing refusal.TooLarge = true
reads_nothing refusal.Missing = false
reads_nothing (refusal.LostEntry _) = false
reads_nothing (refusal.LostSlot _) = false
reads_nothing refusal.Exists = false
reads_nothing refusal.NotDirectory = false
reads_nothing refusal.IsDirectory = false
reads_nothing refusal.NotEmpty = false
reads_nothing refusal.TooManyLinks = false
reads_nothing refusal.DirectoryFull = false
reads_nothing refusal.PastEnd = false
reads_nothing refusal.Stale = false
reads_nothing (refusal.Full _ _ _ _) = false
reads_nothing (refusal.InodesFull _ _) = false
reads_nothing refusal.SerialsSpent = false
reads_nothing refusal.ReadFault = false
reads_nothing refusal.WriteFault = false
reads_nothing refusal.Stopped = false
reads_nothing refusal.OutOfMemory = false

-- steps that may write or flush
abbrev pub may_write : Step → Bool
may_write (step.Make d g name kind) = true
may_write (step.Link d g name i of) = true
may_write (step.Drop d g name) = true
may_write (step.Rename d g old new) = true
may_write (step.Put i g k at bytes) = true
may_write (step.Resize i g size) = true
may_write (step.Flush i g) = true
may_write (step.Look _ _ _) = false
may_write (step.List _ _ _) = false
may_write (step.Get _ _ _) = false
may_write (step.Stat _ _) = false
may_write (step.SeeInode _) = false
may_write (step.SeeBlock _) = false

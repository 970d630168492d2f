-- What was given since the last flush: for each slot and for each meta the versions of which a crash leaves one.
-- These are words of the promise; what only its proof needs stands in Marks.antt.
use Rattle.std.specs.Prelude.{ℕ, suc, Bool, true, false, ◌&&◌, not, List, [], ◌∷◌, ◌++◌, take, drop, is_some}
use Rattle.std.specs.Prelude.{option_to_list, None, if◌then◌else◌, nat_lt, nat_le, ◌==◌}
use Rattle.std.specs.List.{list_any}
use Rattle.nofs_inode.specs.InodeRecords.{is_live}
use Rattle.nofs_model.specs.Geometry.{Image, inode}
use Rattle.nofs_model.specs.Slots.{value}
use Rattle.nofs_model.specs.Files.{Files, files_in, agreed}
use Rattle.nofs_model.specs.declared.image.value.Value.{Value}
use Rattle.nofs_history.specs.Meta.{Meta, meta_of, is_gone, AllBytes}
use Rattle.nofs_history.specs.Machine.{given_by, files_by, generation_of}
use Rattle.nofs_history.specs.declared.machine.history.Entry1.{Entry1}
use Rattle.nofs_history.specs.declared.machine.replies.Reply.{Reply}
use Rattle.nofs_history.specs.declared.machine.replies.Reply.TheVariants as reply

-- The files of a disk: those of its agreed inodes
unfoldable pub agreed_files : Image → Files
agreed_files B i = if agreed (files_in B) i then files_in B i else None

-- The files after these entries
abbrev pub files_along : Files → List Entry1 → Files
files_along F [] = F
files_along F (e ∷ es) = files_along (files_by F e) es

-- the values that these entries gave to slot k of (i, g), in order
abbrev pub values_given : Files → List Entry1 → ℕ → ℕ → ℕ → List Value
values_given F [] i g k = []
values_given F (e ∷ es) i g k = option_to_list ((given_by F e).slots i g k) ++ values_given (files_by F e) es i g k

-- the metas that these entries gave to (i, g), in order
abbrev pub metas_given : Files → List Entry1 → ℕ → ℕ → List Meta
metas_given F [] i g = []
metas_given F (e ∷ es) i g = option_to_list ((given_by F e).metas i g) ++ metas_given (files_by F e) es i g

-- the base has a live record of this generation
abbrev pub is_generation : Image → ℕ → ℕ → Bool
is_generation B i g = is_live (inode B i) && ((inode B i).generation == g)

-- what was accepted for a slot: the base's value first
abbrev pub accepted_of : Image → List Entry1 → ℕ → ℕ → ℕ → List Value
accepted_of B H i g k = (if is_generation B i g then value B i k ∷ [] else []) ++ values_given (agreed_files B) H i g k

-- what was accepted as the meta of (i, g): the base's first
abbrev pub accepted_meta_of : Image → List Entry1 → ℕ → ℕ → List Meta
accepted_meta_of B H i g =
    (if is_generation B i g then meta_of (inode B i) ∷ [] else []) ++ metas_given (agreed_files B) H i g

-- the last of a list, where there is one
abbrev pub last_in : {A : Type 0} → List A → List A
last_in [] = []
last_in (x ∷ []) = x ∷ []
last_in (x ∷ y ∷ rest) = last_in (y ∷ rest)

-- whether a flush succeeded
abbrev pub is_flushed : Reply → Bool
is_flushed reply.Flushed = true
is_flushed _ = false

-- the entries that have begun before moment m
abbrev pub begun : List Entry1 → ℕ → List Entry1
begun [] m = []
begun (e ∷ es) m = if nat_lt e.from m then e ∷ begun es m else []

-- the place after the last entry that flushed by moment m, given the place so far and the best one
abbrev pub mark_from : List Entry1 → ℕ → ℕ → ℕ → ℕ
mark_from [] m at best = best
mark_from (e ∷ es) m at best = mark_from es m (suc at) (if is_flushed e.reply && nat_le e.to m then suc at else best)

-- the place after the last entry that flushed by moment m
abbrev pub mark : List Entry1 → ℕ → ℕ
mark H m = mark_from H m 0 0

-- the entries before the mark, and those after it that have begun
abbrev pub before_mark : List Entry1 → ℕ → List Entry1
before_mark H m = take (mark H m) H

-- the entries after the mark that have begun
abbrev pub since_mark : List Entry1 → ℕ → List Entry1
since_mark H m = drop (mark H m) (begun H m)

-- the files at the mark
abbrev pub files_at_mark : Image → List Entry1 → ℕ → Files
files_at_mark B H m = files_along (agreed_files B) (before_mark H m)

-- what a read of a slot may give: the value at the mark, and each value given since
abbrev pub since : Image → List Entry1 → ℕ → ℕ → ℕ → ℕ → List Value
since B H m i g k =
    last_in (accepted_of B (before_mark H m) i g k) ++ values_given (files_at_mark B H m) (since_mark H m) i g k

-- what the meta of (i, g) may be
abbrev pub since_meta : Image → List Entry1 → ℕ → ℕ → ℕ → List Meta
since_meta B H m i g =
    last_in (accepted_meta_of B (before_mark H m) i g) ++ metas_given (files_at_mark B H m) (since_mark H m) i g

-- (i, g) was agreed at the mark, and nothing that began since removes it
abbrev pub stands : Image → List Entry1 → ℕ → ℕ → ℕ → Bool
stands B H m i g =
    is_some (files_at_mark B H m i)
    && ((generation_of (files_at_mark B H m) i == g)
    && not (list_any is_gone (metas_given (files_at_mark B H m) (since_mark H m) i g)))

-- slot k of (i, g) is sure: each version since the last flush is bytes
abbrev pub IsSure : Image → List Entry1 → ℕ → ℕ → ℕ → ℕ → Type 0
IsSure B H m i g k = AllBytes (since B H m i g k)

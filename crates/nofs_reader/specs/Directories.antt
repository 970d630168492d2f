-- What a list of a directory and the search of a name answer.
use Rattle.std.specs.Prelude.{◌≡◌, ℕ, ◌<◌, ◌≤◌, Bool, true, false, ◌&&◌, List, Option, Some, None, IfSome, bytes_eq}
use Rattle.std.specs.Prelude.{is_some}
use Rattle.nofs_dirent.specs.Entries.{entry_limit}
use Rattle.nofs_dirent.specs.declared.entry.Entry.{Entry}
use Rattle.nofs_model.specs.Files.{entry_at, files_in}
use Rattle.nofs_model.specs.Geometry.{Image}
use Rattle.nofs_model.specs.Slots.{value}
use Rattle.nofs_model.specs.declared.image.value.Value.{Value}
use Rattle.nofs_model.specs.declared.image.value.Value.TheVariants as value
use Rattle.nofs_reader.specs.Entries.{IsEmptyPlace, IsLine, IsLostPlace, is_alive}
use Rattle.nofs_reader.specs.declared.lists.Line.{Line}
use Rattle.nofs_reader.specs.declared.lists.NextLine.{NextLine}
use Rattle.nofs_reader.specs.declared.lists.NextLine.TheVariants as next
use Rattle.nofs_reader.specs.declared.looks.Looked.{Looked}
use Rattle.nofs_reader.specs.declared.looks.Looked.TheVariants as looked

-- nothing stands from one place up to another
abbrev pub AreEmpty : Image → ℕ → ℕ → ℕ → Type 0
AreEmpty X d from to = (e : ℕ) → from ≤ e → e < to → IsEmptyPlace X d e

-- something stands at a place, and it is the first one from `from` on at which something does
pub record IsFirst (X : Image) (d from place : ℕ) : Type 0 where
  pub late : from ≤ place
  pub range : place < entry_limit
  pub before : AreEmpty X d from place

-- what a directory has from a place on
abbrev pub IsNext : Image → ℕ → ℕ → NextLine → Type 0
IsNext X d from (next.Line line) = IsFirst X d from line.place × IsLine X d line
IsNext X d from (next.Lost place) = IsFirst X d from place × IsLostPlace X d place
IsNext X d from next.End = AreEmpty X d from entry_limit

-- The search of a name

-- whether an entry has a name, and whether it is no dead one
abbrev pub is_named : List ℕ → Option Entry → Bool
is_named name None = false
is_named name (Some entry) = bytes_eq entry.name name

abbrev pub is_live_entry : Image → ℕ → ℕ → Option Entry → Bool
is_live_entry X d e None = false
is_live_entry X d e (Some entry) = is_alive X d e entry.inode

-- whether entry e of directory d has a name
abbrev pub is_named_at : Image → ℕ → List ℕ → ℕ → Bool
is_named_at X d name e = is_named name (entry_at (files_in X) d e)

-- whether it has the name and is no dead one: the name finds it
abbrev pub is_found_at : Image → ℕ → List ℕ → ℕ → Bool
is_found_at X d name e = is_named_at X d name e && is_live_entry X d e (entry_at (files_in X) d e)

abbrev pub is_lost : Value → Bool
is_lost value.Lost = true
is_lost value.Hole = false
is_lost (value.Bytes content) = false

-- whether slot k of directory d is lost
abbrev pub is_lost_at : Image → ℕ → ℕ → Bool
is_lost_at X d k = is_lost (value X d k)

-- none of the numbers below this one passes
abbrev pub NonePasses : (ℕ → Bool) → ℕ → Type 0
NonePasses test n = (k : ℕ) → k < n → test k ≡ false

-- the least number that passes, below a bound
pub record IsLeast (test : ℕ → Bool) (bound n : ℕ) : Type 0 where
  pub range : n < bound
  pub passes : test n ≡ true
  pub least : NonePasses test n

-- it is the least number that passes, or none passes
abbrev pub FindsLeast : (ℕ → Bool) → ℕ → Option ℕ → Type 0
FindsLeast test bound (Some n) = IsLeast test bound n
FindsLeast test bound None = NonePasses test bound

-- so of the entries that a name finds
abbrev pub FindsLine : Image → ℕ → List ℕ → Option Line → Type 0
FindsLine X d name (Some line) = IsLeast (is_found_at X d name) entry_limit line.place × IsLine X d line
FindsLine X d name None = NonePasses (is_found_at X d name) entry_limit

-- the entry at one place, where the name finds it
pub record IsFoundAt (X : Image) (d : ℕ) (name : List ℕ) (e : ℕ) (it : Option Line) : Type 0 where
  pub found : is_some it ≡ is_found_at X d name e
  pub line : IfSome it (IsLine X d)
  pub place : IfSome it (λ line. line.place ≡ e)

-- what a name finds: the least entry that has it and is no dead one; else the least dead one that has it; else the
-- least lost slot; else nothing
abbrev pub IsLooked : Image → ℕ → List ℕ → Looked → Type 0
IsLooked X d name (looked.Found line) = IsLeast (is_found_at X d name) entry_limit line.place × IsLine X d line
IsLooked X d name (looked.LostEntry place) =
    NonePasses (is_found_at X d name) entry_limit × IsLeast (is_named_at X d name) entry_limit place
IsLooked X d name (looked.LostSlot slot) =
    NonePasses (is_named_at X d name) entry_limit × IsLeast (is_lost_at X d) 72 slot
IsLooked X d name looked.Missing = NonePasses (is_named_at X d name) entry_limit × NonePasses (is_lost_at X d) 72

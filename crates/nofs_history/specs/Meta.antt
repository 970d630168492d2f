-- What an entry gives of an inode, and which values may be read. These are words of the promise.
use Rattle.std.specs.Prelude.{◌≡◌, ℕ, ◌⊎◌, Bool, true, false, List, Some, None, Contains}
use Rattle.nofs_inode.specs.declared.inode.FileKind.{FileKind}
use Rattle.nofs_inode.specs.declared.inode.BackLink.{BackLink}
use Rattle.nofs_inode.specs.declared.inode.Record.{Record}
use Rattle.nofs_model.specs.declared.image.value.Value.{Value}
use Rattle.nofs_model.specs.declared.image.value.Value.TheVariants.{Hole, Bytes, Lost}

-- what is known of an inode beside its content, or that it is gone
pub data Meta : Type 0 where
  Gone : Meta
  Is : (kind : FileKind) (size : ℕ) (links : List BackLink) → Meta

-- the meta of a record
abbrev pub meta_of : Record → Meta
meta_of r = elim r.kind [ None ↦ Gone | Some kind ↦ Is kind r.size r.links ]

-- whether a value is bytes
abbrev pub is_bytes : Value → Bool
is_bytes (Bytes content) = true
is_bytes Hole = false
is_bytes Lost = false

-- a value that may be read
abbrev pub MayRead : List Value → Value → Type 0
MayRead since v = (v ≡ Lost) ⊎ Contains since v

-- every one of these values is bytes
abbrev pub AllBytes : List Value → Type 0
AllBytes since = (v : Value) → Contains since v → is_bytes v ≡ true

-- whether an inode is gone
abbrev pub is_gone : Meta → Bool
is_gone Gone = true
is_gone (Is kind size links) = false

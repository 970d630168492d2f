-- A history and the files of an image: what the machine has is what the image says.
use Rattle.std.specs.Prelude.{◌≡◌, ℕ, ◌<◌, true, false, List, [], ◌∷◌, Option, Some, None}
use Rattle.nofs_ptrs.specs.Paths.{slot_limit, Path, is_pointer_slot, IsSlot}
use Rattle.nofs_model.specs.Geometry.{Image}
use Rattle.nofs_model.specs.Files.{FileState, Files}
use Rattle.nofs_history.specs.Machine.{is_write_fault}
use Rattle.nofs_history.specs.Since.{agreed_files}
use Rattle.nofs_history.specs.declared.machine.history.Entry1.{Entry1}

-- The machine's file is what the image says of this inode
abbrev pub SameFile : Option FileState → Option FileState → Type 0
SameFile None None = Unit {0}
SameFile None (Some b) = ⊥
SameFile (Some a) None = ⊥
SameFile (Some a) (Some b) = record {
  generation : a.generation ≡ b.generation;
  kind : a.kind ≡ b.kind;
  size : a.size ≡ b.size;
  links : a.links ≡ b.links;
  values : (k : ℕ) → k < slot_limit → a.values k ≡ b.values k;
  nodes : (path : Path) → IsSlot path → is_pointer_slot path ≡ true → a.nodes path ≡ b.nodes path;
}

-- the machine has the agreed files of the image
abbrev pub FilesMatch : Files → Image → Type 0
FilesMatch F X = (i : ℕ) → SameFile (F i) (agreed_files X i)

-- no entry ended in a fault of writing
abbrev pub NoWriteFault : List Entry1 → Type 0
NoWriteFault [] = Unit {0}
NoWriteFault (e ∷ es) = (is_write_fault e.reply ≡ false) × NoWriteFault es

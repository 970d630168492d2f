-- Where a new entry goes, and that its bytes are read back as it.
use Rattle.std.specs.Prelude.{◌≡◌, ℕ, ◌/◌, ◌^◌, ◌<◌, ◌≤◌, ◌⊎◌, false, List, Some}
use Rattle.nofs_dirent.specs.Entries.{entry_limit, spelled_entry}
use Rattle.nofs_dirent.specs.EntryLaws.{Spells}
use Rattle.nofs_dirent.specs.Names.{NameOk}
use Rattle.nofs_disk.specs.declared.tag.Pointer.{Pointer}
use Rattle.nofs_model.specs.Geometry.{Image}
use Rattle.nofs_ptrs.specs.Paths.{path_of}
use Rattle.nofs_model.specs.Slots.{find}
use Rattle.nofs_model.specs.Files.{FileState, Files}
use Rattle.nofs_model.specs.declared.image.path.PathAnswer.TheVariants as answer
use Rattle.nofs_history.specs.Machine.{is_paired, place_for}
use Rattle.nofs_history.specs.History.{FilesMatch}

-- Into a slot that holds, or into a hole, never into one that is lost; and no pair stands at its place.
abbrev pub LawEntryPlace : Type 0
LawEntryPlace = (F : Files) (X : Image) (d n : ℕ) (name : List ℕ) (f : FileState) → FilesMatch F X → F d ≡ Some f
    → place_for F d name ≡ Some n
    → (n < entry_limit) × (is_paired F d n ≡ false)
    × (((x : Pointer) × (find X d (path_of (n / 16)) ≡ answer.Holds x)) ⊎
    (find X d (path_of (n / 16)) ≡ answer.Hole))

-- The 64 bytes that spell an entry with a good name are read back as this entry.
abbrev pub LawSpelledEntry : Type 0
LawSpelledEntry = (inode generation : ℕ) (name : List ℕ)
    → 1 ≤ inode → inode < 2 ^ 32 → 1 ≤ generation → generation < 2 ^ 64 → NameOk name
    → Spells (spelled_entry inode generation name) (record { inode = inode; generation = generation; name = name })

-- The numbers in what the steps on names write: Rename, Drop, Link and Make.
use Rattle.std.specs.Prelude.{◌≡◌, ℕ, ◌/◌, ◌≤◌, ◌⊎◌, List, None}
use Rattle.nofs_inode.specs.declared.inode.FileKind.{FileKind}
use Rattle.nofs_disk.specs.declared.tag.Pointer.{Pointer}
use Rattle.nofs_dirent.specs.declared.entry.Entry.{Entry}
use Rattle.nofs_dirent.specs.Entries.{spelled_entry}
use Rattle.nofs_model.specs.Geometry.{Image, inode}
use Rattle.nofs_disk.specs.Disk.{cell_at}
use Rattle.nofs_model.specs.Files.{FileState}
use Rattle.nofs_history.specs.Machine.{link_to, without_link}
use Rattle.nofs_history.specs.World.{World}
use Rattle.nofs_history.specs.Claims.{IsClaim}
use Rattle.nofs_history.specs.declared.machine.history.Claims.{Claims}
use Rattle.nofs_history.specs.declared.machine.steps.Step.TheVariants as step
use Rattle.nofs_crashlaw.specs.Maps.Fresh.{Numbered, CellNumbers}
use Rattle.nofs_crashlaw.specs.Names.OldEntries.{Relinked, RenameLies, DropLies}
use Rattle.nofs_crashlaw.specs.Names.NewEntries.{LinkLies, MakeLies, EntryInPlace, EntryInHole}
use Rattle.nofs_crashlaw.specs.Homes.Entries.{EntryClaims}
use Rattle.nofs_crashlaw.specs.Numbers.Cells.{OldNumbers, RecordWritten}

-- Rename: the directory's cell.
abbrev pub LawRenameNumbers : Type 0
LawRenameNumbers =
    (W : World) (X Y : Image) (d g n s : ℕ) (new : List ℕ) (f : FileState) (x : Pointer) (entry : Entry) (c : Claims)
    → OldNumbers W X → RenameLies W.files X Y d g n s new f x entry
    → CellNumbers (Numbered W c) X x.block (cell_at Y x.block)

-- Drop: the directory's cell, and the records, where the inode's loses the link or becomes free.
abbrev pub LawDropNumbers : Type 0
LawDropNumbers = (W : World) (X Y : Image) (d g n s : ℕ) (f h : FileState) (x : Pointer) (entry : Entry) (c : Claims)
    → OldNumbers W X → DropLies W.files X Y d g n s f h x entry
    → CellNumbers (Numbered W c) X x.block (cell_at Y x.block)
    × (Relinked X Y entry.inode (without_link (link_to d n g) h.links) ⊎ ((inode Y entry.inode).kind ≡ None)
    → (j : ℕ) → RecordWritten W c X j (inode Y j))

-- Link in a slot that holds: the directory's cell, and the records.
abbrev pub LawLinkInPlaceNumbers : Type 0
LawLinkInPlaceNumbers =
    (W : World) (X Y : Image) (d g n i of b s : ℕ) (name : List ℕ) (f h : FileState) (x : Pointer) (c : Claims)
    → OldNumbers W X → LinkLies W.files X Y d g n i of b s name f h → EntryInPlace X Y d n i (spelled_entry i of name) x
    → CellNumbers (Numbered W c) X x.block (cell_at Y x.block) × ((j : ℕ) → RecordWritten W c X j (inode Y j))

-- Link in a hole: the claimed cell, the leaf where there is one above it, in place or claimed, and the records.
abbrev pub LawLinkInHoleNumbers : Type 0
LawLinkInHoleNumbers =
    (W : World) (X Y : Image) (d g n i of b s : ℕ) (name : List ℕ) (f h : FileState) (x y : Pointer) (c : Claims)
    → OldNumbers W X → LinkLies W.files X Y d g n i of b s name f h
    → EntryInHole s X Y d n i (spelled_entry i of name) x y
    → EntryClaims W.files c d n name x y → IsClaim W (step.Link d g name i of) c
    → CellNumbers (Numbered W c) X x.block (cell_at Y x.block)
    × (8 ≤ n / 16 → CellNumbers (Numbered W c) X y.block (cell_at Y y.block)) × ((j : ℕ)
    → RecordWritten W c X j (inode Y j))

-- Make in a slot that holds.
abbrev pub LawMakeInPlaceNumbers : Type 0
LawMakeInPlaceNumbers = (W : World) (X Y : Image) (d g n s : ℕ) (name : List ℕ) (kind : FileKind) (claims : Claims)
    (f : FileState) (x : Pointer)
    → OldNumbers W X → MakeLies W.files X Y d g n s name kind claims f
    → EntryInPlace X Y d n claims.inode (spelled_entry claims.inode claims.generation name) x
    → IsClaim W (step.Make d g name kind) claims
    → CellNumbers (Numbered W claims) X x.block (cell_at Y x.block) × ((j : ℕ) → RecordWritten W claims X j (inode Y j))

-- Make in a hole.
abbrev pub LawMakeInHoleNumbers : Type 0
LawMakeInHoleNumbers = (W : World) (X Y : Image) (d g n s : ℕ) (name : List ℕ) (kind : FileKind) (claims : Claims)
    (f : FileState) (y : Pointer)
    → OldNumbers W X → MakeLies W.files X Y d g n s name kind claims f
    → EntryInHole s X Y d n claims.inode (spelled_entry claims.inode claims.generation name) claims.cell y
    → EntryClaims W.files claims d n name claims.cell y → IsClaim W (step.Make d g name kind) claims
    → CellNumbers (Numbered W claims) X claims.cell.block (cell_at Y claims.cell.block) × (8 ≤ n / 16
    → CellNumbers (Numbered W claims) X y.block (cell_at Y y.block))
    × ((j : ℕ) → RecordWritten W claims X j (inode Y j))

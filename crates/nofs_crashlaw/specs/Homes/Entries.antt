-- What each step on names does to the homes of the blocks.
use Rattle.std.specs.Prelude.{◌≡◌, ℕ, true, List, Some, None}
use Rattle.nofs_inode.specs.declared.inode.FileKind.{FileKind}
use Rattle.nofs_disk.specs.declared.tag.Pointer.{Pointer}
use Rattle.nofs_dirent.specs.declared.entry.Entry.{Entry}
use Rattle.nofs_dirent.specs.Entries.{spelled_entry}
use Rattle.nofs_model.specs.Geometry.{Image, inode}
use Rattle.nofs_model.specs.Files.{FileState, Files}
use Rattle.nofs_history.specs.Meta.{Gone, Is}
use Rattle.nofs_history.specs.Machine.{place_for, link_to, without_link, drop_meta}
use Rattle.nofs_history.specs.World.{World}
use Rattle.nofs_history.specs.Claims.{is_claimed, IsClaim}
use Rattle.nofs_history.specs.declared.machine.history.Claims.{Claims}
use Rattle.nofs_history.specs.declared.machine.steps.Step.TheVariants as step
use Rattle.nofs_crashlaw.specs.Maps.Homes.{HomesMove}
use Rattle.nofs_crashlaw.specs.Names.OldEntries.{Relinked, RenameLies, DropLies}
use Rattle.nofs_crashlaw.specs.Names.NewEntries.{LinkLies, EntryInPlace, EntryInHole, MakeLies}

-- a new entry and what was claimed for it: x is the block of its cell, y the leaf above it
pub record EntryClaims (F : Files) (c : Claims) (d n : ℕ) (name : List ℕ) (x y : Pointer) : Type 0 where
  -- the entry goes where the machine has it: the step function answers this place from its search
  pub place : place_for F d name ≡ Some n
  -- the cell is written into the claimed block, which the step function takes for it
  pub cell : c.cell ≡ x
  -- and the leaf into the other one, where there is another one
  pub leaf : is_claimed c.leaf ≡ true → c.leaf ≡ y

-- Rename: each slot is found as before.
abbrev pub LawRenameHomes : Type 0
LawRenameHomes = (W : World) (X Y : Image) (d g n s : ℕ) (old new : List ℕ) (f : FileState) (x : Pointer)
    (entry : Entry) (c : Claims)
    → RenameLies W.files X Y d g n s new f x entry → IsClaim W (step.Rename d g old new) c
    → HomesMove W.files (step.Rename d g old new) c X Y

-- Drop, where the inode has another name: its slots and the directory's are found as before.
abbrev pub LawDropNameHomes : Type 0
LawDropNameHomes =
    (W : World) (X Y : Image) (d g n s : ℕ) (name : List ℕ) (f h : FileState) (x : Pointer) (entry : Entry) (c : Claims)
    → DropLies W.files X Y d g n s f h x entry
    → drop_meta W.files entry.inode (link_to d n g) ≡ Is h.kind h.size (without_link (link_to d n g) h.links)
    → Relinked X Y entry.inode (without_link (link_to d n g) h.links)
    → IsClaim W (step.Drop d g name) c
    → HomesMove W.files (step.Drop d g name) c X Y

-- Where it has none: no slot of the free record holds.
abbrev pub LawDropFileHomes : Type 0
LawDropFileHomes =
    (W : World) (X Y : Image) (d g n s : ℕ) (name : List ℕ) (f h : FileState) (x : Pointer) (entry : Entry) (c : Claims)
    → DropLies W.files X Y d g n s f h x entry
    → drop_meta W.files entry.inode (link_to d n g) ≡ Gone → (inode Y entry.inode).kind ≡ None
    → IsClaim W (step.Drop d g name) c
    → HomesMove W.files (step.Drop d g name) c X Y

-- Link in a slot that holds: nothing is claimed, since the entry's place has its block.
abbrev pub LawLinkInPlaceHomes : Type 0
LawLinkInPlaceHomes =
    (W : World) (X Y : Image) (d g n i of b s : ℕ) (name : List ℕ) (f h : FileState) (x : Pointer) (c : Claims)
    → LinkLies W.files X Y d g n i of b s name f h → EntryInPlace X Y d n i (spelled_entry i of name) x
    → place_for W.files d name ≡ Some n → IsClaim W (step.Link d g name i of) c
    → HomesMove W.files (step.Link d g name i of) c X Y

-- Link in a hole: the claimed blocks stand in the entry's slot, and in the leaf's.
abbrev pub LawLinkInHoleHomes : Type 0
LawLinkInHoleHomes =
    (W : World) (X Y : Image) (d g n i of b s : ℕ) (name : List ℕ) (f h : FileState) (x y : Pointer) (c : Claims)
    → LinkLies W.files X Y d g n i of b s name f h → EntryInHole s X Y d n i (spelled_entry i of name) x y
    → EntryClaims W.files c d n name x y → IsClaim W (step.Link d g name i of) c
    → HomesMove W.files (step.Link d g name i of) c X Y

-- Make in a slot that holds: the new inode has no blocks.
abbrev pub LawMakeInPlaceHomes : Type 0
LawMakeInPlaceHomes = (W : World) (X Y : Image) (d g n s : ℕ) (name : List ℕ) (kind : FileKind) (claims : Claims)
    (f : FileState) (x : Pointer)
    → MakeLies W.files X Y d g n s name kind claims f
    → EntryInPlace X Y d n claims.inode (spelled_entry claims.inode claims.generation name) x
    → place_for W.files d name ≡ Some n → IsClaim W (step.Make d g name kind) claims
    → HomesMove W.files (step.Make d g name kind) claims X Y

-- Make in a hole.
abbrev pub LawMakeInHoleHomes : Type 0
LawMakeInHoleHomes = (W : World) (X Y : Image) (d g n s : ℕ) (name : List ℕ) (kind : FileKind) (claims : Claims)
    (f : FileState) (y : Pointer)
    → MakeLies W.files X Y d g n s name kind claims f
    → EntryInHole s X Y d n claims.inode (spelled_entry claims.inode claims.generation name) claims.cell y
    → EntryClaims W.files claims d n name claims.cell y → IsClaim W (step.Make d g name kind) claims
    → HomesMove W.files (step.Make d g name kind) claims X Y

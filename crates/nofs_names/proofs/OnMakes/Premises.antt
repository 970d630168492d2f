-- What a Make stands on, and what it writes, in a slot that holds or in a hole.
use Rattle.std.proofs.Common.{◌≡◌, ℕ, ◌+◌, ◌-◌, ◌/◌, ◌%◌, ◌<◌, ◌≤◌, ◌⊎◌, Bool, true, false, cond, ltb, List}
use Rattle.std.proofs.Common.{Option, Some, None, is_some, unwrap_or, refl, sym, ap, ◌∙◌, subst}
use Rattle.nofs_ptrs.specs.Paths.{slot_limit, leaf, Path, path_of}
use Rattle.nofs_disk.specs.Disk.{cell_at}
use Rattle.nofs_dirent.specs.EntryLaws.{Spells}
use Rattle.nofs_inode.specs.declared.inode.FileKind.TheVariants.{Directory as Folder}
use Rattle.nofs_disk.specs.declared.tag.Cell.{Cell}
use Rattle.nofs_inode.specs.declared.inode.FileKind.{FileKind}
use Rattle.nofs_disk.specs.declared.tag.Pointer.{Pointer}
use Rattle.nofs_disk.specs.Tag.{tag_of}
use Rattle.nofs_inode.specs.InodeRecords.{record_at}
use Rattle.nofs_dirent.specs.Entries.{spelled_entry}
use Rattle.nofs_model.specs.Geometry.{Image, super_at, is_inode, inode}
use Rattle.nofs_model.specs.Slots.{find}
use Rattle.nofs_model.specs.Files.{files_in, agreed, FileState, Files, NodeState}
use Rattle.nofs_model.specs.declared.image.path.PathAnswer.TheVariants as answer
use Rattle.nofs_model.specs.declared.image.value.Value.{Value}
use Rattle.nofs_history.specs.Meta.{Meta, is_bytes}
use Rattle.nofs_history.specs.Machine.{Given, born_file, file_after, after_meta, filled, files_after}
use Rattle.nofs_history.specs.Machine.{with_entry, place_for}
use Rattle.nofs_history.specs.World.{World}
use Rattle.nofs_history.specs.Claims.{is_present, IsClaim}
use Rattle.nofs_history.specs.declared.machine.history.Claims.{Claims}
use Rattle.nofs_history.specs.declared.machine.steps.Step.TheVariants as step
use Rattle.nofs_crashlaw.specs.Names.NewEntries.{IsNewRecord, first_links, EntryInPlace, EntryInHole}
use Rattle.nofs_crashlaw.specs.Homes.Entries.{EntryClaims}
use Rattle.nofs_crashlaw.specs.Numbers.Cells.{table_tag}
use Rattle.nofs_disk.specs.Order.{OneOf}
use Rattle.nofs_state.proofs.OnWrites.Tables.{table_block}
use Rattle.nofs_names.proofs.OnSteps.NoClaims.{block_in}

pub entry-bytes : (v : Value) (e : ℕ) (bytes : List ℕ) → is_bytes (with_entry v e bytes) ≡ true
unfolding with_entry
entry-bytes v e bytes = refl

-- A file to which no birth and no meta is given stays, and keeps its blocks where bytes and blocks of pointers are
-- given

pub file-stays : (F : Files) (G : Given) (j : ℕ) → G.born j ≡ None → ((h : ℕ) → G.metas j h ≡ None)
    → is_some (files_after F G j) ≡ is_some (F j)
file-stays F G j born metas = ap (λ (o : Option ℕ). is_some (file_after G j (born_file o (F j)))) born ∙ go (F j)
  where
    go : (o : Option FileState) → is_some (file_after G j o) ≡ is_some o
    go None = refl
    go (Some f) = ap (λ (m : Option Meta). is_some (after_meta m (filled G j f))) (metas f.generation)

abbrev pub KeepsValue : Option Value → Type 0
KeepsValue None = Unit {0}
KeepsValue (Some v) = is_bytes v ≡ true

abbrev pub KeepsNode : Option NodeState → Type 0
KeepsNode None = Unit {0}
KeepsNode (Some n) = is_present n ≡ true

kept-value : (o : Option Value) (v : Value) → KeepsValue o → is_bytes v ≡ true → is_bytes (unwrap_or o v) ≡ true
kept-value None v h e = e
kept-value (Some u) v h e = h

kept-node : (o : Option NodeState) (n : NodeState) → KeepsNode o
    → is_present n ≡ true → is_present (unwrap_or o n) ≡ true
kept-node None n h e = e
kept-node (Some u) n h e = h

pub block-stays : (F : Files) (G : Given) (j slot : ℕ) → G.born j ≡ None → ((h : ℕ) → G.metas j h ≡ None)
    → ((h k : ℕ) → KeepsValue (G.slots j h k))
    → ((h : ℕ) (path : Path) → KeepsNode (G.nodes j h path))
    → block_in (F j) slot ≡ true → block_in (files_after F G j) slot ≡ true
block-stays F G j slot born metas values nodes h =
    subst (λ (o : Option ℕ). block_in (file_after G j (born_file o (F j))) slot ≡ true) (sym born) (go (F j) h)
  where
    inside : (f : FileState) (b : Bool) → cond b (is_bytes (f.values slot)) (is_present (f.nodes (path_of slot))) ≡ true
        → cond b (is_bytes ((filled G j f).values slot)) (is_present ((filled G j f).nodes (path_of slot))) ≡ true
    inside f true e = kept-value (G.slots j f.generation slot) (f.values slot) (values f.generation slot) e
    inside f false e =
        kept-node (G.nodes j f.generation (path_of slot)) (f.nodes (path_of slot)) (nodes f.generation (path_of slot)) e

    go : (o : Option FileState) → block_in o slot ≡ true → block_in (file_after G j o) slot ≡ true
    go None e = e
    go (Some f) e =
        subst (λ (m : Option Meta). block_in (after_meta m (filled G j f)) slot ≡ true) (sym (metas f.generation))
        (inside f (ltb slot slot_limit) e)

-- what a Make stands on: its directory, the place of the entry, what was claimed, and the new record
pub record Makes (X Y : Image) (W : World) (d g : ℕ) (name : List ℕ) (kind : FileKind) (e : ℕ)
    (c : Claims) : Type 0 where
  pub folder : (inode X d).kind ≡ Some Folder
  pub generation : (inode X d).generation ≡ g
  pub agrees : agreed (files_in X) d ≡ true
  pub place : place_for W.files d name ≡ Some e
  pub claim : IsClaim W (step.Make d g name kind) c
  pub spells : Spells (spelled_entry c.inode c.generation name)
      (record { inode = c.inode; generation = c.generation; name = name })
  pub made : IsNewRecord Y c.inode c.generation kind (first_links d e g)

-- its writes where the entry's slot holds the block x
pub record WritesInPlace (X Y : Image) (d e : ℕ) (c : Claims) (name : List ℕ) (x : Pointer)
    (ws : List (ℕ × Cell)) : Type 0 where
  pub entry : EntryInPlace X Y d e c.inode (spelled_entry c.inode c.generation name) x
  pub tag : tag_of (cell_at Y (table_block c.inode)).tag ≡ Some (table_tag (table_block c.inode))
  pub each : (b : ℕ) (cell : Cell) → OneOf ws b cell
      → (cell ≡ cell_at Y b) × ((b ≡ x.block) ⊎ (b ≡ table_block c.inode))

-- a cell that is written where it is a hole, with the leaf y above it: the entry's, the leaf, or one of the table with
-- records of before or after
pub data IsHoleWrite (X Y : Image) (e : ℕ) (c : Claims) (y : Pointer) (b : ℕ) (cell : Cell) : Type 0 where
  OfEntry : b ≡ c.cell.block → cell ≡ cell_at Y c.cell.block → IsHoleWrite X Y e c y b cell
  OfLeaf : 8 ≤ e / 16 → b ≡ y.block → cell ≡ cell_at Y y.block → IsHoleWrite X Y e c y b cell
  OfTable : 0 < b → b ≤ (super_at X).inodes / 4 → tag_of cell.tag ≡ Some (table_tag b)
      → ((j : ℕ) → is_inode X j ≡ true → 1 + (j - 1) / 4 ≡ b → (record_at cell.payload ((j - 1) % 4) ≡ inode X j) ⊎
      (record_at cell.payload ((j - 1) % 4) ≡ inode Y j)) → IsHoleWrite X Y e c y b cell

-- and its writes there
pub record WritesInHole (s : ℕ) (X Y : Image) (F : Files) (d e : ℕ) (c : Claims) (name : List ℕ)
    (y : Pointer) (stamps : ℕ)
    (ws : List (ℕ × Cell)) : Type 0 where
  pub entry : EntryInHole s X Y d e c.inode (spelled_entry c.inode c.generation name) c.cell y
  pub claims : EntryClaims F c d e name c.cell y
  pub newer : stamps ≤ c.cell.stamp
  pub leaf_newer : stamps ≤ y.stamp ⊎ ((z : Pointer) × (find X d leaf ≡ answer.Holds z))
  pub each : (b : ℕ) (cell : Cell) → OneOf ws b cell → (cell ≡ cell_at Y b) × IsHoleWrite X Y e c y b cell

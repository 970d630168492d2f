-- What an entry gives to one inode: nothing, a cell, a meta, or its birth.
use Rattle.std.specs.Prelude.{◌≡◌, ◌≢◌, ℕ, List, Some, None, if◌then◌else◌, ◌==◌}
use Rattle.nofs_inode.specs.declared.inode.FileKind.{FileKind}
use Rattle.nofs_inode.specs.declared.inode.BackLink.{BackLink}
use Rattle.nofs_ptrs.specs.Paths.{Path, path_of}
use Rattle.nofs_model.specs.Files.{Present}
use Rattle.nofs_model.specs.declared.image.value.Value.{Value}
use Rattle.nofs_model.specs.declared.image.value.Value.TheVariants.{Hole}
use Rattle.nofs_history.specs.Meta.{Meta, Gone, Is}
use Rattle.nofs_history.specs.Machine.{Given, lies_above}

-- no generation of the inode gets anything
pub record GivesNothing (given : Given) (j : ℕ) : Type 0 where
  pub born : given.born j ≡ None
  pub slots : (g k : ℕ) → given.slots j g k ≡ None
  pub nodes : (g : ℕ) (path : Path) → given.nodes j g path ≡ None
  pub metas : (g : ℕ) → given.metas j g ≡ None

-- slot k gets a value, and the blocks of pointers above it are there
pub record GivesCell (given : Given) (d g k : ℕ) (v : Value) : Type 0 where
  pub born : given.born d ≡ None
  pub slots : (l : ℕ) → given.slots d g l ≡ if k == l then Some v else None
  pub nodes : (path : Path) → given.nodes d g path ≡ if lies_above path (path_of k) then Some Present else None
  pub metas : given.metas d g ≡ None

-- the inode gets a meta, and no slot of it anything
pub record GivesMeta (given : Given) (i g : ℕ) (meta : Meta) : Type 0 where
  pub born : given.born i ≡ None
  pub slots : (k : ℕ) → given.slots i g k ≡ None
  pub nodes : (path : Path) → given.nodes i g path ≡ None
  pub metas : given.metas i g ≡ Some meta

-- the inode is made with this generation, and every other one is gone
pub record GivesBirth (given : Given) (i g : ℕ) (kind : FileKind) (links : List BackLink) : Type 0 where
  pub born : given.born i ≡ Some g
  pub slots : (k : ℕ) → given.slots i g k ≡ Some Hole
  pub nodes : (path : Path) → given.nodes i g path ≡ None
  pub metas : given.metas i g ≡ Some (Is kind 0 links)
  pub others : (q : ℕ) → q ≢ g → given.metas i q ≡ Some Gone

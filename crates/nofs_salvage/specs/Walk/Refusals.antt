-- Why a walk is refused while no file changes: a read failed, the mount has stopped, or inode 1 or 2 isn't there.
use Rattle.std.specs.Prelude.{◌≡◌, ℕ, ◌⊎◌, Bool, true, false, ◌&&◌, List, ◌++◌, All, IfSome, is_some, IsTrue, ◌==◌}
use Rattle.nofs_dirent.specs.Names.{is_name}
use Rattle.nofs_model.specs.Files.{Files}
use Rattle.nofs_history.specs.Machine.{generation_of, is_folder_at, found}
use Rattle.nofs_history.specs.Steps.{Made, with_made}
use Rattle.nofs_history.specs.declared.machine.steps.Step.{Step}
use Rattle.nofs_history.specs.declared.machine.replies.Reply.{Reply}
use Rattle.nofs_history.specs.declared.machine.replies.Refusal.{Refusal}
use Rattle.nofs_history.specs.declared.machine.replies.Refusal.TheVariants as refusal
use Rattle.nofs_salvage.specs.declared.report.answers.InodeHandle.{InodeHandle}
use Rattle.nofs_salvage.specs.Walk.Steps.{refusal_of}
use Rattle.nofs_salvage.specs.Report.Losses.{inode_found}

-- inode i is a file or directory of generation g
abbrev pub is_there : Files → ℕ → ℕ → Bool
is_there F i g = is_some (F i) && (generation_of F i == g)

-- inode 1 is a directory and inode 2 is none, where they are there with their generations
abbrev pub HasRoots : Files → Type 0
HasRoots F = (is_there F 1 1 ≡ true → is_folder_at F 1 ≡ true) × (is_there F 2 2 ≡ true → is_folder_at F 2 ≡ false)

-- inode 1 or inode 2 isn't there with its generation
abbrev pub LacksRoot : Files → Type 0
LacksRoot F = (is_there F 1 1 ≡ false) ⊎ (is_there F 2 2 ≡ false)

-- why a walk may be refused
abbrev pub MayRefuse : Files → Refusal → Type 0
MayRefuse F refusal.ReadFault = Unit {0}
MayRefuse F refusal.Stopped = Unit {0}
MayRefuse F refusal.Stale = LacksRoot F
MayRefuse F _ = ⊥

-- a step was refused for one of these reasons, if at all
abbrev pub IsFair : Files → Made → Type 0
IsFair F m = IfSome (refusal_of m) (MayRefuse F)

-- each step that was made from old to new was
pub record AreFair (F : Files) (old new : List Made) : Type 0 where
  pub made : List Made
  pub more : new ≡ old ++ made
  pub each : All (IsFair F) made

-- this one step was made, or found no memory
pub record MakesOne (old new : List Made) (s : Step) : Type 0 where
  pub reply : Reply
  pub more : new ≡ with_made old s reply

-- What a walk asks for

-- this inode is there with its generation, or else a root isn't; and it is a directory or not as told
pub record MayAsk (F : Files) (folder : Bool) (at : InodeHandle) : Type 0 where
  pub lacking : is_there F at.inode at.generation ≡ false → LacksRoot F
  pub kind : is_there F at.inode at.generation ≡ true → is_folder_at F at.inode ≡ folder

-- a name of directory d finds a file or directory, of this kind
pub record LeadsTo (F : Files) (d : ℕ) (name : List ℕ) (folder : Bool) : Type 0 where
  pub name_ok : IsTrue (is_name name)
  pub finds : is_some (found F d name) ≡ true
  pub kind : is_folder_at F (inode_found F d name) ≡ folder

-- What a Look finds by the machine's files, and which steps may change it.
use Rattle.std.specs.Prelude.{◌≡◌, ℕ, Bool, true, false, ◌&&◌, not, List, is_some, ◌==◌}
use Rattle.nofs_dirent.specs.Names.{is_name}
use Rattle.nofs_inode.specs.declared.inode.FileKind.TheVariants.{File}
use Rattle.nofs_model.specs.Files.{Files}
use Rattle.nofs_history.specs.Machine.{found, generation_of, is_folder_at, is_refused}
use Rattle.nofs_history.specs.Answers.{found_reply}
use Rattle.nofs_history.specs.declared.machine.replies.Found.{Found}
use Rattle.nofs_history.specs.declared.machine.replies.Reply.{Reply}
use Rattle.nofs_history.specs.declared.machine.replies.Reply.TheVariants as reply
use Rattle.nofs_history.specs.declared.machine.steps.Step.{Step}
use Rattle.nofs_history.specs.declared.machine.steps.Step.TheVariants as step

-- by these files no row refuses a Look of the name in the directory of this generation, and this is its answer
pub record Finds (F : Files) (d g : ℕ) (name : List ℕ) (it : Found) : Type 0 where
  pub good : is_name name ≡ true
  pub stands : (is_some (F d) && (generation_of F d == g)) ≡ true
  pub folder : is_folder_at F d ≡ true
  pub answer : found_reply F d (found F d name) ≡ reply.Found it

-- whether after a step with this reply a name may no longer find what it found
abbrev pub moves_names : Step → Reply → Bool
moves_names (step.Drop _ _ _) r = not (is_refused r)
moves_names (step.Rename _ _ _ _) r = not (is_refused r)
moves_names (step.Make _ _ _ _) r = false
moves_names (step.Link _ _ _ _ _) r = false
moves_names (step.Look _ _ _) r = false
moves_names (step.List _ _ _) r = false
moves_names (step.Get _ _ _) r = false
moves_names (step.Put _ _ _ _ _) r = false
moves_names (step.Resize _ _ _) r = false
moves_names (step.Stat _ _) r = false
moves_names (step.Flush _ _) r = false
moves_names (step.SeeInode _) r = false
moves_names (step.SeeBlock _) r = false

-- by these files the name of the step finds the file that its reply tells
abbrev pub Answered : Step → Reply → Files → Type 0
Answered (step.Look d g name) (reply.Found it) F = Finds F d g name it
Answered (step.Make d g name kind) (reply.Made i of) F =
    Finds F d g name (record { inode = i; generation = of; kind = kind })
Answered (step.Link d g name i of) reply.Linked F =
    Finds F d g name (record { inode = i; generation = of; kind = File })
Answered _ _ F = Unit {0}

-- from these files to those after a step with this reply: what a name finds it still finds, unless the step may change
-- that
pub record NamesGoOn (F G : Files) (s : Step) (r : Reply) : Type 0 where
  pub stays : moves_names s r ≡ false → (d g : ℕ) (name : List ℕ) (it : Found) → Finds F d g name it
      → Finds G d g name it
  pub answered : Answered s r G

-- The machine's files and worlds on these images.
use Rattle.std.specs.Prelude.{ℕ, Bool, true, false, ◌∷◌, ◌+◌, ◌^◌, Option, Some, None, if◌then◌else◌, ◌==◌}
use Rattle.nofs_inode.specs.declared.inode.FileKind.TheVariants.{File, Directory}
use Rattle.nofs_disk.specs.declared.tag.Pointer.{Pointer}
use Rattle.nofs_disk.specs.Pointer.{null}
use Rattle.nofs_model.specs.Files.{Absent, FileState, Files}
use Rattle.nofs_model.specs.Owners.{Home}
use Rattle.nofs_model.specs.declared.image.value.Value.{Value}
use Rattle.nofs_model.specs.declared.image.value.Value.TheVariants.{Hole, Bytes}
use Rattle.nofs_history.specs.World.{World}
use Rattle.nofs_history.specs.declared.machine.history.Claims.{Claims}
use Rattle.nofs_history.specs.declared.machine.history.Entry1.{Entry1}
use Rattle.nofs_history.specs.declared.machine.steps.Step.{Step}
use Rattle.nofs_history.specs.declared.machine.replies.Reply.{Reply}
use Rattle.nofs_crashlaw.specs.Machine.Worlds.{no_links, first_slot}
use Rattle.nofs_cases.specs.Disks.Images.{z}

abbrev pub root_file : Value → FileState
root_file v = record {
  generation = 1;
  kind = Directory;
  size = 0;
  links = no_links;
  values = first_slot v;
  nodes = λ path. Absent;
}

abbrev pub label_file : ℕ → Value → FileState
label_file size v =
    record { generation = 2; kind = File; size = size; links = no_links; values = first_slot v; nodes = λ path. Absent }

-- the root, the label file, and a third
abbrev pub three_files : FileState → FileState → Option FileState → Files
three_files root label third i = if i == 1 then Some root
    else (if i == 2 then Some label else (if i == 3 then third else None))

-- the files of the formatted disk
abbrev pub first_files : Files
first_files = three_files (root_file Hole) (label_file 0 Hole) None

-- those after the Put of the byte 7
abbrev pub put_files : Files
put_files = three_files (root_file Hole) (label_file 1 (Bytes (7 ∷ z 1023))) None

-- a world with these files, homes and verdicts
abbrev pub world_known : Files → (ℕ → Option Home) → ℕ → (ℕ → Bool) → (ℕ → Bool) → World
world_known F homes serial inodes blocks = record {
  version = 1;
  blocks = 16;
  inodes = 4;
  mount = 1;
  serial = serial;
  stopped = false;
  files = F;
  homes = homes;
  known_inodes = inodes;
  known_blocks = blocks;
}

-- one in which all is known
abbrev pub world : Files → (ℕ → Option Home) → ℕ → World
world F homes serial = world_known F homes serial (λ i. true) (λ p. true)

abbrev pub first_world : World
first_world = world first_files (λ p. None) 0

-- its entry, from one moment to another
abbrev pub entry_of_step : Step → Reply → Claims → ℕ → ℕ → Entry1
entry_of_step s r c from to = record { caller = 1; from = from; to = to; step = s; reply = r; claims = c }

-- block 2, with the stamp 2 ^ 40 + n
abbrev pub block_two : ℕ → Pointer
block_two n = record { block = 2; stamp = 2 ^ 40 + n }

-- one claimed block
abbrev pub cell_claim : Pointer → Claims
cell_claim x = record { inode = 0; generation = 0; cell = x; leaf = null; top = null }

-- Small worlds for the examples: 64 blocks, 16 inodes, the root, the label file, and two more files.
use Rattle.std.specs.Prelude.{ℕ, ◌+◌, ◌-◌, true, false, List, [], ◌∷◌, ◌++◌, length, Option, Some, None, if◌then◌else◌}
use Rattle.std.specs.Prelude.{nat_lt, nat_le, ◌==◌, replicate}
use Rattle.nofs_inode.specs.declared.inode.BackLink.{BackLink}
use Rattle.nofs_inode.specs.declared.inode.FileKind.TheVariants.{File, Directory}
use Rattle.nofs_ptrs.specs.Paths.{Path, InRecord, Under}
use Rattle.nofs_model.specs.Files.{NodeState, Absent, Present, Damaged, FileState}
use Rattle.nofs_model.specs.Owners.{home_at}
use Rattle.nofs_model.specs.declared.image.value.Value.{Value}
use Rattle.nofs_model.specs.declared.image.value.Value.TheVariants.{Hole, Bytes}
use Rattle.nofs_history.specs.Search.{first_of}
use Rattle.nofs_history.specs.Machine.{gives, files_after, link_to}
use Rattle.nofs_history.specs.World.{World, inodes_needed, blocks_needed}
use Rattle.nofs_history.specs.Refusals.{rows}
use Rattle.nofs_history.specs.Answers.{reply_of}
use Rattle.nofs_history.specs.Claims.{no_claims, homes_after}
use Rattle.nofs_history.specs.declared.machine.history.Claims.{Claims}
use Rattle.nofs_history.specs.declared.machine.history.Entry1.{Entry1}
use Rattle.nofs_history.specs.declared.machine.steps.Step.{Step}
use Rattle.nofs_history.specs.declared.machine.replies.Reply.{Reply}
use Rattle.nofs_history.specs.declared.machine.replies.Reply.TheVariants as reply
use Rattle.nofs_history.specs.declared.machine.replies.Refusal.{Refusal}
use Rattle.nofs_history.specs.declared.machine.replies.Refusal.TheVariants as refusal

-- four places for back links
abbrev pub links : BackLink → BackLink → List BackLink
links a b = a ∷ b ∷ link_to 0 0 0 ∷ link_to 0 0 0 ∷ []

abbrev pub no_links : List BackLink
no_links = links (link_to 0 0 0) (link_to 0 0 0)

-- this value in slot 0, and holes behind it
abbrev pub first_slot : Value → ℕ → Value
first_slot v k = if k == 0 then v else Hole

-- a cell that begins with these bytes
abbrev pub cell : List ℕ → Value
cell bytes = Bytes (bytes ++ replicate (1024 - length bytes) 0)

abbrev pub no_nodes : Path → NodeState
no_nodes path = Absent

-- the first child under the top is damaged
abbrev pub first_child_damaged : Path → NodeState
first_child_damaged (InRecord n) = if n == 9 then Present else Absent
first_child_damaged (Under above n) = if n == 0 then Damaged else Absent

abbrev pub directory : ℕ → List BackLink → (ℕ → Value) → FileState
directory g back values =
    record { generation = g; kind = Directory; size = 0; links = back; values = values; nodes = no_nodes }

abbrev pub file : ℕ → List BackLink → ℕ → (ℕ → Value) → FileState
file g back size values =
    record { generation = g; kind = File; size = size; links = back; values = values; nodes = no_nodes }

-- the root with these entries in slot 0, the label file, and inodes 3 and 4
abbrev pub files : (ℕ → Value) → FileState → Option FileState → Option FileState → ℕ → Option FileState
files root label three four i =
    if i == 1 then Some (directory 1 no_links root) else
    (if i == 2 then Some label else
    (if i == 3 then three else
    (if i == 4 then four else None)))

-- blocks 5 to 7 are used, and all is known
abbrev pub example_world : (ℕ → Option FileState) → World
example_world F = record {
  version = 1;
  blocks = 64;
  inodes = 16;
  known_inodes = λ i. true;
  known_blocks = λ p. true;
  mount = 1;
  serial = 10;
  stopped = false;
  files = F;
  homes = λ p. if nat_le 5 p then (if nat_lt p 8 then Some (home_at 2 (p - 5)) else None) else None;
}

-- what a step is answered where no call of the device fails
abbrev pub by_row : World → Step → Claims → Option Refusal → Reply
by_row W s c None = reply_of W s c
by_row W s c (Some why) = reply.Refused why

abbrev pub answer : World → Step → Claims → Reply
answer W s c = if W.stopped then reply.Refused refusal.Stopped else by_row W s c (first_of (rows W W s))

-- the world after a step that is done
abbrev pub world_after : World → Step → Claims → World
world_after W s c = record W {
  files = files_after W.files (gives W.files s c);
  homes = homes_after W s c (files_after W.files (gives W.files s c));
  serial = W.serial + inodes_needed s + blocks_needed W.files s;
}

-- an entry of a step that claimed nothing
abbrev pub without_claims : Step → Reply → Entry1
without_claims s r = record { caller = 1; from = 0; to = 2; step = s; reply = r; claims = no_claims }

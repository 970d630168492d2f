-- Instances of the laws of verdicts: a run in which an inode and a block are not known at the end.
use Rattle.std.specs.Prelude.{◌≡◌, false, ◌||◌, [], ◌∷◌, nat_le, ◌==◌}
use Rattle.nofs_model.specs.Files.{is_special}
use Rattle.nofs_history.specs.Machine.{gives, files_after}
use Rattle.nofs_history.specs.World.{World}
use Rattle.nofs_history.specs.Claims.{no_claims, homes_after}
use Rattle.nofs_history.specs.Next.{Run}
use Rattle.nofs_history.specs.declared.machine.history.Entry1.{Entry1}
use Rattle.nofs_history.specs.declared.machine.steps.Step.{Step}
use Rattle.nofs_history.specs.declared.machine.steps.Step.TheVariants as step
use Rattle.nofs_history.specs.declared.machine.replies.Reply.TheVariants as reply
use Rattle.nofs_racelaw.specs.Laws.{Shows}
use Rattle.nofs_cases.specs.Disks.Images.{first_image}
use Rattle.nofs_cases.specs.Disks.Worlds.{first_files, first_world, entry_of_step}

-- the formatted disk after a mount: inodes 1 and 2 and the table are known
abbrev pub mounted : World
mounted = record first_world { known_inodes = λ i. is_special i; known_blocks = λ p. nat_le p 1 }

-- a look at inode 3
abbrev pub see : Step
see = step.SeeInode 3

abbrev pub see_entry : Entry1
see_entry = entry_of_step see (reply.Seen false) no_claims 0 0

-- inode 3 is known now
abbrev pub seen : World
seen = record mounted {
  files = files_after first_files (gives first_files see no_claims);
  homes = homes_after mounted see no_claims (files_after first_files (gives first_files see no_claims));
  known_inodes = λ i. is_special i || (i == 3);
}

-- Neither inode 4 nor block 2 is known at the end of the run.
abbrev pub UnchangedCase : Type 0
UnchangedCase = Run 0 mounted (see_entry ∷ []) seen × (seen.known_inodes 4 ≡ false) × (seen.known_blocks 2 ≡ false)

-- The run without an entry.
abbrev pub EmptyRunCase : Type 0
EmptyRunCase = Run 0 mounted [] mounted

-- The maps are right before the run and after it.
abbrev pub StaleCase : Type 0
StaleCase = Run 0 mounted (see_entry ∷ []) seen × (mounted.blocks ≡ seen.blocks) × Shows mounted first_image
    × Shows seen first_image

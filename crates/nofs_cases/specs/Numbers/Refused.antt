-- An instance of the law of maps over a step that is refused.
use Rattle.std.specs.Prelude.{◌||◌, ◌==◌}
use Rattle.nofs_model.specs.Files.{is_special}
use Rattle.nofs_history.specs.World.{World}
use Rattle.nofs_history.specs.Claims.{no_claims}
use Rattle.nofs_history.specs.Next.{Keeps, Next}
use Rattle.nofs_history.specs.declared.machine.history.Entry1.{Entry1}
use Rattle.nofs_history.specs.declared.machine.steps.Step.TheVariants as step
use Rattle.nofs_history.specs.declared.machine.replies.Reply.TheVariants as reply
use Rattle.nofs_history.specs.declared.machine.replies.Refusal.TheVariants as refusal
use Rattle.nofs_crashlaw.specs.Maps.Homes.{GoodMaps}
use Rattle.nofs_cases.specs.Disks.Images.{first_image}
use Rattle.nofs_cases.specs.Disks.Worlds.{entry_of_step}
use Rattle.nofs_cases.specs.Numbers.Verdicts.{mounted}

-- a Get from inode 3, which has no file
abbrev pub stale_entry : Entry1
stale_entry = entry_of_step (step.Get 3 1 0) (reply.Refused refusal.Stale) no_claims 0 0

-- inode 3 is known after it
abbrev pub stale_world : World
stale_world = record mounted { known_inodes = λ i. is_special i || (i == 3) }

-- On the formatted disk after a mount it is refused, and files, homes and serial stay.
abbrev pub KeptCase : Type 0
KeptCase = Next mounted stale_entry stale_world × Keeps mounted stale_world
    × GoodMaps mounted first_image

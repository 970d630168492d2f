-- What a See step answers.
use Rattle.std.specs.Prelude.{◌≡◌, ◌↔◌, Bool, true, false, ◌||◌, Result, Ok, Err, ◌==◌, nat_le, nat_lt}
use Rattle.nofs_disk.specs.Disk.{DiskState}
use Rattle.nofs_super.specs.declared.superblock.SuperBlock.{SuperBlock}
use Rattle.nofs_history.specs.Claims.{no_claims}
use Rattle.nofs_history.specs.Steps.{is_out_of_memory}
use Rattle.nofs_history.specs.declared.machine.replies.Reply.{Reply}
use Rattle.nofs_history.specs.declared.machine.replies.Reply.TheVariants as reply
use Rattle.nofs_history.specs.declared.machine.replies.Refusal.{Refusal}
use Rattle.nofs_history.specs.declared.machine.replies.Refusal.TheVariants as refusal
use Rattle.nofs_history.specs.declared.machine.steps.Step.{Step}
use Rattle.nofs_history.specs.declared.machine.steps.Step.TheVariants as step
use Rattle.nofs_state.specs.Cores.Steps.{Goes}
use Rattle.nofs_state.specs.declared.books.maps.Books.{Books}

abbrev pub seen_answer : Result Bool Refusal → Reply
seen_answer (Ok used) = reply.Seen used
seen_answer (Err why) = reply.Refused why

-- the step asks for an element that a disk with these numbers does not have
abbrev pub is_beyond : Step → SuperBlock → Bool
is_beyond (step.SeeInode i) at = (i == 0) || nat_lt at.inodes i
is_beyond (step.SeeBlock p) at = nat_le at.blocks p
is_beyond _ at = false

-- a read failed
abbrev pub is_unread : Result Bool Refusal → Bool
is_unread (Err refusal.ReadFault) = true
is_unread _ = false

-- the step went so, and took no memory
pub record Examines (old : DiskState) (k : Books) (new : DiskState) (l : Books) (s : Step)
    (result : Result Bool Refusal) : Type 0 where
  pub goes : Goes old k new l s no_claims (seen_answer result)
  pub memory : is_out_of_memory (seen_answer result) ≡ false
  -- over any disk the range is judged by the numbers of the superblock alone, and behind Stopped
  pub range : (result ≡ Err refusal.BadRange) ↔ ((k.stopped ≡ false) × (is_beyond s k.at ≡ true))
  pub no_fault : is_unread result ≡ false → new.faults ≡ old.faults

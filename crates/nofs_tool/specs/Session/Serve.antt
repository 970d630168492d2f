-- What a session leaves in the history of a mount.
use Rattle.std.specs.Prelude.{◌≡◌, ◌⊎◌, ℕ, Bool, false, List, [], ◌∷◌, ◌++◌, true, None, length}
use Rattle.std.specs.Prelude.{drop}
use Rattle.nofs_disk.specs.Disk.{DiskState, IsSettled}
use Rattle.nofs_history.specs.declared.machine.callers.TheConstants.{PROGRAM}
use Rattle.nofs_history.specs.Steps.{is_out_of_memory}
use Rattle.nofs_history.specs.declared.machine.history.Entry1.{Entry1}
use Rattle.nofs_history.specs.declared.machine.steps.Step.TheVariants as step
use Rattle.nofs_history.specs.declared.machine.replies.Reply.{Reply}
use Rattle.nofs_history.specs.declared.machine.replies.Reply.TheVariants as reply
use Rattle.nofs_history.specs.Callers.{steps_by}
use Rattle.nofs_client.specs.declared.task.commands.Command.{Command}
use Rattle.nofs_client.specs.declared.task.lines.Line.{Line}
use Rattle.nofs_shared.specs.Passes.Entries.{TellsStep}
use Rattle.nofs_serve.specs.Session.{TeamMade}
use Rattle.nofs_serve.specs.Teams.Beside.{SweepsMade}
use Rattle.std.specs.declared.option.Option.{Option}
use Rattle.nofs_super.specs.declared.superblock.SuperBlock.{SuperBlock}

-- behind these entries nobody was served, so that no step was made; or both sweeps examined each element
abbrev pub AreSwept : ℕ → ℕ → List Entry1 → List Entry1 → Type 0
AreSwept inodes blocks H K = (K ≡ H) ⊎ SweepsMade inodes blocks false (λ c. steps_by c (drop (length H) K))

-- Each user is a caller of its own and made just the steps that its commands ask for, in order; each element was
-- examined once; and then PROGRAM made all durable. Where memory was wanting, each user may have ended early, and the
-- flush may not have been made; no sweep ends early, for whose entries the mount took memory. Where it was wanting
-- before the first step nobody was served, and there is no entry but that flush's
pub record IsSessionRun (scripts : List (List Command)) (inodes blocks : ℕ) (short : Bool) (lines : List (List Line))
    (H : List Entry1) : Type 0 where
  pub served : List Entry1
  pub flush : Reply
  pub closes : TellsStep PROGRAM (step.Flush 0 0) served H flush
  pub closed : short ≡ false → is_out_of_memory flush ≡ false
  pub team : TeamMade scripts inodes blocks short lines (λ c. steps_by c served)
  pub swept : AreSwept inodes blocks [] served

-- PROGRAM's last flush, of the whole disk: what came before it, and what is left on the device where it was made
pub record IsClosed (d : DiskState) (H : List Entry1) : Type 0 where
  pub served : List Entry1
  pub flush : Reply
  pub closes : TellsStep PROGRAM (step.Flush 0 0) served H flush
  pub made : is_out_of_memory flush ≡ false
  pub settled : flush ≡ reply.Flushed → IsSettled d

-- the last entry is PROGRAM's flush of the whole disk, and it was made: each block is left as a read gives it alone
pub record IsFlushed (d : DiskState) (H : List Entry1) : Type 0 where
  pub served : List Entry1
  pub last : Entry1
  pub ends : H ≡ served ++ last ∷ []
  pub caller : last.caller ≡ PROGRAM
  pub asks : last.step ≡ step.Flush 0 0
  pub answer : last.reply ≡ reply.Flushed
  pub settled : IsSettled d

-- The entries of a history are just the steps that a session asks for: of each user those of its commands, in order, by
-- the replies before; of the sweeps one for each element, the inodes upwards and the blocks downwards; then PROGRAM's
-- flush of the whole disk; and no other caller has any. Where memory was wanting (`short`), each user may have ended
-- early, or nobody was served
abbrev pub FollowsScripts : List (List Command) → SuperBlock → Bool → List Entry1 → Type 0
FollowsScripts scripts at short H = (lines : List (List Line)) × IsSessionRun scripts at.inodes at.blocks short lines H

-- What a serving leaves: its history, and whether there is a text of it
pub record IsFollowed (scripts : List (List Command)) (at : SuperBlock) (text : Option (List ℕ))
    (H : List Entry1) : Type 0 where
  pub short : Bool
  pub early : short ≡ true → text ≡ None
  pub follows : FollowsScripts scripts at short H

-- What a flush leaves that was made, and what one of the whole disk answers.
use Rattle.std.specs.Prelude.{◌≡◌, ◌==◌, ◌&&◌, Bool, true, false}
use Rattle.nofs_disk.specs.Disk.{DiskState, IsSettled}
use Rattle.nofs_history.specs.declared.machine.steps.Step.{Step}
use Rattle.nofs_history.specs.declared.machine.steps.Step.TheVariants as step
use Rattle.nofs_history.specs.declared.machine.replies.Refusal.TheVariants as refusal
use Rattle.nofs_history.specs.declared.machine.replies.Reply.{Reply}
use Rattle.nofs_history.specs.declared.machine.replies.Reply.TheVariants as reply

-- after a flush that was made, a crash leaves just what a read gives
abbrev pub Settles : Step → Reply → DiskState → Type 0
Settles (step.Flush i g) r d = r ≡ reply.Flushed → IsSettled d
Settles (step.Look _ _ _) r d = Unit {0}
Settles (step.Make _ _ _ _) r d = Unit {0}
Settles (step.Link _ _ _ _ _) r d = Unit {0}
Settles (step.Drop _ _ _) r d = Unit {0}
Settles (step.Rename _ _ _ _) r d = Unit {0}
Settles (step.List _ _ _) r d = Unit {0}
Settles (step.Get _ _ _) r d = Unit {0}
Settles (step.Put _ _ _ _ _) r d = Unit {0}
Settles (step.Resize _ _ _) r d = Unit {0}
Settles (step.Stat _ _) r d = Unit {0}
Settles (step.SeeInode _) r d = Unit {0}
Settles (step.SeeBlock _) r d = Unit {0}

-- it is a Flush of the whole disk
abbrev pub names_whole : Step → Bool
names_whole (step.Flush i g) = (i == 0) && (g == 0)
names_whole _ = false

-- over any disk such a one is made, or fails, or finds no memory, or the mount is stopped
abbrev pub is_whole_answer : Reply → Bool
is_whole_answer reply.Flushed = true
is_whole_answer (reply.Refused refusal.WriteFault) = true
is_whole_answer (reply.Refused refusal.OutOfMemory) = true
is_whole_answer (reply.Refused refusal.Stopped) = true
is_whole_answer _ = false

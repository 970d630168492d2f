-- Which replies tell of a call of the device that failed, and whether a history has one.
use Rattle.std.specs.Prelude.{List, [], ◌∷◌, Bool, true, false, if◌then◌else◌}
use Rattle.nofs_history.specs.declared.machine.history.Entry1.{Entry1}
use Rattle.nofs_history.specs.declared.machine.replies.Reply.{Reply}
use Rattle.nofs_history.specs.declared.machine.replies.Reply.TheVariants as reply
use Rattle.nofs_history.specs.declared.machine.replies.Refusal.TheVariants as refusal

-- whether a call of the device failed
abbrev pub is_fault : Reply → Bool
is_fault (reply.Refused refusal.ReadFault) = true
is_fault (reply.Refused refusal.WriteFault) = true
is_fault (reply.Refused refusal.Missing) = false
is_fault (reply.Refused (refusal.LostEntry _)) = false
is_fault (reply.Refused (refusal.LostSlot _)) = false
is_fault (reply.Refused refusal.Exists) = false
is_fault (reply.Refused refusal.NotDirectory) = false
is_fault (reply.Refused refusal.IsDirectory) = false
is_fault (reply.Refused refusal.NotEmpty) = false
is_fault (reply.Refused refusal.BadName) = false
is_fault (reply.Refused refusal.BadRange) = false
is_fault (reply.Refused refusal.TooManyLinks) = false
is_fault (reply.Refused refusal.DirectoryFull) = false
is_fault (reply.Refused refusal.TooLarge) = false
is_fault (reply.Refused refusal.PastEnd) = false
is_fault (reply.Refused refusal.Stale) = false
is_fault (reply.Refused (refusal.Full _ _ _ _)) = false
is_fault (reply.Refused (refusal.InodesFull _ _)) = false
is_fault (reply.Refused refusal.SerialsSpent) = false
is_fault (reply.Refused refusal.Stopped) = false
is_fault (reply.Refused refusal.OutOfMemory) = false
is_fault (reply.Found _) = false
is_fault (reply.Made _ _) = false
is_fault reply.Linked = false
is_fault (reply.Dropped _) = false
is_fault reply.Renamed = false
is_fault (reply.Names _ _) = false
is_fault (reply.LostNames _) = false
is_fault reply.NoMore = false
is_fault (reply.Bytes _) = false
is_fault reply.Hole = false
is_fault reply.Lost = false
is_fault reply.Stored = false
is_fault reply.Resized = false
is_fault (reply.Stat _) = false
is_fault reply.Flushed = false
is_fault (reply.Seen _) = false

-- whether the device failed in some step
abbrev pub has_fault : List Entry1 → Bool
has_fault [] = false
has_fault (e ∷ es) = if is_fault e.reply then true else has_fault es

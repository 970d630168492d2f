-- Which replies fit a step, and what a caller has made.
use Rattle.std.specs.Prelude.{ℕ, ◌≡◌, ◌<◌, ◌≤◌, ◌^◌, ◌++◌, List, [], ◌∷◌, length, All, IsTrue, Bool, true, false}
use Rattle.std.specs.Prelude.{if◌then◌else◌}
use Rattle.nofs_dirent.specs.Names.{is_name}
use Rattle.nofs_history.specs.declared.machine.steps.Step.{Step}
use Rattle.nofs_history.specs.declared.machine.steps.Step.TheVariants as step
use Rattle.nofs_history.specs.declared.machine.replies.NameLine.{NameLine}
use Rattle.nofs_history.specs.declared.machine.replies.Reply.{Reply}
use Rattle.nofs_history.specs.declared.machine.replies.Reply.TheVariants as reply
use Rattle.nofs_history.specs.declared.machine.replies.Refusal.{Refusal}
use Rattle.nofs_history.specs.declared.machine.replies.Refusal.TheVariants as refusal

-- a step and its reply
abbrev pub Made : Type 0
Made = Step × Reply

abbrev pub is_out_of_memory : Reply → Bool
is_out_of_memory (reply.Refused refusal.OutOfMemory) = true
is_out_of_memory _ = false

-- a step that found no memory isn't added
abbrev pub with_made : List Made → Step → Reply → List Made
with_made made step reply = if is_out_of_memory reply then made else made ++ (step, reply) ∷ []

-- the numbers that a refusal keeps
abbrev pub InRange : Refusal → Type 0
InRange (refusal.Full needed free unverified next) = unverified < 2 ^ 64
InRange (refusal.InodesFull unverified next) = (unverified < 2 ^ 64) × (next < 2 ^ 32)
InRange refusal.Missing = Unit {0}
InRange (refusal.LostEntry _) = Unit {0}
InRange (refusal.LostSlot _) = Unit {0}
InRange refusal.Exists = Unit {0}
InRange refusal.NotDirectory = Unit {0}
InRange refusal.IsDirectory = Unit {0}
InRange refusal.NotEmpty = Unit {0}
InRange refusal.BadName = Unit {0}
InRange refusal.BadRange = Unit {0}
InRange refusal.TooManyLinks = Unit {0}
InRange refusal.DirectoryFull = Unit {0}
InRange refusal.TooLarge = Unit {0}
InRange refusal.PastEnd = Unit {0}
InRange refusal.Stale = Unit {0}
InRange refusal.SerialsSpent = Unit {0}
InRange refusal.ReadFault = Unit {0}
InRange refusal.WriteFault = Unit {0}
InRange refusal.Stopped = Unit {0}
InRange refusal.OutOfMemory = Unit {0}

-- what a directory's slot can list
abbrev pub IsListed : ℕ → List NameLine → Type 0
IsListed slot names = (slot < 72) × ((length names ≤ 16) × All (λ line. IsTrue (is_name line.name)) names)

-- the reply is a refusal, or has a word of its step's row
abbrev pub Fits : Step → Reply → Type 0
Fits _ (reply.Refused refusal) = InRange refusal
Fits (step.Look _ _ _) (reply.Found _) = Unit {0}
Fits (step.Make _ _ _ _) (reply.Made _ _) = Unit {0}
Fits (step.Link _ _ _ _ _) reply.Linked = Unit {0}
Fits (step.Drop _ _ _) (reply.Dropped _) = Unit {0}
Fits (step.Rename _ _ _ _) reply.Renamed = Unit {0}
Fits (step.List _ _ _) (reply.Names slot names) = IsListed slot names
Fits (step.List _ _ _) (reply.LostNames slot) = slot < 72
Fits (step.List _ _ _) reply.NoMore = Unit {0}
Fits (step.Get _ _ _) (reply.Bytes bytes) = length bytes ≡ 1024
Fits (step.Get _ _ _) reply.Hole = Unit {0}
Fits (step.Get _ _ _) reply.Lost = Unit {0}
Fits (step.Put _ _ _ _ _) reply.Stored = Unit {0}
Fits (step.Resize _ _ _) reply.Resized = Unit {0}
Fits (step.Stat _ _) (reply.Stat _) = Unit {0}
Fits (step.Flush _ _) reply.Flushed = Unit {0}
Fits (step.SeeInode _) (reply.Seen _) = Unit {0}
Fits (step.SeeBlock _) (reply.Seen _) = Unit {0}
Fits _ _ = ⊥

-- The bytes of a reply (docs/FORMAT.md, "Frames").
use Rattle.std.specs.Prelude.{ℕ, ◌<◌, List, [], ◌∷◌, ◌++◌, length, flat_map, All}
use Rattle.nofs_history.specs.declared.machine.replies.NameLine.{NameLine}
use Rattle.nofs_history.specs.declared.machine.replies.Reply.{Reply}
use Rattle.nofs_history.specs.declared.machine.replies.Reply.TheVariants as reply
use Rattle.nofs_history.specs.declared.machine.replies.Refusal.{Refusal}
use Rattle.nofs_history.specs.declared.machine.replies.Refusal.TheVariants as refusal
use Rattle.nofs_wire.specs.Frames.Fields.{number_bytes, kind_byte, truth_byte, name_bytes}

-- one line of a directory's slot: kind, whether it is dead, name
unfoldable pub line_bytes : NameLine → List ℕ
line_bytes line = kind_byte line.kind ∷ (truth_byte line.dead ∷ name_bytes line.name)

-- the number of a refusal
abbrev pub refusal_byte : Refusal → ℕ
refusal_byte refusal.Missing = 1
refusal_byte (refusal.LostEntry entry) = 2
refusal_byte (refusal.LostSlot slot) = 3
refusal_byte refusal.Exists = 4
refusal_byte refusal.NotDirectory = 5
refusal_byte refusal.IsDirectory = 6
refusal_byte refusal.NotEmpty = 7
refusal_byte refusal.BadName = 8
refusal_byte refusal.BadRange = 9
refusal_byte refusal.TooManyLinks = 10
refusal_byte refusal.DirectoryFull = 11
refusal_byte refusal.TooLarge = 12
refusal_byte refusal.PastEnd = 13
refusal_byte refusal.Stale = 14
refusal_byte (refusal.Full needed free unverified next) = 15
refusal_byte (refusal.InodesFull unverified next) = 16
refusal_byte refusal.SerialsSpent = 17
refusal_byte refusal.ReadFault = 18
refusal_byte refusal.WriteFault = 19
refusal_byte refusal.Stopped = 20
refusal_byte refusal.OutOfMemory = 21

-- the values that a refusal keeps, in their order
abbrev pub kept_bytes : Refusal → List ℕ
kept_bytes (refusal.LostEntry entry) = number_bytes 4 entry
kept_bytes (refusal.LostSlot slot) = number_bytes 8 slot
kept_bytes (refusal.Full needed free unverified next) =
    number_bytes 8 needed ++ (number_bytes 8 free ++ (number_bytes 8 unverified ++ number_bytes 8 next))
kept_bytes (refusal.InodesFull unverified next) = number_bytes 8 unverified ++ number_bytes 8 next
kept_bytes refusal.Missing = []
kept_bytes refusal.Exists = []
kept_bytes refusal.NotDirectory = []
kept_bytes refusal.IsDirectory = []
kept_bytes refusal.NotEmpty = []
kept_bytes refusal.BadName = []
kept_bytes refusal.BadRange = []
kept_bytes refusal.TooManyLinks = []
kept_bytes refusal.DirectoryFull = []
kept_bytes refusal.TooLarge = []
kept_bytes refusal.PastEnd = []
kept_bytes refusal.Stale = []
kept_bytes refusal.SerialsSpent = []
kept_bytes refusal.ReadFault = []
kept_bytes refusal.WriteFault = []
kept_bytes refusal.Stopped = []
kept_bytes refusal.OutOfMemory = []

-- the first byte of a reply: 0 where the step was accepted
abbrev pub first_byte : Reply → ℕ
first_byte (reply.Refused refusal) = refusal_byte refusal
first_byte _ = 0

-- what stands behind the first byte
unfoldable pub field_bytes : Reply → List ℕ
field_bytes (reply.Found found) =
    number_bytes 4 found.inode ++ (number_bytes 8 found.generation ++ kind_byte found.kind ∷ [])
field_bytes (reply.Made inode generation) = number_bytes 4 inode ++ number_bytes 8 generation
field_bytes (reply.Dropped removed) = truth_byte removed ∷ []
field_bytes (reply.Names slot lines) = 1 ∷ (number_bytes 8 slot ++ (length lines ∷ flat_map line_bytes lines))
field_bytes (reply.LostNames slot) = 2 ∷ number_bytes 8 slot
field_bytes reply.NoMore = 3 ∷ []
field_bytes (reply.Bytes bytes) = 1 ∷ bytes
field_bytes reply.Hole = 2 ∷ []
field_bytes reply.Lost = 3 ∷ []
field_bytes (reply.Stat stat) = kind_byte stat.kind ∷ (number_bytes 8 stat.size ++ number_bytes 4 stat.links)
field_bytes (reply.Seen used) = truth_byte used ∷ []
field_bytes (reply.Refused refusal) = kept_bytes refusal
field_bytes reply.Linked = []
field_bytes reply.Renamed = []
field_bytes reply.Stored = []
field_bytes reply.Resized = []
field_bytes reply.Flushed = []

-- the body of a reply's frame
abbrev pub body_bytes : Reply → List ℕ
body_bytes r = first_byte r ∷ field_bytes r

-- a frame: the length of its body in four bytes, and the body
unfoldable pub frame_bytes : List ℕ → List ℕ
frame_bytes body = number_bytes 4 (length body) ++ body

-- the frame of a reply
unfoldable pub reply_bytes : Reply → List ℕ
reply_bytes r = frame_bytes (body_bytes r)

-- a name whose length fits one byte
abbrev pub FitsOneByte : NameLine → Type 0
FitsOneByte line = length line.name < 256

-- the lists of a reply fit their numbers in the frame
abbrev pub HasSpelling : Reply → Type 0
HasSpelling (reply.Names slot lines) = (length lines < 256) × All FitsOneByte lines
HasSpelling (reply.Found _) = Unit {0}
HasSpelling (reply.Made _ _) = Unit {0}
HasSpelling reply.Linked = Unit {0}
HasSpelling (reply.Dropped _) = Unit {0}
HasSpelling reply.Renamed = Unit {0}
HasSpelling (reply.LostNames _) = Unit {0}
HasSpelling reply.NoMore = Unit {0}
HasSpelling (reply.Bytes _) = Unit {0}
HasSpelling reply.Hole = Unit {0}
HasSpelling reply.Lost = Unit {0}
HasSpelling reply.Stored = Unit {0}
HasSpelling reply.Resized = Unit {0}
HasSpelling (reply.Stat _) = Unit {0}
HasSpelling reply.Flushed = Unit {0}
HasSpelling (reply.Seen _) = Unit {0}
HasSpelling (reply.Refused _) = Unit {0}

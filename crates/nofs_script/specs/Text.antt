-- The text of a line.
use Rattle.std.specs.Prelude.{ℕ, List, [], ◌∷◌, ◌++◌, Bool, true, false, codes, flat_map}
use Rattle.std.specs.Fmt.{decimal}
use Rattle.hex.specs.Hex.{encode_lower}
use Rattle.nofs_history.specs.declared.machine.replies.Refusal.{Refusal}
use Rattle.nofs_history.specs.declared.machine.replies.Refusal.TheVariants as refusal
use Rattle.nofs_history.specs.declared.machine.replies.Stat.{Stat}
use Rattle.nofs_inode.specs.declared.inode.FileKind.{FileKind}
use Rattle.nofs_inode.specs.declared.inode.FileKind.TheVariants.{File, Directory}
use Rattle.nofs_client.specs.declared.task.lines.GotPart.{GotPart}
use Rattle.nofs_client.specs.declared.task.lines.GotPart.TheVariants as got
use Rattle.nofs_client.specs.declared.task.lines.ListPart.{ListPart}
use Rattle.nofs_client.specs.declared.task.lines.ListPart.TheVariants as listed
use Rattle.nofs_client.specs.declared.task.lines.Line.{Line}
use Rattle.nofs_client.specs.declared.task.lines.Line.TheVariants as line

-- the asked bytes of one slot
abbrev pub got_text : GotPart → List ℕ
got_text (got.Bytes bytes) = codes " bytes:" ++ encode_lower bytes
got_text (got.Hole n) = codes " hole:" ++ decimal n
got_text (got.Lost n) = codes " lost:" ++ decimal n

-- a name: of a file, of a directory, or of an entry that leads nowhere
abbrev pub name_text : List ℕ → FileKind → Bool → List ℕ
name_text name kind true = codes " /dead:" ++ name
name_text name File false = codes " " ++ name
name_text name Directory false = codes " " ++ name ++ codes "/"

-- one part of a list
abbrev pub listed_text : ListPart → List ℕ
listed_text (listed.Name entry) = name_text entry.name entry.kind entry.dead
listed_text (listed.Lost slot) = codes " /lost:" ++ decimal slot

-- the number of a refusal, and its words
abbrev pub refusal_words : Refusal → List ℕ
refusal_words refusal.Missing = codes "1 missing"
refusal_words (refusal.LostEntry entry) = codes "2 lost entry "
refusal_words (refusal.LostSlot slot) = codes "3 lost slot "
refusal_words refusal.Exists = codes "4 exists"
refusal_words refusal.NotDirectory = codes "5 not a directory"
refusal_words refusal.IsDirectory = codes "6 is a directory"
refusal_words refusal.NotEmpty = codes "7 not empty"
refusal_words refusal.BadName = codes "8 bad name"
refusal_words refusal.BadRange = codes "9 bad range"
refusal_words refusal.TooManyLinks = codes "10 too many links"
refusal_words refusal.DirectoryFull = codes "11 directory full"
refusal_words refusal.TooLarge = codes "12 too large"
refusal_words refusal.PastEnd = codes "13 past end"
refusal_words refusal.Stale = codes "14 stale"
refusal_words (refusal.Full needed free unverified next) = codes "15 full"
refusal_words (refusal.InodesFull unverified next) = codes "16 inodes full"
refusal_words refusal.SerialsSpent = codes "17 serials spent"
refusal_words refusal.ReadFault = codes "18 read fault"
refusal_words refusal.WriteFault = codes "19 write fault"
refusal_words refusal.Stopped = codes "20 stopped"
refusal_words refusal.OutOfMemory = codes "21 out of memory"

-- what a refusal tells beside its words
abbrev pub refusal_rest : Refusal → List ℕ
refusal_rest (refusal.LostEntry entry) = decimal entry
refusal_rest (refusal.LostSlot slot) = decimal slot
refusal_rest (refusal.Full needed free unverified next) = codes ", needed " ++ decimal needed ++ codes ", free "
    ++ decimal free ++ codes ", unchecked " ++ decimal unverified
refusal_rest (refusal.InodesFull unverified next) = codes ", unchecked " ++ decimal unverified
refusal_rest refusal.Missing = []
refusal_rest refusal.Exists = []
refusal_rest refusal.NotDirectory = []
refusal_rest refusal.IsDirectory = []
refusal_rest refusal.NotEmpty = []
refusal_rest refusal.BadName = []
refusal_rest refusal.BadRange = []
refusal_rest refusal.TooManyLinks = []
refusal_rest refusal.DirectoryFull = []
refusal_rest refusal.TooLarge = []
refusal_rest refusal.PastEnd = []
refusal_rest refusal.Stale = []
refusal_rest refusal.SerialsSpent = []
refusal_rest refusal.ReadFault = []
refusal_rest refusal.WriteFault = []
refusal_rest refusal.Stopped = []
refusal_rest refusal.OutOfMemory = []

-- a refused command
abbrev pub refused_text : Refusal → List ℕ
refused_text r = codes "refused " ++ refusal_words r ++ refusal_rest r

-- kind, size in bytes and number of names; the size of a directory is 0
abbrev pub stat_text : FileKind → Stat → List ℕ
stat_text File stat = codes "stat file " ++ decimal stat.size ++ codes " " ++ decimal stat.links
stat_text Directory stat = codes "stat dir 0 " ++ decimal stat.links

-- the text, without the line feed
abbrev pub words_text : Line → List ℕ
words_text line.Made = codes "made"
words_text (line.Put n) = codes "put " ++ decimal n
words_text (line.Got parts) = codes "got" ++ flat_map got_text parts
words_text (line.Sized n) = codes "sized " ++ decimal n
words_text (line.Stat stat) = stat_text stat.kind stat
words_text (line.Names parts) = codes "names" ++ flat_map listed_text parts
words_text line.Linked = codes "linked"
words_text line.Dropped = codes "dropped"
words_text line.Renamed = codes "renamed"
words_text line.Synced = codes "synced"
words_text line.Moved = codes "moved"
words_text (line.Refused r) = refused_text r
words_text (line.RefusedPut r stored) = refused_text r ++ codes ", stored " ++ decimal stored

-- the text of a line, which ends with one line feed
unfoldable pub text_of : Line → List ℕ
text_of l = words_text l ++ 10 ∷ []

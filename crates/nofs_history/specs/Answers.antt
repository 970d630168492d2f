-- What a step is answered where no refusal comes.
use Rattle.std.specs.Prelude.{ℕ, zero, suc, ◌-◌, ◌*◌, ◌&&◌, not, List, [], ◌∷◌, ◌++◌, Option, Some, None, if◌then◌else◌}
use Rattle.std.specs.Prelude.{count_by}
use Rattle.nofs_inode.specs.declared.inode.FileKind.{FileKind}
use Rattle.nofs_inode.specs.declared.inode.BackLink.{BackLink}
use Rattle.nofs_dirent.specs.declared.entry.Entry.{Entry}
use Rattle.nofs_inode.specs.declared.inode.FileKind.TheVariants.{File, Directory}
use Rattle.nofs_model.specs.Files.{FileState, Files, entry_at, is_pair}
use Rattle.nofs_model.specs.declared.image.value.Value.{Value}
use Rattle.nofs_model.specs.declared.image.value.Value.TheVariants.{Hole, Bytes, Lost}
use Rattle.nofs_history.specs.Search.{least_from}
use Rattle.nofs_history.specs.Machine.{generation_of, value_of, is_folder_at, is_paired, found, is_lost, is_hole}
use Rattle.nofs_history.specs.Machine.{drop_meta, link_to}
use Rattle.nofs_history.specs.Meta.{is_gone}
use Rattle.nofs_history.specs.World.{World, uses_inode, uses_block}
use Rattle.nofs_history.specs.declared.machine.history.Claims.{Claims}
use Rattle.nofs_history.specs.declared.machine.replies.NameLine.{NameLine}
use Rattle.nofs_history.specs.declared.machine.steps.Step.{Step}
use Rattle.nofs_history.specs.declared.machine.steps.Step.TheVariants as step
use Rattle.nofs_history.specs.declared.machine.replies.Reply.{Reply}
use Rattle.nofs_history.specs.declared.machine.replies.Reply.TheVariants as reply
use Rattle.nofs_history.specs.declared.machine.replies.Refusal.TheVariants as refusal

-- Look: the file of an entry
abbrev pub found_file : ℕ → Option FileState → Reply
found_file i None = reply.Refused refusal.Missing
found_file i (Some f) = reply.Found (record { inode = i; generation = f.generation; kind = f.kind })

-- the file that an entry names
abbrev pub found_entry : Files → Option Entry → Reply
found_entry F None = reply.Refused refusal.Missing
found_entry F (Some entry) = found_file entry.inode (F entry.inode)

-- what Look answers for the entry found
abbrev pub found_reply : Files → ℕ → Option ℕ → Reply
found_reply F d None = reply.Refused refusal.Missing
found_reply F d (Some e) = found_entry F (entry_at F d e)

-- Drop: whether it was the last name
abbrev pub dropped_entry : Files → BackLink → Option Entry → Reply
dropped_entry F link None = reply.Refused refusal.Missing
dropped_entry F link (Some entry) = reply.Dropped (is_gone (drop_meta F entry.inode link))

-- what Drop answers for the entry found
abbrev pub dropped_reply : Files → ℕ → Option ℕ → Reply
dropped_reply F d None = reply.Refused refusal.Missing
dropped_reply F d (Some e) = dropped_entry F (link_to d e (generation_of F d)) (entry_at F d e)

-- List: a line for each of the next n entries, with the kind of the inode that a pair names
abbrev pub kind_named : Files → ℕ → ℕ → ℕ → FileKind
kind_named F d e i = if is_paired F d e && is_folder_at F i then Directory else File

-- the line of an entry
abbrev pub line_of : Files → ℕ → ℕ → Option Entry → List NameLine
line_of F d e None = []
line_of F d e (Some entry) =
    record { name = entry.name; kind = kind_named F d e entry.inode; dead = not (is_paired F d e) } ∷ []

-- the lines of the next n entries
abbrev pub lines_from : Files → ℕ → ℕ → ℕ → List NameLine
lines_from F d e zero = []
lines_from F d e (suc n) = line_of F d e (entry_at F d e) ++ lines_from F d (suc e) n

-- the lines of slot k
unfoldable pub lines_in_slot : Files → ℕ → ℕ → List NameLine
lines_in_slot F d k = lines_from F d (16 * k) 16

-- List: the slot found
abbrev pub listed_reply : Files → ℕ → Option ℕ → Reply
listed_reply F d None = reply.NoMore
listed_reply F d (Some k) = if is_lost (value_of F d k) then reply.LostNames k else reply.Names k (lines_in_slot F d k)

-- Get
abbrev pub got_reply : Value → Reply
got_reply Hole = reply.Hole
got_reply (Bytes content) = reply.Bytes content
got_reply Lost = reply.Lost

-- Stat
abbrev pub stat_file : Files → ℕ → Option FileState → Reply
stat_file F i None = reply.Refused refusal.Stale
stat_file F i (Some f) =
    reply.Stat (record { kind = f.kind; size = f.size; links = count_by (λ link. is_pair F i link) f.links })

-- what Stat answers
abbrev pub stat_reply : Files → ℕ → Reply
stat_reply F i = stat_file F i (F i)

-- the reply of a step for which no row comes
abbrev pub reply_of : World → Step → Claims → Reply
reply_of W (step.Look d g name) claims = found_reply W.files d (found W.files d name)
reply_of W (step.Make d g name kind) claims = reply.Made claims.inode claims.generation
reply_of W (step.Link d g name i of) claims = reply.Linked
reply_of W (step.Drop d g name) claims = dropped_reply W.files d (found W.files d name)
reply_of W (step.Rename d g old new) claims = reply.Renamed
reply_of W (step.List d g k) claims =
    listed_reply W.files d (least_from (λ l. not (is_hole (value_of W.files d l))) k (72 - k))
reply_of W (step.Get i g k) claims = got_reply (value_of W.files i k)
reply_of W (step.Put i g k at bytes) claims = reply.Stored
reply_of W (step.Resize i g size) claims = reply.Resized
reply_of W (step.Stat i g) claims = stat_reply W.files i
reply_of W (step.Flush i g) claims = reply.Flushed
reply_of W (step.SeeInode i) claims = reply.Seen (uses_inode W i)
reply_of W (step.SeeBlock p) claims = reply.Seen (uses_block W p)

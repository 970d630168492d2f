-- What each step gives, where it is accepted: values to slots, and what is known of files beside their content.
use Rattle.std.specs.Prelude.{ℕ, zero, suc, ◌+◌, ◌-◌, ◌*◌, ◌/◌, ◌%◌, min, max, Bool, true, false, ◌&&◌, ◌||◌, not, List}
use Rattle.std.specs.Prelude.{[], ◌∷◌, ◌++◌, length, take, drop}
use Rattle.std.specs.Prelude.{replicate, map, Option, Some, None, is_some, option_map, if◌then◌else◌, nat_lt, nat_le}
use Rattle.std.specs.Prelude.{◌==◌, bytes_eq, unwrap_or}
use Rattle.std.specs.List.{list_any}
use Rattle.nofs_disk.specs.Number.{put_bytes}
use Rattle.nofs_inode.specs.declared.inode.FileKind.{FileKind}
use Rattle.nofs_inode.specs.declared.inode.FileKind.TheVariants.{File}
use Rattle.nofs_inode.specs.declared.inode.BackLink.{BackLink}
use Rattle.nofs_inode.specs.InodeRecords.{is_empty_link}
use Rattle.nofs_ptrs.specs.Paths.{slot_limit, Path, InRecord, Under, path_of}
use Rattle.nofs_dirent.specs.Entries.{spelled_entry, entry_limit}
use Rattle.nofs_model.specs.Files.{NodeState, Absent, Present, FileState, Files, is_folder, entry_at, is_pair}
use Rattle.nofs_model.specs.Files.{links_of, is_special}
use Rattle.nofs_model.specs.declared.image.value.Value.{Value}
use Rattle.nofs_model.specs.declared.image.value.Value.TheVariants.{Hole, Bytes, Lost}
use Rattle.nofs_history.specs.Meta.{Meta, Gone, Is, is_bytes}
use Rattle.nofs_history.specs.Search.{least_from, first_of}
use Rattle.nofs_history.specs.declared.machine.history.Claims.{Claims}
use Rattle.nofs_history.specs.declared.machine.history.Entry1.{Entry1}
use Rattle.nofs_history.specs.declared.machine.steps.Step.{Step}
use Rattle.nofs_history.specs.declared.machine.steps.Step.TheVariants as step
use Rattle.nofs_history.specs.declared.machine.replies.Reply.{Reply}
use Rattle.nofs_history.specs.declared.machine.replies.Reply.TheVariants as reply
use Rattle.nofs_history.specs.declared.machine.replies.Refusal.TheVariants as refusal

-- Names in files

-- the back link to entry e of directory d of this generation
abbrev pub link_to : ℕ → ℕ → ℕ → BackLink
link_to d e g = record { directory = d; entry = e; generation = g }

-- whether two back links are the same
abbrev pub same_link : BackLink → BackLink → Bool
same_link a b = (a.directory == b.directory) && ((a.entry == b.entry) && (a.generation == b.generation))

-- the generation of a file, 0 where there is none
abbrev pub generation_of : Files → ℕ → ℕ
generation_of F i = elim (F i) [ None ↦ 0 | Some f ↦ f.generation ]

-- the value of a slot, a hole where there is no file
abbrev pub value_of : Files → ℕ → ℕ → Value
value_of F i k = elim (F i) [ None ↦ Hole | Some f ↦ f.values k ]

-- the size of a file in bytes, 0 where there is none
abbrev pub size_of : Files → ℕ → ℕ
size_of F i = elim (F i) [ None ↦ 0 | Some f ↦ f.size ]

-- the state of a block of pointers
abbrev pub node_of : Files → ℕ → Path → NodeState
node_of F i path = elim (F i) [ None ↦ Absent | Some f ↦ f.nodes path ]

-- whether it is a directory
abbrev pub is_folder_at : Files → ℕ → Bool
is_folder_at F i = elim (F i) [ None ↦ false | Some f ↦ is_folder f.kind ]

-- entry e of directory d is the other half of a back link
abbrev pub is_paired : Files → ℕ → ℕ → Bool
is_paired F d e = elim (entry_at F d e) [
  | None ↦ false
  | Some entry ↦ list_any (λ link. same_link link (link_to d e (generation_of F d)) && is_pair F entry.inode link)
      (links_of F entry.inode)
]

-- whether entry e of directory d has this name
abbrev pub entry_has_name : Files → ℕ → List ℕ → ℕ → Bool
entry_has_name F d name e = elim (entry_at F d e) [ None ↦ false | Some entry ↦ bytes_eq entry.name name ]

-- the entry that a name finds
unfoldable pub found : Files → ℕ → List ℕ → Option ℕ
found F d name = least_from (λ e. entry_has_name F d name e && is_paired F d e) 0 entry_limit

-- the least entry of the name that is no pair
unfoldable pub first_dead : Files → ℕ → List ℕ → Option ℕ
first_dead F d name = least_from (λ e. entry_has_name F d name e && not (is_paired F d e)) 0 entry_limit

-- whether a value is lost
abbrev pub is_lost : Value → Bool
is_lost Lost = true
is_lost Hole = false
is_lost (Bytes content) = false

-- whether it is a hole
abbrev pub is_hole : Value → Bool
is_hole Hole = true
is_hole Lost = false
is_hole (Bytes content) = false

-- the least slot of a directory that is lost
unfoldable pub first_lost_slot : Files → ℕ → Option ℕ
first_lost_slot F d = least_from (λ k. is_lost (value_of F d k)) 0 72

-- where a new entry goes
unfoldable pub place_for : Files → ℕ → List ℕ → Option ℕ
place_for F d name = first_of (
    first_dead F d name
    ∷ least_from (λ e. is_bytes (value_of F d (e / 16)) && not (is_some (entry_at F d e))) 0 entry_limit
    ∷ option_map (λ k. 16 * k) (least_from (λ k. is_hole (value_of F d k)) 0 72)
    ∷ [])

-- where a new back link goes
abbrev pub place_for_link : (BackLink → Bool) → List BackLink → ℕ → Option ℕ
place_for_link test [] b = None
place_for_link test (link ∷ links) b = if test link then Some b else place_for_link test links (suc b)

unfoldable pub link_place : Files → ℕ → Option ℕ
link_place F i = if i == 2 then None
    else first_of (place_for_link is_empty_link (links_of F i) 0 ∷ place_for_link (λ link. not (is_pair F i link))
    (links_of F i) 0 ∷ [])

-- Contents

-- how many slots a size reaches into
abbrev pub slots_in : ℕ → ℕ
slots_in size = (size + 1023) / 1024

-- this many zeros
abbrev pub zero_bytes : ℕ → List ℕ
zero_bytes n = replicate n 0

-- the bytes of a value, zeros where it has none
abbrev pub bytes_in : Value → List ℕ
bytes_in (Bytes content) = content
bytes_in Hole = zero_bytes 1024
bytes_in Lost = zero_bytes 1024

-- how many bytes of slot k lie below the size
abbrev pub cut_of : ℕ → ℕ → ℕ
cut_of size k = min 1024 (size - 1024 * k)

-- zeros from a place on
unfoldable pub trimmed : ℕ → List ℕ → List ℕ
trimmed cut content = take cut content ++ replicate (1024 - cut) 0

-- a value with zeros from a place on
abbrev pub trimmed_value : ℕ → Value → Value
trimmed_value cut (Bytes content) = Bytes (trimmed cut content)
trimmed_value cut Hole = Hole
trimmed_value cut Lost = Lost

-- the content of slot k with these bytes in it: zeros past the size
unfoldable pub put_content : Value → ℕ → ℕ → ℕ → List ℕ → List ℕ
put_content old size k at bytes = put_bytes at bytes (trimmed (cut_of size k) (bytes_in old))

-- the cell with these 64 bytes in place of entry e
unfoldable pub with_entry : Value → ℕ → List ℕ → Value
with_entry old e bytes =
    Bytes (take (64 * (e % 16)) (bytes_in old) ++ bytes ++ drop (64 * (e % 16) + 64) (bytes_in old))

-- What a step gives, where it is accepted: values to slots, states to pointer blocks, and metas

pub record Given : Type 0 where
  -- the generation of an inode that the step makes
  pub born : ℕ → Option ℕ
  pub slots : ℕ → ℕ → ℕ → Option Value
  pub nodes : ℕ → ℕ → Path → Option NodeState
  pub metas : ℕ → ℕ → Option Meta

-- what a step gives that changes no file
abbrev pub nothing : Given
nothing = record { born = λ i. None; slots = λ i g k. None; nodes = λ i g path. None; metas = λ i g. None }

-- whether this is generation g of inode i
abbrev pub is_at : ℕ → ℕ → ℕ → ℕ → Bool
is_at i g j h = (i == j) && (g == h)

-- the pointer blocks above a slot, as a test
abbrev pub same_path : Path → Path → Bool
same_path (InRecord a) (InRecord b) = a == b
same_path (Under a n) (Under b k) = same_path a b && (n == k)
same_path (InRecord a) (Under b k) = false
same_path (Under a n) (InRecord b) = false

-- whether the block of pointers at the first path lies above the slot at the second
abbrev pub lies_above : Path → Path → Bool
lies_above a (InRecord n) = false
lies_above a (Under b n) = same_path a b || lies_above a b

-- a cell goes to slot k of (i, g), and the pointer blocks above it are there
abbrev pub cell_given : ℕ → ℕ → ℕ → Value → (ℕ → ℕ → Option Meta) → Given
cell_given i g k v metas = record {
  born = λ j. None;
  slots = λ j h l. if is_at i g j h && (k == l) then Some v else None;
  nodes = λ j h path. if is_at i g j h && lies_above path (path_of k) then Some Present else None;
  metas = metas;
}

-- a meta goes to (i, g)
abbrev pub meta_given : ℕ → ℕ → Meta → ℕ → ℕ → Option Meta
meta_given i g meta j h = if is_at i g j h then Some meta else None

-- no meta goes anywhere
abbrev pub no_meta : ℕ → ℕ → Option Meta
no_meta j h = None

-- the meta of a file with a change, or none where there is no file
abbrev pub meta_with : Files → ℕ → (FileState → Meta) → Meta
meta_with F i change = elim (F i) [ None ↦ Gone | Some f ↦ change f ]

-- Put: the new content to its slot, and the size
abbrev pub put_given : Files → ℕ → ℕ → ℕ → ℕ → List ℕ → Given
put_given F i g k at bytes = cell_given i g k (Bytes (put_content (value_of F i k) (size_of F i) k at bytes))
    (meta_given i g (meta_with F i (λ f. Is f.kind (max f.size (1024 * k + at + length bytes)) f.links)))

-- the slots from m on become holes; where the file does not shrink, the last one has zeros past the old end
abbrev pub resize_slot : Files → ℕ → ℕ → ℕ → Option Value
resize_slot F i size k =
    let old : ℕ = size_of F i in
    let m : ℕ = min (slots_in old) (slots_in size) in
    if nat_le m k then (if nat_lt k slot_limit then Some Hole else None) else
    (if nat_le old size && ((k + 1 == m) && (not (old % 1024 == 0) && is_bytes (value_of F i k)))
    then Some (Bytes (take (old % 1024) (bytes_in (value_of F i k)) ++ zero_bytes (1024 - old % 1024))) else None)

-- Resize: which blocks of pointers go, where the file is cut to m slots
abbrev pub resize_node : ℕ → Path → Option NodeState
resize_node m (InRecord n) = if n == 8 then (if nat_le m 8 then Some Absent else None)
    else (if nat_le m 72 then Some Absent else None)
resize_node m (Under above j) = if nat_le m (72 + 64 * j) then Some Absent else None

-- Resize: holes from the cut on, zeros behind the old end, and the size
abbrev pub resize_given : Files → ℕ → ℕ → ℕ → Given
resize_given F i g size = record {
  born = λ j. None;
  slots = λ j h k. if is_at i g j h then resize_slot F i size k else None;
  nodes = λ j h path. if is_at i g j h then resize_node (min (slots_in (size_of F i)) (slots_in size)) path else None;
  metas = meta_given i g (meta_with F i (λ f. Is f.kind size f.links));
}

-- entry e of directory (d, g) gets these 64 bytes
abbrev pub entry_given : Files → ℕ → ℕ → ℕ → List ℕ → (ℕ → ℕ → Option Meta) → Given
entry_given F d g e bytes metas = cell_given d g (e / 16) (with_entry (value_of F d (e / 16)) e bytes) metas

-- Make: the entry, holes to the new inode, its meta, and nothing left of other generations
abbrev pub make_given : Files → ℕ → ℕ → List ℕ → FileKind → Claims → ℕ → Given
make_given F d g name kind claims e =
    let base : Given = entry_given F d g e (spelled_entry claims.inode claims.generation name) no_meta in
    record {
      born = λ j. if j == claims.inode then Some claims.generation else None;
      slots = λ j h k. if is_at claims.inode claims.generation j h then Some Hole else base.slots j h k;
      nodes = base.nodes;
      metas = λ j h. if j == claims.inode then Some (if h == claims.generation then Is kind 0
          (link_to d e g ∷ link_to 0 0 0 ∷ link_to 0 0 0 ∷ link_to 0 0 0 ∷ []) else Gone) else None;
    }

-- these links with another one in place b
abbrev pub set_link : List BackLink → ℕ → BackLink → List BackLink
set_link [] b link = []
set_link (old ∷ links) zero link = link ∷ links
set_link (old ∷ links) (suc b) link = old ∷ set_link links b link

-- Link: the entry, and the back link
abbrev pub link_given : Files → ℕ → ℕ → List ℕ → ℕ → ℕ → ℕ → ℕ → Given
link_given F d g name i of e b = entry_given F d g e (spelled_entry i of name)
    (meta_given i of (meta_with F i (λ f. Is f.kind f.size (set_link f.links b (link_to d e g)))))

-- each place of the link is cleared
abbrev pub without_link : BackLink → List BackLink → List BackLink
without_link link links = map (λ l. if same_link l link then link_to 0 0 0 else l) links

-- Drop: the meta without the link, or none where no pair is left
abbrev pub drop_meta : Files → ℕ → BackLink → Meta
drop_meta F i link = meta_with F i (λ f.
    let links : List BackLink = without_link link f.links in
    if not (is_special i) && not (list_any (λ l. is_pair F i l) links) then Gone else Is f.kind f.size links)

-- Drop: the entry cleared, and the meta
abbrev pub drop_given : Files → ℕ → ℕ → ℕ → Given
drop_given F d g e = elim (entry_at F d e) [
  | None ↦ nothing
  | Some entry ↦ entry_given F d g e (zero_bytes 64)
      (meta_given entry.inode entry.generation (drop_meta F entry.inode (link_to d e g)))
]

-- Rename: the entry with the new name
abbrev pub rename_given : Files → ℕ → ℕ → List ℕ → ℕ → Given
rename_given F d g name e = elim (entry_at F d e) [
  | None ↦ nothing
  | Some entry ↦ entry_given F d g e (spelled_entry entry.inode entry.generation name) no_meta
]

-- what is given where there is a place for it
abbrev pub at_place : Option ℕ → (ℕ → Given) → Given
at_place None f = nothing
at_place (Some e) f = f e

-- what a step gives, by the files before it and its claims
unfoldable pub gives : Files → Step → Claims → Given
gives F (step.Put i g k at bytes) claims = put_given F i g k at bytes
gives F (step.Resize i g size) claims = resize_given F i g size
gives F (step.Make d g name kind) claims = at_place (place_for F d name) (λ e. make_given F d g name kind claims e)
gives F (step.Link d g name i of) claims =
    at_place (place_for F d name) (λ e. at_place (link_place F i) (λ b. link_given F d g name i of e b))
gives F (step.Drop d g name) claims = at_place (found F d name) (λ e. drop_given F d g e)
gives F (step.Rename d g old new) claims = at_place (found F d old) (λ e. rename_given F d g new e)
gives F (step.Look _ _ _) claims = nothing
gives F (step.List _ _ _) claims = nothing
gives F (step.Get _ _ _) claims = nothing
gives F (step.Stat _ _) claims = nothing
gives F (step.Flush _ _) claims = nothing
gives F (step.SeeInode _) claims = nothing
gives F (step.SeeBlock _) claims = nothing

-- The files after a step

-- a file with this meta, or none where it is gone
abbrev pub with_meta : FileState → Meta → Option FileState
with_meta f Gone = None
with_meta f (Is kind size links) = Some
    (record { generation = f.generation; kind = kind; size = size; links = links; values = f.values; nodes = f.nodes })

-- a file with the values and the blocks of pointers that are given to it
abbrev pub filled : Given → ℕ → FileState → FileState
filled given i f = record {
  generation = f.generation;
  kind = f.kind;
  size = f.size;
  links = f.links;
  values = λ k. unwrap_or (given.slots i f.generation k) (f.values k);
  nodes = λ path. unwrap_or (given.nodes i f.generation path) (f.nodes path);
}

-- a file with the meta that is given to it, where one is
abbrev pub after_meta : Option Meta → FileState → Option FileState
after_meta None f = Some f
after_meta (Some meta) f = with_meta f meta

-- a file after what is given to it
abbrev pub file_after : Given → ℕ → Option FileState → Option FileState
file_after given i None = None
file_after given i (Some f) = after_meta (given.metas i f.generation) (filled given i f)

-- a file that a step makes, before its meta
abbrev pub new_file : ℕ → FileState
new_file g = record { generation = g; kind = File; size = 0; links = []; values = λ k. Hole; nodes = λ path. Absent }

-- the file that a step makes in place of an old one
abbrev pub born_file : Option ℕ → Option FileState → Option FileState
born_file None old = old
born_file (Some g) old = Some (new_file g)

-- all files after what is given
abbrev pub files_after : Files → Given → Files
files_after F given i = file_after given i (born_file (given.born i) (F i))

-- Replies that accept, and those after which a step may have been done

-- whether a reply refuses
abbrev pub is_refused : Reply → Bool
is_refused (reply.Refused _) = true
is_refused _ = false

-- whether a write or flush failed
abbrev pub is_write_fault : Reply → Bool
is_write_fault (reply.Refused refusal.WriteFault) = true
is_write_fault _ = false

-- whether a step was done, or may have been
abbrev pub may_give : Reply → Bool
may_give reply = not (is_refused reply) || is_write_fault reply

-- what an entry of the history gives
abbrev pub given_by : Files → Entry1 → Given
given_by F e = if may_give e.reply then gives F e.step e.claims else nothing

-- the files after an entry of the history
abbrev pub files_by : Files → Entry1 → Files
files_by F e = if is_refused e.reply then F else files_after F (gives F e.step e.claims)

-- The durable move of a file from a name in one directory to a name in another, as it stands among the entries of a
-- history.
--
-- A caller looks the file up under its old name, flushes, links the file under its new name, flushes again, and drops
-- the old name. Other callers' entries may stand between these. From the first flush on one of the two names finds the
-- file in every image that a crash may leave.
use Rattle.std.specs.Prelude.{◌≡◌, ◌≢◌, ℕ, ◌/◌, ◌<◌, ◌≤◌, ◌⊎◌, List, [], ◌∷◌, ◌++◌, Some, slice_get}
use Rattle.nofs_inode.specs.declared.inode.FileKind.{FileKind}
use Rattle.nofs_dirent.specs.declared.entry.Entry.{Entry}
use Rattle.nofs_model.specs.Geometry.{Image}
use Rattle.nofs_model.specs.Files.{entry_held, entry_at}
use Rattle.nofs_model.specs.declared.image.value.Value.{Value}
use Rattle.nofs_history.specs.Machine.{Given, found, place_for, given_by}
use Rattle.nofs_history.specs.HistoryState.{HistoryState}
use Rattle.nofs_history.specs.Allowed.{IsAllowed}
use Rattle.nofs_history.specs.declared.machine.history.Entry1.{Entry1}
use Rattle.nofs_history.specs.declared.machine.steps.Step.{Step}
use Rattle.nofs_history.specs.declared.machine.steps.Step.TheVariants as step
use Rattle.nofs_history.specs.declared.machine.replies.Reply.TheVariants as reply
use Rattle.nofs_crashlaw.specs.Runs.Bases.{IsHistory}
use Rattle.nofs_crashlaw.specs.Runs.Laws.{files_before}
use Rattle.nofs_crashlaw.specs.Paths.Names.{Finds}

-- the entry at place p has this step
pub record HasStep (H : List Entry1) (p : ℕ) (step : Step) : Type 0 where
  pub entry : Entry1
  pub there : slice_get H p ≡ Some entry
  pub is : entry.step ≡ step

-- it ended a flush that succeeded
pub record HasFlush (H : List Entry1) (p : ℕ) : Type 0 where
  pub entry : Entry1
  pub there : slice_get H p ≡ Some entry
  pub flushed : entry.reply ≡ reply.Flushed

-- where a cell is given to the slot of entry e of directory (d, g), it has this entry there
abbrev pub KeepsEntry : Given → ℕ → ℕ → ℕ → Entry → Type 0
KeepsEntry given d g e entry = (v : Value) → given.slots d g (e / 16) ≡ Some v → entry_held v e ≡ Some entry

-- the file (i, g) by this name
abbrev pub named_entry : ℕ → ℕ → List ℕ → Entry
named_entry i g name = record { inode = i; generation = g; name = name }

-- The entries of a move of (i, g) from `name` in (d, dg) to `new` in (d2, dg2): look, flush, link, and, where it came,
-- drop
pub record IsMove (B : Image) (H : List Entry1) (d dg : ℕ) (name : List ℕ) (d2 dg2 : ℕ) (new : List ℕ)
    (i g : ℕ) : Type 0 where
  -- the places of these entries in the history. Where Drop has not come, `drop` is past `last`, to which the move is
  -- looked at
  pub look : ℕ
  pub flush : ℕ
  pub link : ℕ
  pub drop : ℕ
  pub last : ℕ
  pub flush_after : look < flush
  pub link_after : flush < link
  pub link_by_last : link ≤ last
  -- Look found the file, the first flush succeeded, and Link was accepted
  pub looked : HasStep H look (step.Look d dg name)
  pub kind : FileKind
  pub finds : looked.entry.reply ≡ reply.Found (record { inode = i; generation = g; kind = kind })
  pub flushed : HasFlush H flush
  pub linking : HasStep H link (step.Link d2 dg2 new i g)
  pub linked : linking.entry.reply ≡ reply.Linked
  -- the found entry, and where the new one goes
  pub old_place : ℕ
  pub old_entry : Entry
  pub is_old : found (files_before B H look) d name ≡ Some old_place
  pub is_entry : entry_at (files_before B H look) d old_place ≡ Some old_entry
  pub new_place : ℕ
  pub is_new : place_for (files_before B H link) d2 new ≡ Some new_place
  -- up to the last, no other entry between Look and Drop gives a cell in which the found entry is changed, and none
  -- after Link one in which the new one is. (What an entry gives counts where it ended in WriteFault, too. Other names
  -- of i may come and go: they leave the places of these two names in its record.)
  pub old_stays : (p : ℕ) (e : Entry1) → look < p → p ≤ last → p ≢ link → p < drop → slice_get H p ≡ Some e
      → KeepsEntry (given_by (files_before B H p) e) d dg old_place old_entry
  pub new_stays : (p : ℕ) (e : Entry1) → link < p → p ≤ last → p ≢ drop → slice_get H p ≡ Some e
      → KeepsEntry (given_by (files_before B H p) e) d2 dg2 new_place (named_entry i g new)

-- the second flush succeeded, and Drop came after it, whatever it was answered
pub record HasDrop (H : List Entry1) (link drop d dg : ℕ) (name : List ℕ) : Type 0 where
  pub second : ℕ
  pub after_link : link < second
  pub before_drop : second < drop
  pub flushed : HasFlush H second
  pub dropping : HasStep H drop (step.Drop d dg name)

-- Drop has not come by the last entry, or comes after the second flush, which succeeded
abbrev pub DropIsLate : List Entry1 → ℕ → ℕ → ℕ → ℕ → ℕ → List ℕ → Type 0
DropIsLate H link drop last d dg name = (last < drop) ⊎ HasDrop H link drop d dg name

-- From the end of the first flush to the end of the last entry the file is found under its old name or under its new
-- one.
abbrev pub LawMove : Type 0
LawMove = (B : Image) (H : HistoryState) (d dg : ℕ) (name : List ℕ) (d2 dg2 : ℕ) (new : List ℕ) (i g : ℕ)
    → IsHistory B H → (move : IsMove B H.entries d dg name d2 dg2 new i g)
    → DropIsLate H.entries move.link move.drop move.last d dg name
    → (e : Entry1) → slice_get H.entries move.last ≡ Some e
    → (m : ℕ) → move.flushed.entry.to ≤ m → m ≤ e.to → (X : Image) → IsAllowed B H.entries m X
    → Finds X d dg name i g ⊎ Finds X d2 dg2 new i g

-- From the end of the second flush on, and so at the end of Drop, it is found under its new name.
abbrev pub LawMoved : Type 0
LawMoved = (B : Image) (H : HistoryState) (d dg : ℕ) (name : List ℕ) (d2 dg2 : ℕ) (new : List ℕ) (i g : ℕ)
    → IsHistory B H
    → (move : IsMove B H.entries d dg name d2 dg2 new i g) → (done : HasDrop H.entries move.link move.drop d dg name)
    → (e : Entry1) → slice_get H.entries move.last ≡ Some e
    → (m : ℕ) → done.flushed.entry.to ≤ m → m ≤ e.to → (X : Image) → IsAllowed B H.entries m X
    → Finds X d2 dg2 new i g

-- these five entries end the history: a move without another entry between its own, whose Look found (i, g), and whose
-- flushes and Link were accepted
pub record IsAlone (H : List Entry1) (d dg : ℕ) (name : List ℕ) (d2 dg2 : ℕ) (new : List ℕ) (i g : ℕ)
    (kind : FileKind) : Type 0 where
  pub before : List Entry1
  pub look : Entry1
  pub first : Entry1
  pub link : Entry1
  pub second : Entry1
  pub drop : Entry1
  pub parts : H ≡ before ++ look ∷ first ∷ link ∷ second ∷ drop ∷ []
  pub looks : look.step ≡ step.Look d dg name
  pub finds : look.reply ≡ reply.Found (record { inode = i; generation = g; kind = kind })
  pub flushes : first.reply ≡ reply.Flushed
  pub links : link.step ≡ step.Link d2 dg2 new i g
  pub linked : link.reply ≡ reply.Linked
  pub flushes_again : second.reply ≡ reply.Flushed
  pub drops : drop.step ≡ step.Drop d dg name

-- Such a move is one of which the laws speak: where no other entry comes, nothing is asked of any.
abbrev pub LawAlone : Type 0
LawAlone = (B : Image) (H : HistoryState) (d dg : ℕ) (name : List ℕ) (d2 dg2 : ℕ) (new : List ℕ) (i g : ℕ)
    (kind : FileKind)
    → IsHistory B H → (alone : IsAlone H.entries d dg name d2 dg2 new i g kind)
    → (move : IsMove B H.entries d dg name d2 dg2 new i g) × HasDrop H.entries move.link move.drop d dg name
    × (slice_get H.entries move.last ≡ Some alone.drop)

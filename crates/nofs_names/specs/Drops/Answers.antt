-- What Drop answers, whether what it finds may go, and what it asks of its writes.
use Rattle.std.specs.Prelude.{◌≡◌, ◌≤◌, ◌/◌, ◌%◌, false, IsTrue, ℕ, Bool, ◌&&◌, List, [], ◌∷◌, Option, is_some, Result}
use Rattle.std.specs.Prelude.{Ok, Err, IfErr, OnOk}
use Rattle.nofs_dirent.specs.Entries.{entry_limit}
use Rattle.nofs_disk.specs.Disk.{DiskState, StaysButFaults}
use Rattle.nofs_history.specs.Claims.{no_claims}
use Rattle.nofs_history.specs.Search.{least_from}
use Rattle.nofs_history.specs.Machine.{is_folder_at, is_paired}
use Rattle.nofs_history.specs.World.{World}
use Rattle.nofs_history.specs.Refusals.{row}
use Rattle.nofs_history.specs.declared.machine.replies.Refusal.{Refusal}
use Rattle.nofs_history.specs.declared.machine.replies.Refusal.TheVariants as refusal
use Rattle.nofs_history.specs.declared.machine.replies.Reply.{Reply}
use Rattle.nofs_history.specs.declared.machine.replies.Reply.TheVariants as reply
use Rattle.nofs_history.specs.declared.machine.steps.Step.TheVariants as step
use Rattle.nofs_disk.specs.declared.tag.Cell.{Cell}
use Rattle.nofs_disk.specs.declared.tag.Pointer.{Pointer}
use Rattle.nofs_inode.specs.declared.inode.Record.{Record}
use Rattle.nofs_ptrs.specs.Paths.{path_of}
use Rattle.nofs_model.specs.Slots.{find}
use Rattle.nofs_model.specs.Places.{InArea}
use Rattle.nofs_model.specs.declared.image.path.PathAnswer.TheVariants as answer
use Rattle.nofs_agree.specs.Reads.{KnowsDirectory}
use Rattle.nofs_state.specs.Books.Maps.{IsSafe}
use Rattle.nofs_state.specs.Cores.Steps.{Goes}
use Rattle.nofs_state.specs.declared.books.maps.Books.{Books}
use Rattle.nofs_names.specs.Searches.Slots.{KnowsPaired}
use Rattle.nofs_names.specs.Searches.Refusals.{Fails, IsThere, KnownTrue}
use Rattle.nofs_names.specs.Renames.Parts.{FoundIn}
use Rattle.nofs_state.specs.Writes.Premises.{RowsPass}
use Rattle.nofs_names.specs.Drops.Parts.{ClearedIn, HasNoNames}
use Rattle.nofs_names.specs.declared.searches.directories.NameIn.{NameIn}
use Rattle.nofs_names.specs.declared.searches.slots.Paired.{Paired}
use Rattle.nofs_names.specs.declared.drops.steps.Cleared.{Cleared}

abbrev pub drop_answer : Result Bool Refusal → Reply
drop_answer (Ok removed) = reply.Dropped removed
drop_answer (Err why) = reply.Refused why

-- the row of a directory with a name of a file
abbrev pub filled_rows : ℕ → World → List (Option Refusal)
filled_rows i W = row (is_folder_at W.files i && is_some (least_from (λ e. is_paired W.files i e) 0 entry_limit))
    refusal.NotEmpty ∷ []

pub record FindsEmpty (old new : DiskState) (i : ℕ) (result : Result (Unit {0}) Refusal) : Type 0 where
  pub stays : StaysButFaults old new
  pub no_fault : OnOk result (new.faults ≡ old.faults)
  pub none : OnOk result (HasNoNames old i)
  pub refused : IfErr result (Fails old new (IsThere i) (filled_rows i))

-- an entry was found that may be taken away
pub record MayDrop (d : DiskState) (k : Books) (i g : ℕ) (name : List ℕ) (r : Record) (q : Paired) : Type 0 where
  pub directory : KnowsDirectory d k.at i r.generation r
  pub generation : r.generation ≡ g
  pub there : IsTrue d.tells → KnownTrue k d.now → IsThere i d.now
  pub known : KnowsPaired d k.at q
  pub found : FoundIn d i name q
  pub no_names : HasNoNames d q.inode
  pub rows : RowsPass d k (step.Drop i g name)

-- what a Drop leaves, and answers
abbrev pub DropGoes : DiskState → Books → DiskState → Books → NameIn → Reply → Type 0
DropGoes old k new l at r = Goes old k new l (step.Drop at.directory at.generation at.name.now) no_claims r

-- the cell of its slot, without it
pub record ClearsEntry (d : DiskState) (k : Books) (i : ℕ) (q : Paired) (x : Pointer) (c : Cell) : Type 0 where
  pub area : InArea k.at (answer.Holds x)
  pub held : IsTrue d.tells → find d.now i (path_of (q.entry / 16)) ≡ answer.Holds x
  pub cleared : ClearedIn d x (q.entry % 16) c

-- what a Drop stands on when it writes
pub record IsCleared (d : DiskState) (k : Books) (it : Cleared) : Type 0 where
  pub safe : IsSafe d k
  pub spare : 2 ≤ d.spare
  pub going : k.stopped ≡ false
  pub finds : MayDrop d k it.pair.at.directory it.pair.at.generation it.pair.at.name.now it.pair.it it.pair.found
  pub clears : ClearsEntry d k it.pair.at.directory it.pair.found it.pointer it.cell

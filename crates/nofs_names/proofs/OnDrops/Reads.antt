-- What a Drop found of a disk stands after more reads.
use Rattle.std.proofs.Common.{◌≡◌, ℕ, ◌/◌, ◌*◌, ◌%◌, Bool, List, length, IsTrue, sym, subst}
use Rattle.nofs_disk.specs.Disk.{DiskState, StaysButFaults, cell_at}
use Rattle.nofs_disk.specs.Number.{put_bytes, zeros}
use Rattle.nofs_disk.specs.declared.tag.Cell.{Cell}
use Rattle.nofs_disk.specs.declared.tag.Pointer.{Pointer}
use Rattle.nofs_inode.specs.declared.inode.Record.{Record}
use Rattle.nofs_model.specs.Geometry.{Image}
use Rattle.nofs_model.specs.Files.{Files}
use Rattle.nofs_ptrs.specs.Paths.{path_of}
use Rattle.nofs_model.specs.Slots.{find}
use Rattle.nofs_model.specs.declared.image.path.PathAnswer.TheVariants as answer
use Rattle.nofs_history.specs.History.{FilesMatch}
use Rattle.nofs_history.specs.declared.machine.steps.Step.TheVariants as step
use Rattle.nofs_history.specs.Machine.{drop_meta, link_to}
use Rattle.nofs_history.specs.Meta.{is_gone}
use Rattle.nofs_state.specs.declared.books.maps.Books.{Books}
use Rattle.nofs_names.specs.Searches.Refusals.{KnownTrue}
use Rattle.nofs_names.specs.declared.searches.slots.Paired.{Paired}
use Rattle.nofs_names.specs.Drops.Answers.{ClearsEntry, MayDrop}
use Rattle.nofs_names.proofs.OnSteps.Reads.{directory-on, there-on, paired-on, found-on, no-names-on, rows-on}

module _ (old new : DiskState) (stays : StaysButFaults old new) where
  back : IsTrue new.tells → IsTrue old.tells
  back t = subst (λ (b : Bool). IsTrue b) stays.disk.tells t

  now : old.now ≡ new.now
  now = sym stays.cells.now

  pub gone-on : (k : Books) (d g : ℕ) (q : Paired) (b : Bool)
      → (IsTrue old.tells → KnownTrue k old.now → (F : Files) → FilesMatch F old.now
      → is_gone (drop_meta F q.inode (link_to d q.entry g)) ≡ b)
      → IsTrue new.tells → KnownTrue k new.now → (F : Files) → FilesMatch F new.now
      → is_gone (drop_meta F q.inode (link_to d q.entry g)) ≡ b
  gone-on k d g q b gone t all F m = gone (back t) (subst (λ (X : Image). KnownTrue k X) stays.cells.now all) F
      (subst (λ (X : Image). FilesMatch F X) stays.cells.now m)

  pub may-on : (k : Books) (d g : ℕ) (name : List ℕ) (r : Record) (q : Paired) → MayDrop old k d g name r q
      → MayDrop new k d g name r q
  may-on k d g name r q m = record {
    directory = directory-on old new stays k.at d r.generation r m.directory;
    generation = m.generation;
    there = there-on old new stays k d m.there;
    known = paired-on old new stays k.at q m.known;
    found = found-on old new stays d name q m.found;
    no_names = no-names-on old new stays q.inode m.no_names;
    rows = rows-on old new stays k (step.Drop d g name) m.rows;
  }

  pub held-on : (d slot : ℕ) (x : Pointer) → (IsTrue old.tells → find old.now d (path_of slot) ≡ answer.Holds x)
      → IsTrue new.tells
      → find new.now d (path_of slot) ≡ answer.Holds x
  held-on d slot x held t = subst (λ (X : Image). find X d (path_of slot) ≡ answer.Holds x) now (held (back t))

  pub clears-on : (k : Books) (d : ℕ) (q : Paired) (x : Pointer) (c : Cell) → ClearsEntry old k d q x c
      → ClearsEntry new k d q x c
  clears-on k d q x c s = record {
    area = s.area;
    held = held-on d (q.entry / 16) x s.held;
    cleared = record {
      whole = λ t. subst (λ (X : Image). length (cell_at X x.block).payload ≡ 1024) now (s.cleared.whole (back t));
      payload = λ t.
          subst (λ (X : Image). c.payload ≡ put_bytes (64 * (q.entry % 16)) (zeros 64) (cell_at X x.block).payload) now
          (s.cleared.payload (back t));
      tag = λ t. subst (λ (X : Image). c.tag ≡ (cell_at X x.block).tag) now (s.cleared.tag (back t));
    };
  }

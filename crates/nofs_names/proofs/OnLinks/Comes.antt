-- What a Link comes to, where the mount is open.
use Rattle.std.proofs.Common.{◌≡◌, ℕ, ◌/◌, false, List, length, IsTrue, Option, Result, refl, sym, ap, ◌∙◌}
use Rattle.nofs_disk.specs.Disk.{DiskState, IsDisk, cell_at}
use Rattle.nofs_disk.specs.declared.tag.Cell.{Cell}
use Rattle.nofs_dirent.specs.declared.entry.Entry.{Entry}
use Rattle.nofs_inode.specs.declared.inode.Record.{Record}
use Rattle.nofs_model.specs.Geometry.{inode}
use Rattle.nofs_ptrs.specs.Paths.{path_of}
use Rattle.nofs_history.specs.Machine.{link_to, link_given}
use Rattle.nofs_history.specs.World.{blocks_needed}
use Rattle.nofs_history.specs.Claims.{claimed_blocks}
use Rattle.nofs_history.specs.Writes.{name_cells, name_cells_at}
use Rattle.nofs_history.specs.declared.machine.history.Claims.{Claims}
use Rattle.nofs_history.specs.declared.machine.history.Entry1.{Entry1}
use Rattle.nofs_history.specs.declared.machine.steps.Step.TheVariants as step
use Rattle.nofs_history.specs.declared.machine.replies.Reply.TheVariants as reply
use Rattle.nofs_history.specs.declared.machine.replies.Refusal.{Refusal}
use Rattle.nofs_state.specs.Books.Maps.{IsSafe}
use Rattle.nofs_state.specs.Cores.Invariant.{IsOpen, Past}
use Rattle.nofs_state.specs.Cores.Steps.{Goes, entry}
use Rattle.nofs_state.specs.declared.books.maps.Books.{Books}
use Rattle.nofs_disk.specs.Order.{IsApart, WritesOnce, image_after}
use Rattle.nofs_state.specs.Writes.Cells.{Stores}
use Rattle.nofs_names.specs.Renames.Parts.{done_answer}
use Rattle.nofs_state.specs.Writes.Premises.{RowsPass}
use Rattle.nofs_names.specs.Entries.Tables.{table_block}
use Rattle.nofs_state.proofs.OnBooks.ClaimedBlocks.{Takes}
use Rattle.nofs_names.proofs.OnSteps.Claims.{taken-by, taken-same}
use Rattle.nofs_names.proofs.OnSteps.OpenMount.{WritesName, stores-goes}
use Rattle.nofs_names.specs.Entries.Writes.{MayEnter}
use Rattle.nofs_names.specs.Links.{MayLink, with_link}
use Rattle.nofs_names.specs.declared.entries.writes.EntryPlace.{EntryPlace}
use Rattle.nofs_names.specs.declared.entries.writes.Tables.{Tables}
use Rattle.nofs_names.specs.declared.links.new_name.Both.{Both}
use Rattle.nofs_names.proofs.OnLinks.Writes.{Links, link-follows, link-given}

-- what a Link comes to, where the mount is open
pub record Comes (b : DiskState) (H : List Entry1) (p : Past) (d g : ℕ) (name : List ℕ) (i of e spot : ℕ) (c : Claims)
    (m : ℕ) (ws : List (ℕ × Cell)) :
    Type 0 where
  pub it : Links b.now (image_after ws b.now) p.world d g name i of e spot c
  pub ends : WritesName b H p (step.Link d g name i of) c (link_given p.world.files d g name i of e spot) d i ws
  pub once : WritesOnce ws
  pub needs : blocks_needed p.world.files (step.Link d g name i of) ≡ m

-- the writes are done, or one failed
pub linked-goes : (b new : DiskState) (k k' l : Books) (d g : ℕ) (name : List ℕ) (i of e spot : ℕ) (c : Claims) (m : ℕ)
    (ws : List (ℕ × Cell))
    (result : Result (Unit {0}) Refusal) → IsDisk b → IsDisk new → IsSafe b k
    → k.stopped ≡ false → IsSafe b k' → IsApart ws 0
    → Takes k k' c m
    → ((tells : IsTrue b.tells) (H : List Entry1) (p : Past) → IsOpen b k H p → Comes b H p d g name i of e spot c m ws)
    → RowsPass b k (step.Link d g name i of) → Stores b k' new l ws result
    → length ws ≡ name_cells (length (claimed_blocks c)) d i (path_of (e / 16))
    → Goes b k new l (step.Link d g name i of) c (done_answer reply.Linked result)
linked-goes b new k k' l d g name i of e spot c m ws result is_b is_new safe going safe' apart takes comes
    pass stores count =
    stores-goes b new k k' l (step.Link d g name i of) c reply.Linked ws result is_b is_new safe going safe'
    (taken-same k k' c m (taken-by k k' c m takes)) apart refl (path_of (e / 16), count) refl refl refl
    (λ tells H p o. let f = comes tells H p o in record {
      step = record {
        given = link_given p.world.files d g name i of e spot;
        directory = d;
        file = i;
        gives = link-given b k H p d g name i of e spot c ws is_b tells o f.it;
        ends = f.ends;
        row = record {
          once = f.once;
          exact = count ∙ sym (ap (λ (at : Option ℕ). name_cells_at at (length (claimed_blocks c)) d i) f.it.place);
        };
      };
      follows = link-follows b k H p d g name i of e spot c ws is_b tells o f.it k' m takes f.needs;
      answer = refl;
    }) pass stores

-- what the writes of a Link stand on: the mount, what is known of both inodes and of the entry's place, which was found
-- on the disk `first`, and the cells of the table
pub record LinkStands (first b : DiskState) (k : Books) (d g : ℕ) (both : Both) (p : EntryPlace) (it : Entry) (spot : ℕ)
    (t : Tables) (old : Record) : Type 0 where
  pub disk : IsDisk b
  pub safe : IsSafe b k
  pub may : MayLink b k d g both p it spot
  pub enters : MayEnter first k d both.directory p.entry p.slot p.blocks it old
  pub at_d : IsTrue b.tells → t.directory ≡ cell_at b.now (table_block d)
  pub at_i : IsTrue b.tells → t.inode ≡ cell_at b.now (table_block it.inode)

-- the file's record with the back link
abbrev pub linked_record : ℕ → Both → EntryPlace → ℕ → Record
linked_record d both p spot = with_link both.file spot (link_to d p.entry both.directory.generation)

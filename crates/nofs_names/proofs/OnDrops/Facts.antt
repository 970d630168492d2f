-- What a mount knows before the writes of a Drop, and what stands there where the mount is open.
use Rattle.std.proofs.Common.{◌≡◌, ℕ, ◌*◌, ◌/◌, ◌%◌, ◌<◌, length, List, [], ◌∷◌, Some, IsTrue, Bool, true, sym, ap, ◌∙◌}
use Rattle.std.proofs.Common.{subst, arith}
use Rattle.nofs_disk.specs.Disk.{DiskState, StaysButFaults, cell_at}
use Rattle.nofs_disk.specs.Number.{put_bytes, zeros}
use Rattle.nofs_disk.specs.declared.tag.Cell.{Cell}
use Rattle.nofs_disk.specs.declared.tag.Pointer.{Pointer}
use Rattle.nofs_inode.specs.declared.inode.Record.{Record}
use Rattle.nofs_disk.specs.Tag.{tag_of}
use Rattle.nofs_model.specs.Geometry.{Image}
use Rattle.nofs_model.specs.Files.{files_in, agreed, Files}
use Rattle.nofs_model.specs.Slots.{find}
use Rattle.nofs_ptrs.specs.Paths.{path_of}
use Rattle.nofs_model.specs.declared.image.path.PathAnswer.TheVariants as answer
use Rattle.nofs_history.specs.History.{FilesMatch}
use Rattle.nofs_history.specs.declared.machine.history.Entry1.{Entry1}
use Rattle.nofs_agree.specs.Reads.{KnowsInode, KnowsDirectory}
use Rattle.nofs_agree.proofs.OnChain.{KnowsInode-on}
use Rattle.nofs_crashlaw.specs.Numbers.Cells.{table_tag}
use Rattle.nofs_state.specs.Books.Maps.{IsSafe}
use Rattle.nofs_state.specs.Cores.Invariant.{IsOpen, Past}
use Rattle.nofs_state.specs.declared.books.maps.Books.{Books}
use Rattle.nofs_state.specs.Writes.Premises.{RecordIn}
use Rattle.nofs_disk.specs.Order.{IsApart}
use Rattle.nofs_names.specs.Searches.Slots.{IsFoundEntry}
use Rattle.nofs_names.specs.Searches.Refusals.{IsThere, KnownTrue}
use Rattle.nofs_names.specs.declared.searches.slots.Paired.{Paired}
use Rattle.nofs_crashlaw.proofs.OnImages.Below.{live-stands}
use Rattle.nofs_state.proofs.OnCores.Replies.{open-files}
use Rattle.nofs_state.proofs.OnBooks.Machine.{agreed-live, are-agreed}
use Rattle.nofs_state.proofs.OnWrites.Tables.{table_block}
use Rattle.nofs_names.specs.Renames.Parts.{FoundIn}
use Rattle.nofs_names.specs.Drops.Parts.{ClearedIn, HasNoNames}
use Rattle.nofs_names.proofs.OnDrops.Writes.{Drops}

pub record IsDropping (b : DiskState) (k : Books) (d g : ℕ) (name : List ℕ) (r : Record) (x : Pointer) (c1 : Cell)
    (q : Paired) : Type 0 where
  pub directory : KnowsDirectory b k.at d r.generation r
  pub generation : r.generation ≡ g
  pub there : IsTrue b.tells → KnownTrue k b.now → IsThere d b.now
  pub known : KnowsInode b k.at q.inode q.record
  pub found : FoundIn b d name q
  pub no_names : HasNoNames b q.inode
  pub positive : 0 < x.block
  pub held : IsTrue b.tells → find b.now d (path_of (q.entry / 16)) ≡ answer.Holds x
  pub cleared : ClearedIn b x (q.entry % 16) c1

pub is-dropping : (b : DiskState) (k : Books) (d g : ℕ) (name : List ℕ) (r : Record) (x : Pointer)
    (c1 : Cell) (q : Paired)
    → KnowsDirectory b k.at d r.generation r → r.generation ≡ g → (IsTrue b.tells → KnownTrue k b.now → IsThere d b.now)
    → KnowsInode b k.at q.inode q.record
    → FoundIn b d name q → HasNoNames b q.inode
    → 0 < x.block → (IsTrue b.tells → find b.now d (path_of (q.entry / 16)) ≡ answer.Holds x)
    → ClearedIn b x (q.entry % 16) c1 → IsDropping b k d g name r x c1 q
is-dropping b k d g name r x c1 q directory generation there known found no_names positive held cleared = record {
  directory = directory;
  generation = generation;
  there = there;
  known = known;
  found = found;
  no_names = no_names;
  positive = positive;
  held = held;
  cleared = cleared;
}

module _ (b : DiskState) (k : Books) (d g : ℕ) (name : List ℕ) (r : Record) (x : Pointer) (c1 : Cell) (q : Paired)
    (it : IsDropping b k d g name r x c1 q) where
  -- neither cell is the superblock
  pub drop-apart : (c2 : Cell) → IsApart ((x.block, c1) ∷ (table_block q.inode, c2) ∷ []) 0
  drop-apart c2 = ((λ e. let n = it.positive in omega (arith, e, n)), ((λ e. omega (arith, e)), tt))

  module _ (H : List Entry1) (p : Past) (tells : IsTrue b.tells) (safe : IsSafe b k) (o : IsOpen b k H p) where
    agrees : agreed (files_in b.now) d ≡ true
    agrees = it.there tells (are-agreed b k H p safe o)

    pub drop-pair : IsFoundEntry p.world.files b.now d name q
    drop-pair = it.found tells agrees p.world.files (open-files b k H p o)

    pub drops-in : (c2 : Cell) (r' : Record) → RecordIn (cell_at b.now (table_block q.inode)) q.inode r' c2
        → tag_of c2.tag ≡ Some (table_tag (table_block q.inode)) → Drops b p d g name r x c1 c2 q r'
    drops-in c2 r' table tag = record {
      record_is = it.directory.known.same tells;
      kind = it.directory.kind;
      generation = it.generation;
      agrees = agrees;
      pair = drop-pair;
      held = it.held tells;
      whole = it.cleared.whole tells;
      payload = it.cleared.payload tells;
      tag = it.cleared.tag tells;
      has = record {
        range = (live-stands b.now q.inode (agreed-live b.now q.inode drop-pair.pair.agreed)).range;
        here = table.here;
        others = table.others;
      };
      table_tag = tag;
      no_names = it.no_names tells p.world.files (open-files b k H p o);
    }

  -- the same is known after reads
  pub dropping-on : (new : DiskState) → StaysButFaults b new → IsDropping new k d g name r x c1 q
  dropping-on new stays = record {
    directory = record {
      known = KnowsInode-on b new k.at d r stays it.directory.known;
      kind = it.directory.kind;
      generation = it.directory.generation;
    };
    generation = it.generation;
    there = λ t. subst (λ (X : Image). KnownTrue k X → IsThere d X) (sym now) (it.there (told t));
    known = KnowsInode-on b new k.at q.inode q.record stays it.known;
    found = λ t. subst (λ (X : Image). IsThere d X → (F : Files) → FilesMatch F X → IsFoundEntry F X d name q) (sym now)
        (it.found (told t));
    no_names = λ t F m. it.no_names (told t) F (subst (λ (X : Image). FilesMatch F X) now m);
    positive = it.positive;
    held = λ t. subst (λ (X : Image). find X d (path_of (q.entry / 16)) ≡ answer.Holds x) (sym now) (it.held (told t));
    cleared = record {
      whole = λ t. ap (λ (X : Image). length (cell_at X x.block).payload) now ∙ it.cleared.whole (told t);
      payload = λ t. it.cleared.payload (told t)
          ∙ ap (λ (X : Image). put_bytes (64 * (q.entry % 16)) (zeros 64) (cell_at X x.block).payload) (sym now);
      tag = λ t. it.cleared.tag (told t) ∙ ap (λ (X : Image). (cell_at X x.block).tag) (sym now);
    };
  }
    where
      now : new.now ≡ b.now
      now = stays.cells.now

      told : IsTrue new.tells → IsTrue b.tells
      told t = subst (λ (z : Bool). IsTrue z) stays.disk.tells t

-- Drop: the directory's cell and the record of the inode are written. What it gives, and that its writes are proper.
use Rattle.std.proofs.Common.{◌≡◌, ◌≢◌, ℕ, ◌+◌, ◌*◌, ◌/◌, ◌%◌, ◌<◌, ◌⊎◌, inl, inr, Bool, true, false, cond, eqb}
use Rattle.std.proofs.Common.{eqb-true}
use Rattle.std.proofs.Common.{List, [], ◌∷◌, length, Option, Some, None, is_some, IsTrue, refl, sym, ap, ◌∙◌, subst}
use Rattle.std.proofs.Common.{subst₂}
use Rattle.nofs_dirent.specs.Entries.{entry_limit}
use Rattle.nofs_disk.specs.Disk.{DiskState, IsDisk, cell_at}
use Rattle.nofs_disk.specs.Number.{put_bytes}
use Rattle.nofs_disk.specs.Number as number
use Rattle.nofs_inode.specs.declared.inode.FileKind.TheVariants.{Directory as Folder}
use Rattle.nofs_disk.specs.declared.tag.Cell.{Cell}
use Rattle.nofs_dirent.specs.declared.entry.Entry.{Entry}
use Rattle.nofs_disk.specs.declared.tag.Pointer.{Pointer}
use Rattle.nofs_inode.specs.declared.inode.Record.{Record}
use Rattle.nofs_disk.specs.Tag.{tag_of}
use Rattle.nofs_inode.specs.InodeRecords.{is_live}
use Rattle.nofs_model.specs.Geometry.{Image, super_at, is_data_block, inode}
use Rattle.nofs_ptrs.specs.Paths.{path_of}
use Rattle.nofs_model.specs.Slots.{find}
use Rattle.nofs_model.specs.Files.{files_in, agreed, is_folder, Files}
use Rattle.nofs_model.specs.declared.image.path.PathAnswer.TheVariants as answer
use Rattle.nofs_model.specs.declared.image.value.Value.{Value}
use Rattle.nofs_model.specs.declared.image.value.Value.TheVariants.{Bytes}
use Rattle.nofs_model.proofs.OnSlots.Find.{find-held, HoldsAt}
use Rattle.nofs_model.proofs.OnSound.Writes.{supers}
use Rattle.nofs_crashlaw.specs.Images.Proper.{Proper}
use Rattle.nofs_crashlaw.specs.Images.Moments.{during}
use Rattle.nofs_history.specs.Meta.{Meta, Gone, Is, is_bytes, is_gone}
use Rattle.nofs_history.specs.Machine as machine
use Rattle.nofs_history.specs.Machine.{Given, gives, drop_given, drop_meta, entry_given, meta_given, is_at}
use Rattle.nofs_history.specs.Machine.{without_link, link_to, zero_bytes, at_place}
use Rattle.nofs_history.specs.Machine.{files_after, value_of, with_entry, found, is_paired, nothing}
use Rattle.nofs_history.specs.World.{World}
use Rattle.nofs_history.specs.Claims.{no_claims, next_stamp, IsClaim}
use Rattle.nofs_history.specs.Answers.{dropped_reply, dropped_entry}
use Rattle.nofs_history.specs.History.{FilesMatch}
use Rattle.nofs_history.specs.Marks.{mark_at}
use Rattle.nofs_history.specs.declared.machine.history.Entry1.{Entry1}
use Rattle.nofs_history.specs.declared.machine.steps.Step.TheVariants as step
use Rattle.nofs_history.specs.declared.machine.replies.Reply.TheVariants as reply
use Rattle.nofs_history.proofs.EntryPut.{with-entry-put, zeros-are}
use Rattle.nofs_history.specs.Gives.{GivesNothing}
use Rattle.nofs_crashlaw.proofs.OnUntouched.Matches.{Matched, matched-agreed, matched-file}
use Rattle.nofs_crashlaw.specs.Maps.Homes.{HomesMove}
use Rattle.nofs_crashlaw.specs.Maps.Fresh.{Numbered, CellNumbers}
use Rattle.nofs_crashlaw.specs.Names.OldEntries.{InPlace, Relinked, DropLies}
use Rattle.nofs_crashlaw.proofs.OnNames.OldLaws.{law-drop-entry}
use Rattle.nofs_crashlaw.proofs.OnNames.InPlace.{cell-elsewhere, in-place-writes}
use Rattle.nofs_crashlaw.proofs.OnNumbers.OldEntries.{law-drop-numbers}
use Rattle.nofs_crashlaw.proofs.OnNumbers.Tables.{law-table-numbers}
use Rattle.nofs_state.proofs.OnBooks.Machine.{agreed-live}
use Rattle.nofs_state.proofs.OnWrites.Tables.{HasRecord, table_block, table-records}
use Rattle.nofs_crashlaw.specs.Numbers.Cells.{RecordWritten, AsBefore, table_tag}
use Rattle.nofs_state.specs.Cores.Invariant.{IsOpen, Past}
use Rattle.nofs_state.specs.declared.books.maps.Books.{Books}
use Rattle.nofs_disk.specs.Order.{OneOf, image_after}
use Rattle.nofs_names.specs.Searches.Slots.{IsFoundEntry}
use Rattle.nofs_names.specs.declared.searches.slots.Paired.{Paired}
use Rattle.nofs_names.proofs.OnSteps.CellAndRecord as write
use Rattle.nofs_names.proofs.OnSteps.CellAndRecord.{KeepsFile}
use Rattle.nofs_names.proofs.OnSteps.OpenMount.{Follows, NameComes, NameStep, OpenImage, open-image}

pub entry-bytes : (v : Value) (e : ℕ) (bytes : List ℕ) → is_bytes (with_entry v e bytes) ≡ true
unfolding with_entry
entry-bytes v e bytes = refl

-- a meta that goes to inode i goes to no other
meta-else : (i g : ℕ) (m : Meta) (j : ℕ) → j ≢ i → (h : ℕ) → meta_given i g m j h ≡ None
meta-else i g m j ne h = go (eqb i j) refl
  where
    go : (b : Bool) → eqb i j ≡ b → meta_given i g m j h ≡ None
    go true e = absurd (ne (sym (eqb-true i j e)))
    go false e = rw e refl

pub keeps-meta : (i g : ℕ) (m : Meta) → is_gone m ≡ false → (j h : ℕ) → KeepsFile (meta_given i g m j h)
keeps-meta i g m stays j h = go (is_at i g j h) m stays
  where
    go : (b : Bool) (m : Meta) → is_gone m ≡ false → KeepsFile (cond b (Some m) None)
    go false m e = tt
    go true Gone e = cc e
    go true (Is kind size links) e = tt

pub keeps-else : (i g : ℕ) (m : Meta) (j : ℕ) → j ≢ i → (h : ℕ) → KeepsFile (meta_given i g m j h)
keeps-else i g m j ne h = subst KeepsFile (sym (meta-else i g m j ne h)) tt

abbrev given_for : Files → ℕ → ℕ → ℕ → Option Entry → Given
given_for F d g e o = elim o [
  | None ↦ nothing
  | Some entry ↦ entry_given F d g e (zero_bytes 64)
      (meta_given entry.inode entry.generation (drop_meta F entry.inode (link_to d e g)))
]

-- what a Drop stands on: its directory, the entry that was found, and the two cells that are written
pub record Drops (old : DiskState) (p : Past) (d g : ℕ) (name : List ℕ) (r : Record) (x : Pointer) (c1 c2 : Cell)
    (q : Paired) (r' : Record) : Type 0 where
  pub record_is : inode old.now d ≡ r
  pub kind : r.kind ≡ Some Folder
  pub generation : r.generation ≡ g
  pub agrees : agreed (files_in old.now) d ≡ true
  pub pair : IsFoundEntry p.world.files old.now d name q
  pub held : find old.now d (path_of (q.entry / 16)) ≡ answer.Holds x
  pub whole : length (cell_at old.now x.block).payload ≡ 1024
  pub payload : c1.payload ≡ put_bytes (64 * (q.entry % 16)) (number.zeros 64) (cell_at old.now x.block).payload
  pub tag : c1.tag ≡ (cell_at old.now x.block).tag
  pub has : HasRecord old.now q.inode r' c2
  pub table_tag : tag_of c2.tag ≡ Some (table_tag (table_block q.inode))
  pub no_names : machine.is_folder_at p.world.files q.inode ≡ true → (b : ℕ)
      → b < entry_limit → is_paired p.world.files q.inode b ≡ false

module _ (old : DiskState) (k : Books) (H : List Entry1) (p : Past) (d g : ℕ) (name : List ℕ) (r : Record) (x : Pointer)
    (c1 c2 : Cell) (q : Paired)
    (r' : Record) (is_old : IsDisk old) (tells : IsTrue old.tells) (o : IsOpen old k H p)
    (drops : Drops old p d g name r x c1 c2 q r') where
  abbrev pub W : World
  W = p.world

  abbrev pub X : Image
  X = old.now

  abbrev pub Y : Image
  Y = image_after ((x.block, c1) ∷ (table_block q.inode, c2) ∷ []) old.now

  abbrev pub it : Entry
  it = drops.pair.pair.entry

  pub same : it.inode ≡ q.inode
  same = drops.pair.pair.names

  pub on : OpenImage old H p
  on = open-image old k H p is_old tells o

  hx : HoldsAt X d (path_of (q.entry / 16)) x
  hx = find-held X d (path_of (q.entry / 16)) x drops.held

  area : is_data_block X x.block ≡ true
  area = hx.agrees.area

  pub own : Matched W.files X d
  own = matched-agreed W.files X d on.match (agreed-live X d drops.agrees) drops.agrees

  pub its : Matched W.files X q.inode
  its = matched-agreed W.files X q.inode on.match (agreed-live X q.inode drops.pair.pair.agreed) drops.pair.pair.agreed

  pub named : W.files it.inode ≡ Some its.file
  named = ap W.files same ∙ its.is

  pub here : inode Y q.inode ≡ r'
  here = write.record-new X q.inode x c1 c2 r' on.geometry.fits on.geometry.table on.geometry.multiple area drops.has

  in-slot : cell_at Y x.block ≡ c1
  in-slot = write.in-slot X q.inode x c1 c2 r' on.geometry.fits on.geometry.table on.geometry.multiple area drops.has

  pub in-table : cell_at Y (table_block q.inode) ≡ c2
  in-table = write.in-table X q.inode x c1 c2 r' on.geometry.fits on.geometry.table on.geometry.multiple area drops.has

  in-place : InPlace X Y x it.inode
  in-place = subst (λ (i : ℕ). InPlace X Y x i) (sym same) (record {
    super = write.super-stays X q.inode x c1 c2 r' on.geometry.fits on.geometry.table
        on.geometry.multiple area drops.has;
    blocks = λ b data_b ne. write.data-stays X q.inode x c1 c2 r' on.geometry.fits on.geometry.table
        on.geometry.multiple area drops.has b data_b ne;
    tag = ap (λ (z : Cell). tag_of z.tag) in-slot ∙ ap tag_of drops.tag;
    records = λ j ne. write.record-old X q.inode x c1 c2 r' on.geometry.fits on.geometry.table on.geometry.multiple
        area drops.has j ne;
  })

  folder-at : is_folder its.file.kind ≡ true → machine.is_folder_at W.files q.inode ≡ true
  folder-at e = let s = its.is in rw (s, machine.is_folder_at) e

  pub lies : DropLies W.files X Y d g q.entry (next_stamp W) own.file its.file x it
  lies = record {
    files = on.match;
    is = own.is;
    generation = own.generation ∙ ap (λ (z : Record). z.generation) drops.record_is ∙ drops.generation;
    found = drops.pair.pair.at;
    paired = drops.pair.pair.paired;
    named = named;
    no_names = λ e b low. ap (λ (i : ℕ). is_paired W.files i b) same ∙ drops.no_names (folder-at e) b low;
    held = drops.held;
    whole = drops.whole;
    content = ap (λ (z : Cell). Bytes z.payload) in-slot ∙ ap Bytes
        (drops.payload ∙ ap (λ (z : List ℕ). put_bytes (64 * (q.entry % 16)) z (cell_at X x.block).payload)
        (sym (zeros-are 64)))
        ∙ sym (with-entry-put (Bytes (cell_at X x.block).payload) q.entry (zero_bytes 64) refl);
    writes = in-place;
    old = λ j some. on.pointers j (matched-file W.files X j on.match some).live;
  }

  -- what the step gives

  gives-it : (F : Files) → F ≡ W.files → gives F (step.Drop d g name) no_claims ≡ drop_given F d g q.entry
  unfolding gives
  gives-it F e = ap (λ (at : Option ℕ). at_place at (λ n. drop_given F d g n))
      (ap (λ (E : Files). found E d name) e ∙ drops.pair.found)

  pub after-files : files_after W.files (gives W.files (step.Drop d g name) no_claims) ≡ files_after W.files
      (drop_given W.files d g q.entry)
  after-files = ap (files_after W.files) (gives-it W.files refl)

  pub cell-is : drop_given W.files d g q.entry ≡ machine.cell_given d g (q.entry / 16)
      (with_entry (value_of W.files d (q.entry / 16)) q.entry (zero_bytes 64))
      (meta_given it.inode it.generation (drop_meta W.files it.inode (link_to d q.entry g)))
  cell-is = ap (given_for W.files d g q.entry) drops.pair.pair.at

  -- The writes are proper

  pub mark-table : is_data_block p.mark (table_block q.inode) ≡ false
  mark-table = on.table (table_block q.inode)
      (write.table-low X q.inode x c1 c2 r' on.geometry.fits on.geometry.table on.geometry.multiple area drops.has)

  pub super-after : super_at p.mark ≡ super_at Y
  super-after = on.super ∙ sym (supers X Y in-place.super)

  cell-proper : Proper
      (during (mark_at p.base H (old.moment + 1) p.mark p.stamps) (drop_given W.files d g q.entry)) X x.block c1
  cell-proper = subst (λ (z : Cell). Proper
      (during (mark_at p.base H (old.moment + 1) p.mark p.stamps) (drop_given W.files d g q.entry)) X x.block z) in-slot
      (law-drop-entry W.files X Y d g q.entry (next_stamp W) own.file its.file x it lies
      (mark_at p.base H (old.moment + 1) p.mark p.stamps)
      (on.area x.block area))

  -- what both endings owe of the table
  pub record EndsWell : Type 0 where
    pub numbered : Relinked X Y it.inode (without_link (link_to d q.entry g) its.file.links)
        ⊎ ((inode Y it.inode).kind ≡ None)
    pub table : Proper (during (mark_at p.base H (old.moment + 1) p.mark p.stamps) (drop_given W.files d g q.entry)) X
        (table_block q.inode) c2
    pub files : FilesMatch (files_after W.files (drop_given W.files d g q.entry)) Y
    pub claim : IsClaim W (step.Drop d g name) no_claims
    pub move : HomesMove W.files (step.Drop d g name) no_claims X Y
    pub others : (j : ℕ)
        → j ≢ it.inode → is_some (files_after W.files (drop_given W.files d g q.entry) j) ≡ is_some (W.files j)
    pub owned : is_live (inode Y it.inode) ≡ true
        → is_some (files_after W.files (drop_given W.files d g q.entry) it.inode) ≡ true

  module _ (w : EndsWell) where
    proper : (b : ℕ) (cell : Cell) → OneOf ((x.block, c1) ∷ (table_block q.inode, c2) ∷ []) b cell
        → Proper (during (mark_at p.base H (old.moment + 1) p.mark p.stamps) (drop_given W.files d g q.entry)) X b cell
    proper b cell (inl one) = subst₂ (λ (n : ℕ) (z : Cell).
        Proper (during (mark_at p.base H (old.moment + 1) p.mark p.stamps) (drop_given W.files d g q.entry))
        X n z) (sym one.0) (sym one.1) cell-proper
    proper b cell (inr (inl one)) = subst₂ (λ (n : ℕ) (z : Cell). Proper
        (during (mark_at p.base H (old.moment + 1) p.mark p.stamps) (drop_given W.files d g q.entry)) X n z) (sym one.0)
        (sym one.1) w.table
    proper b cell (inr (inr none)) = absurd none

    numbers : (b : ℕ) (cell : Cell) → OneOf ((x.block, c1) ∷ (table_block q.inode, c2) ∷ []) b cell
        → CellNumbers (Numbered W no_claims) X b cell
    numbers b cell (inl one) =
        subst₂ (λ (n : ℕ) (z : Cell). CellNumbers (Numbered W no_claims) X n z) (sym one.0) (sym one.1)
        (subst (λ (z : Cell). CellNumbers (Numbered W no_claims) X x.block z) in-slot
        (law-drop-numbers W X Y d g q.entry (next_stamp W) own.file its.file x it no_claims on.numbers lies).0)
    numbers b cell (inr (inl one)) =
        subst₂ (λ (n : ℕ) (z : Cell). CellNumbers (Numbered W no_claims) X n z) (sym one.0) (sym one.1)
        (law-table-numbers W no_claims X (table_block q.inode) c2 on.numbers drops.table_tag
        (λ j e s. elim (table-records X q.inode r' c2 drops.has j e s) [
          | inl new ↦ subst (λ (z : Record). RecordWritten W no_claims X j z)
              (sym (new.1 ∙ sym here ∙ ap (inode Y) (sym new.0)))
              ((law-drop-numbers W X Y d g q.entry
              (next_stamp W) own.file its.file x it no_claims on.numbers lies).1 w.numbered j)
          | inr was ↦ AsBefore was
        ]))
    numbers b cell (inr (inr none)) = absurd none

    nothing-else : (j : ℕ) → j ≢ d → j ≢ it.inode → GivesNothing (drop_given W.files d g q.entry) j
    nothing-else j nd ni = subst (λ (z : Given). GivesNothing z j) (sym cell-is)
        (cell-elsewhere d g (q.entry / 16) (with_entry (value_of W.files d (q.entry / 16)) q.entry (zero_bytes 64))
        (meta_given it.inode it.generation (drop_meta W.files it.inode (link_to d q.entry g))) j nd
        (λ h. meta-else it.inode it.generation (drop_meta W.files it.inode (link_to d q.entry g)) j ni h))

    pub drop-step : NameStep old H p (step.Drop d g name) no_claims ((x.block, c1) ∷ (table_block q.inode, c2) ∷ [])
    drop-step = record {
      given = drop_given W.files d g q.entry;
      directory = d;
      file = it.inode;
      gives = record {
        is = gives-it W.files refl;
        claim = w.claim;
        nothing = nothing-else;
        there = ap is_some own.is;
        used = w.others;
        owned = w.owned;
      };
      ends = record {
        proper = proper;
        numbers = numbers;
        files = w.files;
        move = w.move;
        writes = in-place-writes (next_stamp W) d it.inode (q.entry / 16) X Y x drops.held in-place;
      };
      row = record {
        once = write.once X q.inode x c1 c2 r' on.geometry.fits on.geometry.table on.geometry.multiple area drops.has;
        exact = refl;
      };
    }

    answer-is : reply.Dropped (is_gone (drop_meta W.files it.inode (link_to d q.entry g))) ≡ dropped_reply W.files d
        (found W.files d name)
    answer-is = sym (ap (dropped_reply W.files d) drops.pair.found
        ∙ (λ j. dropped_entry W.files (link_to d q.entry (generation-is j)) (drops.pair.pair.at j)))
      where
        generation-is : machine.generation_of W.files d ≡ g
        generation-is = (let s = own.is in rw (s, machine.generation_of) refl) ∙ lies.generation

    pub drop-comes : (l : Books) (removed : Bool) → is_gone (drop_meta W.files it.inode (link_to d q.entry g)) ≡ removed
        → Follows W (step.Drop d g name) no_claims l
        → NameComes old H p l (step.Drop d g name) no_claims (reply.Dropped removed)
        ((x.block, c1) ∷ (table_block q.inode, c2) ∷ [])
    drop-comes l removed er follows =
        record { step = drop-step; follows = follows; answer = ap reply.Dropped (sym er) ∙ answer-is }

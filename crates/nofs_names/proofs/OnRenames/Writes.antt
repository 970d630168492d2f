-- Rename: the directory's cell is written in place.
use Rattle.std.proofs.Common.{◌≡◌, ◌≢◌, ℕ, ◌+◌, ◌*◌, ◌/◌, ◌%◌, inl, inr, true, false, List, [], ◌∷◌, length, Option}
use Rattle.std.proofs.Common.{Some, is_some, IsTrue, refl, sym, ap, ◌∙◌, subst, subst₂}
use Rattle.nofs_disk.specs.Disk.{DiskState, IsDisk, cell_at}
use Rattle.nofs_disk.specs.Number.{put_bytes}
use Rattle.nofs_inode.specs.declared.inode.FileKind.TheVariants.{Directory as Folder}
use Rattle.nofs_dirent.specs.EntryLaws.{Spells}
use Rattle.nofs_disk.specs.declared.tag.Cell.{Cell}
use Rattle.nofs_dirent.specs.declared.entry.Entry.{Entry}
use Rattle.nofs_disk.specs.declared.tag.Pointer.{Pointer}
use Rattle.nofs_inode.specs.declared.inode.Record.{Record}
use Rattle.nofs_disk.specs.Tag.{tag_of}
use Rattle.nofs_inode.specs.InodeRecords.{is_live}
use Rattle.nofs_dirent.specs.Entries.{spelled_entry}
use Rattle.nofs_model.specs.Geometry.{Image, is_data_block, inode}
use Rattle.nofs_ptrs.specs.Paths.{path_of}
use Rattle.nofs_model.specs.Slots.{find}
use Rattle.nofs_model.specs.Files.{files_in, agreed, Files}
use Rattle.nofs_model.specs.declared.image.path.PathAnswer.TheVariants as answer
use Rattle.nofs_model.specs.declared.image.value.Value.{Value}
use Rattle.nofs_model.specs.declared.image.value.Value.TheVariants.{Bytes}
use Rattle.nofs_model.proofs.OnSlots.Find.{find-held, HoldsAt}
use Rattle.nofs_crashlaw.specs.Images.Proper.{Proper}
use Rattle.nofs_crashlaw.specs.Images.Moments.{during}
use Rattle.nofs_history.specs.Meta.{is_bytes}
use Rattle.nofs_history.specs.Marks.{Mark, mark_at}
use Rattle.nofs_history.specs.Machine.{Given, gives, rename_given, at_place, files_after, value_of, with_entry, found}
use Rattle.nofs_history.specs.Machine as machine
use Rattle.nofs_history.specs.World.{World}
use Rattle.nofs_history.specs.Claims.{no_claims, next_stamp, IsClaim, has_block}
use Rattle.nofs_history.specs.History.{FilesMatch}
use Rattle.nofs_history.specs.declared.machine.history.Entry1.{Entry1}
use Rattle.nofs_history.specs.declared.machine.steps.Step.TheVariants as step
use Rattle.nofs_history.proofs.EntryPut.{with-entry-put}
use Rattle.nofs_history.specs.Gives.{GivesNothing}
use Rattle.nofs_crashlaw.proofs.OnUntouched.Matches.{Matched, matched-agreed, matched-file}
use Rattle.nofs_crashlaw.specs.Maps.Fresh.{Numbered, CellNumbers}
use Rattle.nofs_crashlaw.specs.Names.OldEntries.{InPlace, RenameLies}
use Rattle.nofs_crashlaw.proofs.OnNames.OldLaws.{law-rename}
use Rattle.nofs_crashlaw.proofs.OnNames.InPlace.{cell-elsewhere, in-place-writes, no-zero}
use Rattle.nofs_crashlaw.proofs.OnHomes.OldEntries.{law-rename-homes}
use Rattle.nofs_crashlaw.proofs.OnNumbers.OldEntries.{law-rename-numbers}
use Rattle.nofs_state.proofs.OnBooks.Machine.{agreed-live}
use Rattle.nofs_names.proofs.OnSteps.OneCell.{super-stays as write-super-stays, elsewhere as write-elsewhere}
use Rattle.nofs_names.proofs.OnSteps.OneCell.{here as write-here, records as write-records}
use Rattle.nofs_names.proofs.OnSteps.OpenMount.{Follows, NameStep, OpenImage, open-image}
use Rattle.nofs_names.proofs.OnSteps.NoClaims.{IsQuiet, quiet-claim, quiet-follows, cell-used, cell-blocks}
use Rattle.nofs_state.specs.Cores.Invariant.{IsOpen, Past}
use Rattle.nofs_state.specs.declared.books.maps.Books.{Books}
use Rattle.nofs_disk.specs.Order.{OneOf, image_after}
use Rattle.nofs_names.specs.Searches.Slots.{IsFoundEntry}
use Rattle.nofs_names.specs.declared.searches.slots.Paired.{Paired}

entry-bytes : (v : Value) (e : ℕ) (bytes : List ℕ) → is_bytes (with_entry v e bytes) ≡ true
unfolding with_entry
entry-bytes v e bytes = refl

module _ (old : DiskState) (k : Books) (H : List Entry1) (p : Past) (d g : ℕ) (name other : List ℕ) (r : Record)
    (x : Pointer) (c : Cell) (q : Paired)
    (is_old : IsDisk old) (tells : IsTrue old.tells) (o : IsOpen old k H p)
    (rec : inode old.now d ≡ r) (kind : r.kind ≡ Some Folder) (gen : r.generation ≡ g)
    (agrees : agreed (files_in old.now) d ≡ true)
    (pair : IsFoundEntry p.world.files old.now d name q)
    (held : find old.now d (path_of (q.entry / 16)) ≡ answer.Holds x)
    (whole : length (cell_at old.now x.block).payload ≡ 1024)
    (spells : Spells (spelled_entry q.inode q.record.generation other)
    (record { inode = q.inode; generation = q.record.generation; name = other }))
    (payload : c.payload ≡ put_bytes (64 * (q.entry % 16)) (spelled_entry q.inode q.record.generation other)
    (cell_at old.now x.block).payload)
    (tag : c.tag ≡ (cell_at old.now x.block).tag) where
  abbrev W : World
  W = p.world

  abbrev X : Image
  X = old.now

  abbrev Y : Image
  Y = image_after ((x.block, c) ∷ []) old.now

  abbrev it : Entry
  it = pair.pair.entry

  on : OpenImage old H p
  on = open-image old k H p is_old tells o

  hx : HoldsAt X d (path_of (q.entry / 16)) x
  hx = find-held X d (path_of (q.entry / 16)) x held

  area : is_data_block X x.block ≡ true
  area = hx.agrees.area

  own : Matched W.files X d
  own = matched-agreed W.files X d on.match (agreed-live X d agrees) agrees

  -- the numbers of the entry are those that were found
  numbers-are : spelled_entry it.inode it.generation other ≡ spelled_entry q.inode q.record.generation other
  numbers-are = λ j. spelled_entry (pair.pair.names j) (pair.pair.generation j) other

  in-place : InPlace X Y x 0
  in-place = record {
    super = write-super-stays X x c on.geometry.fits on.geometry.multiple area;
    blocks = λ b data_b ne. write-elsewhere X x c on.geometry.fits on.geometry.multiple area b ne;
    tag = ap (λ (z : Cell). tag_of z.tag) (write-here X x c on.geometry.fits on.geometry.multiple area) ∙ ap tag_of tag;
    records = λ j ne. write-records X x c on.geometry.fits on.geometry.multiple area j;
  }

  lies : RenameLies W.files X Y d g q.entry (next_stamp W) other own.file x it
  lies = record {
    files = on.match;
    is = own.is;
    generation = own.generation ∙ ap (λ (z : Record). z.generation) rec ∙ gen;
    found = pair.pair.at;
    held = held;
    whole = whole;
    spells = subst₂ (λ (i n : ℕ). Spells (spelled_entry i n other) (record { inode = i; generation = n; name = other }))
        (sym pair.pair.names)
        (sym pair.pair.generation) spells;
    content = ap (λ (z : Cell). Bytes z.payload) (write-here X x c on.geometry.fits on.geometry.multiple area)
        ∙ ap Bytes payload
        ∙ sym (ap (with_entry (Bytes (cell_at X x.block).payload) q.entry) numbers-are
        ∙ with-entry-put (Bytes (cell_at X x.block).payload) q.entry
        (spelled_entry q.inode q.record.generation other) spells.short);
    writes = in-place;
    old = λ j some. on.pointers j (matched-file W.files X j on.match some).live;
  }

  law : ((m : Mark) → is_data_block m.image x.block ≡ true
      → Proper (during m (rename_given W.files d g other q.entry)) X x.block (cell_at Y x.block))
      × FilesMatch (files_after W.files (rename_given W.files d g other q.entry)) Y
  law = law-rename W.files X Y d g q.entry (next_stamp W) other own.file x it lies

  -- what the step gives
  gives-it : (F : Files)
      → F ≡ W.files → gives F (step.Rename d g name other) no_claims ≡ rename_given F d g other q.entry
  unfolding gives
  gives-it F e = ap (λ (at : Option ℕ). at_place at (λ n. rename_given F d g other n))
      (ap (λ (E : Files). found E d name) e ∙ pair.found)

  -- it gives a cell, and nothing else
  cell-is : rename_given W.files d g other q.entry ≡ machine.cell_given d g (q.entry / 16)
      (with_entry (value_of W.files d (q.entry / 16)) q.entry
      (spelled_entry it.inode it.generation other)) machine.no_meta
  cell-is = rw (pair.pair.at, rename_given) refl

  after-files : files_after W.files (gives W.files (step.Rename d g name other) no_claims) ≡ files_after W.files
      (rename_given W.files d g other q.entry)
  after-files = ap (files_after W.files) (gives-it W.files refl)

  quiet : IsQuiet W (step.Rename d g name other) (files_after W.files (rename_given W.files d g other q.entry))
  quiet = record {
    no_inode = refl;
    no_block = refl;
    none_claimed = λ b. refl;
    files = after-files;
    used = λ j. ap (λ (z : Given). is_some (files_after W.files z j)) cell-is
        ∙ cell-used W.files d g (q.entry / 16)
        (with_entry (value_of W.files d (q.entry / 16)) q.entry (spelled_entry it.inode it.generation other)) j;
    blocks = λ home h. subst (λ (z : Given). has_block (files_after W.files z) home ≡ true) (sym cell-is)
        (cell-blocks W.files d g (q.entry / 16)
        (with_entry (value_of W.files d (q.entry / 16)) q.entry (spelled_entry it.inode it.generation other))
        (entry-bytes (value_of W.files d (q.entry / 16)) q.entry (spelled_entry it.inode it.generation other)) home h);
    sees_no_inode = λ i. refl;
    sees_no_block = λ b. refl;
  }

  claim : IsClaim W (step.Rename d g name other) no_claims
  claim = quiet-claim X k W (step.Rename d g name other) (files_after W.files
      (rename_given W.files d g other q.entry)) o.says on.match o.homes o.homes_past quiet

  -- The write

  proper : Proper
      (during (mark_at p.base H (old.moment + 1) p.mark p.stamps) (rename_given W.files d g other q.entry)) X x.block c
  proper = subst (λ (z : Cell). Proper
      (during (mark_at p.base H (old.moment + 1) p.mark p.stamps) (rename_given W.files d g other q.entry)) X x.block z)
      (write-here X x c on.geometry.fits on.geometry.multiple area)
      (law.0 (mark_at p.base H (old.moment + 1) p.mark p.stamps) (on.area x.block area))

  proper-all : (b : ℕ) (cell : Cell) → OneOf ((x.block, c) ∷ []) b cell
      → Proper (during (mark_at p.base H (old.moment + 1) p.mark p.stamps)
      (rename_given W.files d g other q.entry)) X b cell
  proper-all b cell (inl one) = subst₂ (λ (n : ℕ) (z : Cell). Proper
      (during (mark_at p.base H (old.moment + 1) p.mark p.stamps) (rename_given W.files d g other q.entry)) X n z)
      (sym one.0) (sym one.1) proper
  proper-all b cell (inr none) = absurd none

  numbers : (b : ℕ) (cell : Cell) → OneOf ((x.block, c) ∷ []) b cell → CellNumbers (Numbered W no_claims) X b cell
  numbers b cell (inl one) =
      subst₂ (λ (n : ℕ) (z : Cell). CellNumbers (Numbered W no_claims) X n z) (sym one.0) (sym one.1)
      (subst (λ (z : Cell). CellNumbers (Numbered W no_claims) X x.block z)
      (write-here X x c on.geometry.fits on.geometry.multiple area)
      (law-rename-numbers W X Y d g q.entry (next_stamp W) other own.file x it no_claims on.numbers lies))
  numbers b cell (inr none) = absurd none

  -- What it gives

  nothing : (j : ℕ) → j ≢ d → GivesNothing (rename_given W.files d g other q.entry) j
  nothing j ne = subst (λ (z : Given). GivesNothing z j) (sym cell-is)
      (cell-elsewhere d g (q.entry / 16)
      (with_entry (value_of W.files d (q.entry / 16)) q.entry (spelled_entry it.inode it.generation other))
      machine.no_meta j ne (λ h. refl))

  pub rename-step : NameStep old H p (step.Rename d g name other) no_claims ((x.block, c) ∷ [])
  rename-step = record {
    given = rename_given W.files d g other q.entry;
    directory = d;
    file = 0;
    gives = record {
      is = gives-it W.files refl;
      claim = claim;
      nothing = λ j ne zero. nothing j ne;
      there = ap is_some own.is;
      used = λ j ne. quiet.used j;
      owned = λ live. absurd (let n : is_live (inode Y 0) ≡ false =
          ap is_live (write-records X x c on.geometry.fits on.geometry.multiple area 0 ∙ no-zero X) in
          cc (n, live));
    };
    ends = record {
      proper = proper-all;
      numbers = numbers;
      files = law.1;
      move = law-rename-homes W X Y d g q.entry (next_stamp W) name other own.file x it no_claims lies claim;
      writes = in-place-writes (next_stamp W) d 0 (q.entry / 16) X Y x held in-place;
    };
    row = record { once = (tt, tt); exact = refl };
  }

  pub rename-follows : Follows W (step.Rename d g name other) no_claims k
  rename-follows = quiet-follows X k W (step.Rename d g name other)
      (files_after W.files (rename_given W.files d g other q.entry)) o.says on.match o.homes
      o.homes_past quiet

-- Link: a new entry and the record of the file are written, in a slot that holds or in a hole.
use Rattle.std.proofs.Common.{◌≡◌, ◌≢◌, ℕ, zero, suc, ◌+◌, ◌-◌, ◌/◌, ◌%◌, ◌<◌, ◌≤◌, ◌⊎◌, inl, inr, Bool, true, false}
use Rattle.std.proofs.Common.{cond, ne_eqb, leb, leb-true, ◌&&◌, List}
use Rattle.std.proofs.Common.{[], ◌∷◌, length, Option, Some, None, is_some, IsTrue, refl, sym, ap, ◌∙◌, subst, arith}
use Rattle.std.proofs.Common.{Contains}
use Rattle.std.specs.Prelude.{slice_set}
use Rattle.nofs_dirent.specs.Entries.{entry_limit, spelled_entry}
use Rattle.nofs_disk.specs.Disk.{DiskState, IsDisk, cell_at}
use Rattle.nofs_dirent.specs.EntryLaws.{Spells}
use Rattle.nofs_inode.specs.declared.inode.FileKind.TheVariants.{Directory as Folder, File}
use Rattle.nofs_inode.specs.declared.inode.BackLink.{BackLink}
use Rattle.nofs_disk.specs.declared.tag.Cell.{Cell}
use Rattle.nofs_inode.specs.declared.inode.FileKind.{FileKind}
use Rattle.nofs_disk.specs.declared.tag.Pointer.{Pointer}
use Rattle.nofs_inode.specs.declared.inode.Record.{Record}
use Rattle.nofs_super.specs.declared.superblock.SuperBlock.{SuperBlock}
use Rattle.nofs_disk.specs.Tag.{tag_of}
use Rattle.nofs_inode.specs.InodeRecords.{record_at}
use Rattle.nofs_model.specs.Geometry.{Image, super_at, is_data_block, is_inode, inode}
use Rattle.nofs_ptrs.specs.Paths.{leaf, path_of}
use Rattle.nofs_model.specs.Slots.{find, record_pointer}
use Rattle.nofs_model.specs.Files.{files_in, agreed, is_folder, FileState, Files, links_of, links_in_file}
use Rattle.nofs_model.specs.Owners.{Home, home_at}
use Rattle.nofs_model.specs.declared.image.path.PathAnswer.TheVariants as answer
use Rattle.nofs_model.specs.declared.image.value.Value.{Value}
use Rattle.nofs_model.proofs.OnSlots.Find.{and-both, find-held}
use Rattle.nofs_model.proofs.OnSound.Writes.{supers}
use Rattle.nofs_crashlaw.specs.Images.Proper.{Proper}
use Rattle.nofs_crashlaw.specs.Images.Moments.{during}
use Rattle.nofs_history.specs.Marks.{Mark, mark_at}
use Rattle.nofs_history.specs.Meta.{Meta, Gone, Is, is_bytes, meta_of}
use Rattle.nofs_history.specs.Machine.{Given, link_given, link_place, link_to, set_link, cell_given, entry_given}
use Rattle.nofs_history.specs.Machine.{meta_given, files_after, is_at, is_paired, value_of, with_entry, place_for}
use Rattle.nofs_history.specs.World.{World, blocks_needed}
use Rattle.nofs_history.specs.Claims.{has_block, next_stamp, IsClaim}
use Rattle.nofs_history.specs.History.{FilesMatch}
use Rattle.nofs_history.specs.declared.machine.history.Claims.{Claims}
use Rattle.nofs_history.specs.declared.machine.history.Entry1.{Entry1}
use Rattle.nofs_history.specs.declared.machine.steps.Step.TheVariants as step
use Rattle.nofs_history.specs.Gives.{GivesNothing}
use Rattle.nofs_crashlaw.proofs.OnUntouched.Matches.{Matched, matched-agreed, matched-file}
use Rattle.nofs_crashlaw.specs.Maps.Fresh.{Numbered, CellNumbers}
use Rattle.nofs_crashlaw.specs.Names.OldEntries.{NameWrites, Relinked}
use Rattle.nofs_crashlaw.proofs.OnNames.Files.{file-of}
use Rattle.nofs_crashlaw.proofs.OnNames.InPlace.{cell-elsewhere, in-place-writes}
use Rattle.nofs_crashlaw.proofs.OnNames.Links.{record-in}
use Rattle.nofs_crashlaw.specs.Names.NewEntries.{LinkLies, EntryInPlace, EntryInHole}
use Rattle.nofs_crashlaw.specs.Homes.Entries.{EntryClaims}
use Rattle.nofs_crashlaw.specs.Numbers.Cells.{RecordWritten, table_tag}
use Rattle.nofs_state.specs.Cores.Invariant.{IsOpen, Past}
use Rattle.nofs_state.specs.declared.books.maps.Books.{Books}
use Rattle.nofs_disk.specs.Order.{OneOf, image_after}
use Rattle.nofs_crashlaw.proofs.OnNames.Holes.{hole-cell, hole-leaf-proper, hole-writes}
use Rattle.nofs_crashlaw.proofs.OnNames.Premises.{link-gives, link-place-parts, link-plain}
use Rattle.nofs_crashlaw.proofs.OnNames.NewLaws.{law-link-in-place, law-link-in-hole}
use Rattle.nofs_crashlaw.proofs.OnNames.Places.{law-entry-place}
use Rattle.nofs_crashlaw.proofs.OnHomes.NewEntries.{law-link-in-place-homes, law-link-in-hole-homes}
use Rattle.nofs_crashlaw.proofs.OnNumbers.NewEntries.{law-link-in-place-numbers, law-link-in-hole-numbers}
use Rattle.nofs_crashlaw.proofs.OnImages.Below.{live-stands}
use Rattle.nofs_state.proofs.OnBooks.Machine.{agreed-live}
use Rattle.nofs_state.proofs.OnWrites.Tables.{table_block}
use Rattle.nofs_state.proofs.OnBooks.ClaimedBlocks.{Takes}
use Rattle.nofs_names.proofs.OnSteps.Claims.{IsClaiming, claiming-follows, left-inode, taken-by}
use Rattle.nofs_names.proofs.OnSteps.OpenMount.{Follows, GivesName, OpenImage, WritesName, hole-area, hole-generation}
use Rattle.nofs_names.proofs.OnSteps.OpenMount.{open-image, table-numbers}
use Rattle.nofs_names.proofs.OnSteps.CellAndRecord.{KeepsFile, file-used, file-blocks}
use Rattle.nofs_names.specs.Links.{with_link}
use Rattle.nofs_names.proofs.OnEntries.HoleCells.{IsWritten}

entry-bytes : (v : Value) (e : ℕ) (bytes : List ℕ) → is_bytes (with_entry v e bytes) ≡ true
unfolding with_entry
entry-bytes v e bytes = refl

set-as : (links : List BackLink) (b : ℕ) (link : BackLink) → slice_set links b link ≡ set_link links b link
set-as [] b link = refl
set-as (l ∷ links) zero link = refl
set-as (l ∷ links) (suc b) link = ap (λ (ls : List BackLink). l ∷ ls) (set-as links b link)

meta-keeps : (i of j h : ℕ) (kind : FileKind) (size : ℕ) (links : List BackLink)
    → KeepsFile (meta_given i of (Is kind size links) j h)
meta-keeps i of j h kind size links = go (is_at i of j h)
  where
    go : (b : Bool) → KeepsFile (cond b (Some (Is kind size links)) None)
    go true = tt
    go false = tt

-- what a Link stands on: its directory, its file, the places of the entry and the back link, what was claimed, and the
-- new record
pub record Links (X Y : Image) (W : World) (d g : ℕ) (name : List ℕ) (i of e spot : ℕ) (c : Claims) : Type 0 where
  pub folder : (inode X d).kind ≡ Some Folder
  pub generation : (inode X d).generation ≡ g
  pub agrees : agreed (files_in X) d ≡ true
  pub file : (inode X i).kind ≡ Some File
  pub of_is : (inode X i).generation ≡ of
  pub there : agreed (files_in X) i ≡ true
  pub place : place_for W.files d name ≡ Some e
  pub link : link_place W.files i ≡ Some spot
  pub claim : IsClaim W (step.Link d g name i of) c
  pub spells : Spells (spelled_entry i of name) (record { inode = i; generation = of; name = name })
  pub record_is : inode Y i ≡ with_link (inode X i) spot (link_to d e g)

-- its writes where the entry's slot holds the block x
pub record LinksInPlace (X Y : Image) (d e i of : ℕ) (name : List ℕ) (x : Pointer) (ws : List (ℕ × Cell)) : Type 0 where
  pub entry : EntryInPlace X Y d e i (spelled_entry i of name) x
  pub tag : tag_of (cell_at Y (table_block i)).tag ≡ Some (table_tag (table_block i))
  pub each : (b : ℕ) (cell : Cell) → OneOf ws b cell → (cell ≡ cell_at Y b) × ((b ≡ x.block) ⊎ (b ≡ table_block i))

-- and where it is a hole, with the leaf y above it
pub record LinksInHole (s : ℕ) (X Y : Image) (F : Files) (d e i of : ℕ) (c : Claims) (name : List ℕ) (x y : Pointer)
    (stamps : ℕ) (ws : List (ℕ × Cell)) :
    Type 0 where
  pub entry : EntryInHole s X Y d e i (spelled_entry i of name) x y
  pub claims : EntryClaims F c d e name x y
  pub newer : stamps ≤ x.stamp
  pub leaf_newer : stamps ≤ y.stamp ⊎ ((z : Pointer) × (find X d leaf ≡ answer.Holds z))
  pub each : (b : ℕ) (cell : Cell) → OneOf ws b cell → IsWritten X Y e x y b cell

module _ (old : DiskState) (k : Books) (H : List Entry1) (p : Past) (d g : ℕ) (name : List ℕ) (i of e spot : ℕ)
    (c : Claims) (ws : List (ℕ × Cell))
    (is_old : IsDisk old) (tells : IsTrue old.tells) (o : IsOpen old k H p)
    (it : Links old.now (image_after ws old.now) p.world d g name i of e spot c) where
  abbrev W : World
  W = p.world

  abbrev X : Image
  X = old.now

  abbrev Y : Image
  Y = image_after ws X

  on : OpenImage old H p
  on = open-image old k H p is_old tells o

  own : Matched W.files X d
  own = matched-agreed W.files X d on.match (agreed-live X d it.agrees) it.agrees

  his : Matched W.files X i
  his = matched-agreed W.files X i on.match (agreed-live X i it.there) it.there

  own-kind : own.file.kind ≡ Folder
  own-kind = let e : Some own.file.kind ≡ Some Folder =
      sym (file-of W.files X d own.file on.match own.is).0 ∙ it.folder in cc e

  his-kind : his.file.kind ≡ File
  his-kind = let e : Some his.file.kind ≡ Some File =
      sym (file-of W.files X i his.file on.match his.is).0 ∙ it.file in cc e

  generation : own.file.generation ≡ g
  generation = own.generation ∙ it.generation

  at : (e < entry_limit) × (is_paired W.files d e ≡ false) ×
      (((x : Pointer) × (find X d (path_of (e / 16)) ≡ answer.Holds x)) ⊎ (find X d (path_of (e / 16)) ≡ answer.Hole))
  at = law-entry-place W.files X d e name own.file on.match own.is it.place

  parts : (i ≢ 2) × (spot < length (links_of W.files i))
  parts = link-place-parts W.files i spot it.link

  -- the file is no directory
  pub apart : d ≢ i
  apart t = let z : Some Folder ≡ Some File = sym it.folder ∙ ap (λ (n : ℕ). (inode X n).kind) t ∙ it.file in cc z

  relinked : Relinked X Y i (set_link his.file.links spot (link_to d e g))
  relinked = record {
    kind = ap (λ (q : Record). q.kind) it.record_is;
    generation = ap (λ (q : Record). q.generation) it.record_is;
    size = ap (λ (q : Record). q.size) it.record_is;
    links = ap (λ (q : Record). q.links) it.record_is ∙ set-as (inode X i).links spot (link_to d e g) ∙ ap
        (λ (ls : List BackLink). set_link ls spot (link_to d e g)) (sym his.links);
    pointers = λ n lt. ap (λ (q : Record). record_pointer q n) it.record_is;
  }

  lies : LinkLies W.files X Y d g e i of spot (next_stamp W) name own.file his.file
  lies = record {
    files = on.match;
    is = own.is;
    is_file = his.is;
    generation = generation;
    of_is = his.generation ∙ it.of_is;
    folder = ap is_folder own-kind;
    file = ap is_folder his-kind;
    range = at.0;
    unpaired = at.1;
    plain = link-plain W.files X i his.file on.match his.is (ap is_folder his-kind) parts.0;
    place = subst (λ (o : Option FileState). spot < length (links_in_file o)) his.is parts.1;
    spells = it.spells;
    linked = relinked;
    old = λ j some. on.pointers j (matched-file W.files X j on.match some).live;
  }

  -- What the step gives

  abbrev metas : ℕ → ℕ → Option Meta
  metas = meta_given i of (Is his.file.kind his.file.size (set_link his.file.links spot (link_to d e g)))

  -- it gives a cell and a meta
  cell-is : link_given W.files d g name i of e spot ≡ cell_given d g (e / 16)
      (with_entry (value_of W.files d (e / 16)) e (spelled_entry i of name)) metas
  cell-is = ap (λ (q : Meta). entry_given W.files d g e (spelled_entry i of name) (meta_given i of q))
      (ap (λ (f : Option FileState).
      elim f [ None ↦ Gone | Some q ↦ Is q.kind q.size (set_link q.links spot (link_to d e g)) ]) his.is)

  used : (j : ℕ) → is_some (files_after W.files (link_given W.files d g name i of e spot) j) ≡ is_some (W.files j)
  used j = ap (λ (z : Given). is_some (files_after W.files z j)) cell-is
      ∙ file-used W.files d g (e / 16) (with_entry (value_of W.files d (e / 16)) e (spelled_entry i of name)) metas j
      (λ h. meta-keeps i of j h his.file.kind his.file.size (set_link his.file.links spot (link_to d e g)))

  blocks : (home : Home) → has_block W.files home ≡ true
      → has_block (files_after W.files (link_given W.files d g name i of e spot)) home ≡ true
  blocks home h = subst (λ (z : Given). has_block (files_after W.files z) home ≡ true) (sym cell-is)
      (file-blocks W.files d g (e / 16)
      (with_entry (value_of W.files d (e / 16)) e (spelled_entry i of name)) metas home.inode
      (λ q. meta-keeps i of home.inode q his.file.kind his.file.size
      (set_link his.file.links spot (link_to d e g))) home.slot
      (entry-bytes (value_of W.files d (e / 16)) e (spelled_entry i of name)) h)

  nothing : (j : ℕ) → j ≢ d → j ≢ i → GivesNothing (link_given W.files d g name i of e spot) j
  nothing j nd ni = subst (λ (z : Given). GivesNothing z j) (sym cell-is)
      (cell-elsewhere d g (e / 16) (with_entry (value_of W.files d (e / 16)) e (spelled_entry i of name)) metas j nd
      (λ h. let w = ne_eqb i j (λ t. ni (sym t)) in rw w refl))

  claiming : IsClaiming W (step.Link d g name i of) c (files_after W.files (link_given W.files d g name i of e spot))
      (home_at d (e / 16))
  claiming = record {
    slot = let s = it.place in rw s refl;
    claim = it.claim;
    files = ap (files_after W.files) (link-gives W.files d g name i of c e spot it.place it.link);
    blocks = blocks;
    sees_no_inode = λ j. refl;
    sees_no_block = λ q. refl;
  }

  pub link-given : GivesName W Y (step.Link d g name i of) c (link_given W.files d g name i of e spot) d i
  link-given = record {
    is = link-gives W.files d g name i of c e spot it.place it.link;
    claim = it.claim;
    nothing = nothing;
    there = ap is_some own.is;
    used = λ j ne. used j;
    owned = λ live. used i ∙ ap is_some his.is;
  }

  -- the books say what the machine has after it
  pub link-follows : (l : Books) (m : ℕ) → Takes k l c m
      → blocks_needed W.files (step.Link d g name i of) ≡ m → Follows W (step.Link d g name i of) c l
  link-follows l m takes needs = claiming-follows X k l W (step.Link d g name i of) c m
      (files_after W.files (link_given W.files d g name i of e spot))
      (home_at d (e / 16)) o.says on.match o.homes o.homes_past claiming
      (taken-by k l c m takes) (omega (arith, needs))
      (left-inode W k l c m (files_after W.files (link_given W.files d g name i of e spot)) takes used)

  table-low : table_block i ≤ (super_at X).inodes / 4
  table-low =
      let range = and-both (leb 1 i) (leb i (super_at X).inodes) (live-stands X i his.live).range in
      let low = leb-true 1 i range.0 in
      let high = leb-true i (super_at X).inodes range.1 in
      let q = on.geometry.multiple in
      omega (arith, low, high, q)

  -- The entry's slot holds

  pub in-place-ends : (x : Pointer) → LinksInPlace X Y d e i of name x ws
      → WritesName old H p (step.Link d g name i of) c (link_given W.files d g name i of e spot) d i ws
  in-place-ends x h = record {
    proper = λ b cell one. let q = h.each b cell one in subst
        (λ (z : Cell). Proper (during (mark_at p.base H (old.moment + 1) p.mark p.stamps)
        (link_given W.files d g name i of e spot)) X b z) (sym q.0)
        (proper-at b q.1);
    numbers = λ b cell one. let q = h.each b cell one in
        subst (λ (z : Cell). CellNumbers (Numbered W c) X b z) (sym q.0) (numbers-at b q.1);
    files = law.2;
    move = law-link-in-place-homes W X Y d g e i of spot
        (next_stamp W) name own.file his.file x c lies h.entry it.place it.claim;
    writes = in-place-writes (next_stamp W) d i (e / 16) X Y x h.entry.held h.entry.writes;
  }
    where
      law : ((m : Mark) → is_data_block m.image x.block ≡ true
          → Proper (during m (link_given W.files d g name i of e spot)) X x.block (cell_at Y x.block))
          × ((m : Mark) → super_at m.image ≡ super_at Y → is_data_block m.image (1 + (i - 1) / 4) ≡ false
          → Proper (during m (link_given W.files d g name i of e spot)) X (1 + (i - 1) / 4)
          (cell_at Y (1 + (i - 1) / 4)))
          × FilesMatch (files_after W.files (link_given W.files d g name i of e spot)) Y
      law = law-link-in-place W.files X Y d g e i of spot (next_stamp W) name own.file his.file x lies h.entry

      proper-at : (b : ℕ) → (b ≡ x.block) ⊎ (b ≡ table_block i)
          → Proper (during (mark_at p.base H (old.moment + 1) p.mark p.stamps)
          (link_given W.files d g name i of e spot)) X b (cell_at Y b)
      proper-at b (inl eb) = subst (λ (n : ℕ). Proper
          (during (mark_at p.base H (old.moment + 1) p.mark p.stamps) (link_given W.files d g name i of e spot)) X
          n (cell_at Y n)) (sym eb)
          (law.0 (mark_at p.base H (old.moment + 1) p.mark p.stamps)
          (on.area x.block (find-held X d (path_of (e / 16)) x h.entry.held).agrees.area))
      proper-at b (inr eb) = subst (λ (n : ℕ). Proper
          (during (mark_at p.base H (old.moment + 1) p.mark p.stamps) (link_given W.files d g name i of e spot)) X
          n (cell_at Y n)) (sym eb)
          (law.1 (mark_at p.base H (old.moment + 1) p.mark p.stamps) (on.super ∙ sym (supers X Y h.entry.writes.super))
          (on.table (table_block i) table-low))

      numbered : CellNumbers (Numbered W c) X x.block (cell_at Y x.block)
          × ((j : ℕ) → RecordWritten W c X j (inode Y j))
      numbered = law-link-in-place-numbers W X Y d g e i of spot
          (next_stamp W) name own.file his.file x c on.numbers lies h.entry

      numbers-at : (b : ℕ) → (b ≡ x.block) ⊎ (b ≡ table_block i) → CellNumbers (Numbered W c) X b (cell_at Y b)
      numbers-at b (inl eb) = subst (λ (n : ℕ). CellNumbers (Numbered W c) X n (cell_at Y n)) (sym eb) numbered.0
      numbers-at b (inr eb) = subst (λ (n : ℕ). CellNumbers (Numbered W c) X n (cell_at Y n)) (sym eb)
          (table-numbers W c X Y on.numbers numbered.1 h.entry.writes.super (table_block i)
          (cell_at Y (table_block i)) refl h.tag)

  -- It is a hole

  pub in-hole-ends : (x y : Pointer) → LinksInHole (next_stamp W) X Y W.files d e i of c name x y p.stamps ws
      → WritesName old H p (step.Link d g name i of) c (link_given W.files d g name i of e spot) d i ws
  in-hole-ends x y h = record {
    proper = λ b cell one. let q = h.each b cell one in subst
        (λ (z : Cell). Proper (during (mark_at p.base H (old.moment + 1) p.mark p.stamps)
        (link_given W.files d g name i of e spot)) X b z) (sym q.0)
        (proper-at b cell q.0 q.1);
    numbers = λ b cell one. let q = h.each b cell one in
        subst (λ (z : Cell). CellNumbers (Numbered W c) X b z) (sym q.0) (numbers-at b cell q.0 q.1);
    files = law.2;
    move = law-link-in-hole-homes W X Y d g e i of spot
        (next_stamp W) name own.file his.file x y c lies h.entry h.claims it.claim;
    writes = writes;
  }
    where
      writes : NameWrites (next_stamp W) d i X Y
      writes = hole-writes (next_stamp W) X Y d i (e / 16) x y h.entry.claimed

      law : ((m : Mark) → is_data_block m.image x.block ≡ true → (inode Y d).generation ≡ own.file.generation
          → Proper (during m (link_given W.files d g name i of e spot)) X x.block (cell_at Y x.block))
          × ((m : Mark) (t : ℕ) (z : Cell) → 0 < t → is_data_block m.image t ≡ false
          → ((j : ℕ) → is_inode m.image j ≡ true → 1 + (j - 1) / 4 ≡ t
          → (record_at z.payload ((j - 1) % 4) ≡ inode X j) ⊎ (record_at z.payload ((j - 1) % 4) ≡ inode Y j))
          → Contains (m.metas d (inode X d).generation) (meta_of (inode X d)) → m.stamps ≤ x.stamp
          → m.stamps ≤ y.stamp ⊎ ((q : Pointer) × (find X d leaf ≡ answer.Holds q))
          → Proper (during m (link_given W.files d g name i of e spot)) X t z)
          × FilesMatch (files_after W.files (link_given W.files d g name i of e spot)) Y
      law = law-link-in-hole W.files X Y d g e i of spot (next_stamp W) name own.file his.file x y lies h.entry

      proper-at : (b : ℕ) (cell : Cell) → cell ≡ cell_at Y b
          → (b ≡ x.block) ⊎ (((8 ≤ e / 16) × (b ≡ y.block))
          ⊎ ((0 < b) × (b ≤ (super_at X).inodes / 4) × (tag_of cell.tag ≡ Some (table_tag b))))
          → Proper (during (mark_at p.base H (old.moment + 1) p.mark p.stamps)
          (link_given W.files d g name i of e spot)) X b (cell_at Y b)
      proper-at b cell is (inl eb) = subst (λ (n : ℕ). Proper
          (during (mark_at p.base H (old.moment + 1) p.mark p.stamps) (link_given W.files d g name i of e spot)) X n
          (cell_at Y n)) (sym eb)
          (law.0 (mark_at p.base H (old.moment + 1) p.mark p.stamps)
          (on.area x.block (hole-cell (next_stamp W) X Y d i (e / 16) x y h.entry.claimed).area)
          (hole-generation (next_stamp W) X Y d i (e / 16) x y apart h.entry.claimed ∙ sym own.generation))
      proper-at b cell is (inr (inl far)) = subst (λ (n : ℕ). Proper
          (during (mark_at p.base H (old.moment + 1) p.mark p.stamps) (link_given W.files d g name i of e spot)) X n
          (cell_at Y n)) (sym far.1)
          (hole-leaf-proper (next_stamp W) (mark_at p.base H (old.moment + 1) p.mark p.stamps)
          (link_given W.files d g name i of e spot) X Y d i (e / 16) x y
          on.survives.reads own.live h.entry.empty (on.area y.block (hole-area (next_stamp W) X Y d i
          (e / 16) x y h.entry.claimed far.0)) h.newer far.0 h.entry.claimed)
      proper-at b cell is (inr (inr low)) =
          law.1 (mark_at p.base H (old.moment + 1) p.mark p.stamps) b (cell_at Y b) low.0 (on.table b low.1)
          (λ j range same. inr (ap (λ (n : ℕ). record_at (cell_at Y n).payload ((j - 1) % 4)) (sym same) ∙ record-in Y j
          (ap (λ (q : SuperBlock). leb 1 j && leb j q.inodes) (supers X Y writes.super ∙ sym on.super) ∙ range)))
          (on.survives.reads.metas d own.live) h.newer h.leaf_newer

      numbered : CellNumbers (Numbered W c) X x.block (cell_at Y x.block)
          × (8 ≤ e / 16 → CellNumbers (Numbered W c) X y.block (cell_at Y y.block)) ×
          ((j : ℕ) → RecordWritten W c X j (inode Y j))
      numbered = law-link-in-hole-numbers W X Y d g e i of spot
          (next_stamp W) name own.file his.file x y c on.numbers lies h.entry h.claims it.claim

      numbers-at : (b : ℕ) (cell : Cell) → cell ≡ cell_at Y b
          → (b ≡ x.block) ⊎ (((8 ≤ e / 16) × (b ≡ y.block))
          ⊎ ((0 < b) × (b ≤ (super_at X).inodes / 4) × (tag_of cell.tag ≡ Some (table_tag b))))
          → CellNumbers (Numbered W c) X b (cell_at Y b)
      numbers-at b cell is (inl eb) =
          subst (λ (n : ℕ). CellNumbers (Numbered W c) X n (cell_at Y n)) (sym eb) numbered.0
      numbers-at b cell is (inr (inl far)) =
          subst (λ (n : ℕ). CellNumbers (Numbered W c) X n (cell_at Y n)) (sym far.1) (numbered.1 far.0)
      numbers-at b cell is (inr (inr low)) = subst (λ (z : Cell). CellNumbers (Numbered W c) X b z) is
          (table-numbers W c X Y on.numbers numbered.2 writes.super b cell is low.2)

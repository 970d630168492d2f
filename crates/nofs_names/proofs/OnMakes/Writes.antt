-- Make: a new entry and the record of a claimed inode are written.
use Rattle.std.proofs.Common.{◌≡◌, ◌≢◌, ℕ, ◌+◌, ◌-◌, ◌/◌, ◌%◌, ◌<◌, ◌≤◌, ◌⊎◌, inl, inr, Bool, true, false, cond, eqb}
use Rattle.std.proofs.Common.{ne_eqb, leb, ltb, ◌&&◌, ◌||◌, not, List}
use Rattle.std.proofs.Common.{Option, Some, None, is_some, IsTrue, refl, sym, ap, ◌∙◌, subst, subst₂, arith, Contains}
use Rattle.std.proofs.lemmas.Bool.{cases_eq}
use Rattle.nofs_dirent.specs.Entries.{entry_limit, spelled_entry}
use Rattle.nofs_ptrs.specs.Paths.{slot_limit, leaf, Path, path_of}
use Rattle.nofs_disk.specs.Disk.{DiskState, IsDisk, cell_at}
use Rattle.nofs_inode.specs.declared.inode.FileKind.TheVariants.{Directory as Folder}
use Rattle.nofs_disk.specs.declared.tag.Cell.{Cell}
use Rattle.nofs_inode.specs.declared.inode.FileKind.{FileKind}
use Rattle.nofs_disk.specs.declared.tag.Pointer.{Pointer}
use Rattle.nofs_super.specs.declared.superblock.SuperBlock.{SuperBlock}
use Rattle.nofs_inode.specs.InodeRecords.{record_at}
use Rattle.nofs_model.specs.Geometry.{Image, super_at, is_data_block, is_inode, inode}
use Rattle.nofs_model.specs.Slots.{find}
use Rattle.nofs_model.specs.Files.{agreed, is_folder, is_special, FileState, Files, Present}
use Rattle.nofs_model.specs.Owners.{Home, home_at}
use Rattle.nofs_model.specs.declared.image.path.PathAnswer.TheVariants as answer
use Rattle.nofs_model.proofs.OnSlots.Find.{find-held}
use Rattle.nofs_model.proofs.OnSound.Writes.{supers}
use Rattle.nofs_crashlaw.specs.Images.Proper.{Proper}
use Rattle.nofs_crashlaw.specs.Images.Moments.{during}
use Rattle.nofs_history.specs.Marks.{Mark, mark_at}
use Rattle.nofs_history.specs.Meta.{Meta}
use Rattle.nofs_history.specs.Machine.{make_given, is_at, lies_above, files_after, value_of, with_entry}
use Rattle.nofs_history.specs.World.{World, blocks_needed}
use Rattle.nofs_history.specs.Claims.{has_block, next_stamp}
use Rattle.nofs_history.specs.History.{FilesMatch}
use Rattle.nofs_history.specs.declared.machine.history.Claims.{Claims}
use Rattle.nofs_history.specs.declared.machine.history.Entry1.{Entry1}
use Rattle.nofs_history.specs.declared.machine.steps.Step.TheVariants as step
use Rattle.nofs_crashlaw.proofs.OnUntouched.Matches.{Matched, matched-agreed, matched-file}
use Rattle.nofs_crashlaw.specs.Maps.Fresh.{Numbered, CellNumbers}
use Rattle.nofs_crashlaw.proofs.OnMaps.Fresh.{old-record}
use Rattle.nofs_crashlaw.specs.Names.OldEntries.{NameWrites}
use Rattle.nofs_crashlaw.proofs.OnNames.Files.{file-of}
use Rattle.nofs_crashlaw.proofs.OnNames.InPlace.{in-place-writes}
use Rattle.nofs_crashlaw.specs.Names.NewEntries.{first_links, MakeLies}
use Rattle.nofs_crashlaw.specs.Numbers.Cells.{RecordWritten}
use Rattle.nofs_state.specs.Cores.Invariant.{IsOpen, Past}
use Rattle.nofs_state.specs.declared.books.maps.Books.{Books}
use Rattle.nofs_disk.specs.Order.{image_after}
use Rattle.nofs_crashlaw.proofs.OnNames.Gives.{make-birth, make-nothing}
use Rattle.nofs_crashlaw.proofs.OnNames.Holes.{hole-cell, hole-leaf-proper, hole-writes}
use Rattle.nofs_crashlaw.proofs.OnNames.NewEntries.{birth-is}
use Rattle.nofs_crashlaw.proofs.OnNames.Premises.{make-given-is}
use Rattle.nofs_crashlaw.proofs.OnNames.NewLaws.{law-make-in-place, law-make-in-hole}
use Rattle.nofs_crashlaw.proofs.OnNames.Places.{law-entry-place}
use Rattle.nofs_crashlaw.proofs.OnHomes.NewEntries.{law-make-in-place-homes, law-make-in-hole-homes}
use Rattle.nofs_crashlaw.proofs.OnNumbers.NewEntries.{law-make-in-place-numbers, law-make-in-hole-numbers}
use Rattle.nofs_crashlaw.proofs.OnNumbers.Tables.{law-table-moment}
use Rattle.nofs_crashlaw.proofs.OnHistories.Marks.{stands-none}
use Rattle.nofs_crashlaw.proofs.OnHistories.Stages.{all-begun}
use Rattle.nofs_state.proofs.OnBooks.Machine.{agreed-live}
use Rattle.nofs_state.proofs.OnWrites.Tables.{table_block}
use Rattle.nofs_names.proofs.OnSteps.NoClaims.{block_in}
use Rattle.nofs_names.proofs.OnSteps.Claims.{InodeWas, inode-was, IsClaiming, TakenBoth, claiming-follows, made-inode}
use Rattle.nofs_names.proofs.OnSteps.OpenMount.{Follows, GivesName, OpenImage, WritesName, hole-area, hole-generation}
use Rattle.nofs_names.proofs.OnSteps.OpenMount.{open-image, table-numbers}
use Rattle.nofs_names.proofs.OnMakes.Premises.{entry-bytes, file-stays, KeepsValue, KeepsNode, block-stays, Makes}
use Rattle.nofs_names.proofs.OnMakes.Premises.{WritesInPlace, IsHoleWrite, OfEntry, OfLeaf, OfTable, WritesInHole}

module _ (old : DiskState) (k : Books) (H : List Entry1) (p : Past) (d g : ℕ) (name : List ℕ) (kind : FileKind) (e : ℕ)
    (c : Claims) (ws : List (ℕ × Cell))
    (is_old : IsDisk old) (tells : IsTrue old.tells) (o : IsOpen old k H p)
    (it : Makes old.now (image_after ws old.now) p.world d g name kind e c) where
  abbrev W : World
  W = p.world

  abbrev X : Image
  X = old.now

  abbrev Y : Image
  Y = image_after ws old.now

  on : OpenImage old H p
  on = open-image old k H p is_old tells o

  own : Matched W.files X d
  own = matched-agreed W.files X d on.match (agreed-live X d it.agrees) it.agrees

  own-kind : own.file.kind ≡ Folder
  own-kind = let e : Some own.file.kind ≡ Some Folder =
      sym (file-of W.files X d own.file on.match own.is).0 ∙ it.folder in cc e

  generation : own.file.generation ≡ g
  generation = own.generation ∙ it.generation

  at : (e < entry_limit) × (Rattle.nofs_history.specs.Machine.is_paired W.files d e ≡ false) ×
      (((x : Pointer) × (find X d (path_of (e / 16)) ≡ answer.Holds x)) ⊎ (find X d (path_of (e / 16)) ≡ answer.Hole))
  at = law-entry-place W.files X d e name own.file on.match own.is it.place

  was : InodeWas W c
  was = inode-was W (step.Make d g name kind) c it.claim refl

  -- the claimed inode is no file, and no special one
  free : (is_special c.inode ≡ false) × (W.files c.inode ≡ None)
  free = go (W.files c.inode) refl (W.known_inodes c.inode) (is_special c.inode) was.free
    where
      go : (f : Option FileState) → W.files c.inode ≡ f → (a b : Bool)
          → (a && not (b || is_some f)) ≡ true → (b ≡ false) × (W.files c.inode ≡ None)
      go None ef true false h = (refl, ef)
      go None ef true true h = cc h
      go None ef false b h = cc h
      go (Some f) ef true false h = cc h
      go (Some f) ef true true h = cc h
      go (Some f) ef false b h = cc h

  lies : MakeLies W.files X Y d g e (next_stamp W) name kind c own.file
  lies = record {
    files = on.match;
    is = own.is;
    generation = generation;
    folder = ap is_folder own-kind;
    range = at.0;
    unpaired = at.1;
    none = free.1;
    plain = free.0;
    young =
        let a = own.generation in
        let b = (old-record (next_stamp W) X d o.mountable on.numbers.below own.live).generation in
        let q = was.generation in
        omega (arith, a, b, q);
    spells = it.spells;
    made = it.made;
    old = λ j some. on.pointers j (matched-file W.files X j on.match some).live;
  }

  apart : c.inode ≢ d
  apart t = let z : W.files d ≡ None = subst (λ (q : ℕ). W.files q ≡ None) t free.1 in let s = own.is in cc (z, s)

  -- What the step gives

  no-birth : (j : ℕ) → j ≢ c.inode → (make_given W.files d g name kind c e).born j ≡ None
  no-birth j ne = let w = ne_eqb j c.inode ne in rw w refl

  no-meta : (j : ℕ) → j ≢ c.inode → (h : ℕ) → (make_given W.files d g name kind c e).metas j h ≡ None
  no-meta j ne h = let w = ne_eqb j c.inode ne in rw w refl

  values-stay : (j : ℕ) → j ≢ c.inode → (h l : ℕ) → KeepsValue ((make_given W.files d g name kind c e).slots j h l)
  values-stay j ne h l = let y = ne_eqb c.inode j (λ t. ne (sym t)) in rw y (go (is_at d g j h && eqb (e / 16) l))
    where
      go : (b : Bool) → KeepsValue
          (cond b (Some (with_entry (value_of W.files d (e / 16)) e (spelled_entry c.inode c.generation name))) None)
      go true = entry-bytes (value_of W.files d (e / 16)) e (spelled_entry c.inode c.generation name)
      go false = tt

  nodes-stay : (j h : ℕ) (path : Path) → KeepsNode ((make_given W.files d g name kind c e).nodes j h path)
  nodes-stay j h path = go (is_at d g j h && lies_above path (path_of (e / 16)))
    where
      go : (b : Bool) → KeepsNode (cond b (Some Present) None)
      go true = refl
      go false = tt

  made-file : is_some (files_after W.files (make_given W.files d g name kind c e) c.inode) ≡ true
  made-file = ap is_some
      (birth-is W.files (make_given W.files d g name kind c e) c.inode c.generation kind (first_links d e g)
      (make-birth W.files d g e name kind c apart))

  used : (j : ℕ)
      → j ≢ c.inode → is_some (files_after W.files (make_given W.files d g name kind c e) j) ≡ is_some (W.files j)
  used j ne = file-stays W.files (make_given W.files d g name kind c e) j (no-birth j ne) (no-meta j ne)

  blocks : (home : Home) → has_block W.files home ≡ true
      → has_block (files_after W.files (make_given W.files d g name kind c e)) home ≡ true
  blocks home h = elim (cases_eq home.inode c.inode) [
    | inl here ↦ absurd (nothing (ltb home.slot slot_limit)
        (subst (λ (f : Option FileState). block_in f home.slot ≡ true) (ap W.files here ∙ free.1) h))
    | inr ne ↦ block-stays W.files (make_given W.files d g name kind c e) home.inode home.slot (no-birth home.inode ne)
        (no-meta home.inode ne)
        (values-stay home.inode ne) (nodes-stay home.inode) h
  ]
    where
      nothing : (b : Bool) → cond b false false ≡ true → ⊥
      nothing true t = cc t
      nothing false t = cc t

  claiming : IsClaiming W (step.Make d g name kind) c (files_after W.files (make_given W.files d g name kind c e))
      (home_at d (e / 16))
  claiming = record {
    slot = let s = it.place in rw s refl;
    claim = it.claim;
    files = ap (files_after W.files) (make-given-is W.files d g name kind c e it.place);
    blocks = blocks;
    sees_no_inode = λ j. refl;
    sees_no_block = λ q. refl;
  }

  pub make-gives : GivesName W Y (step.Make d g name kind) c (make_given W.files d g name kind c e) d c.inode
  make-gives = record {
    is = make-given-is W.files d g name kind c e it.place;
    claim = it.claim;
    nothing = make-nothing W.files d g e name kind c apart;
    there = ap is_some own.is;
    used = used;
    owned = λ live. made-file;
  }

  -- the books say what the machine has after it
  pub make-follows : (l : Books) (m : ℕ) → TakenBoth k l c m
      → blocks_needed W.files (step.Make d g name kind) ≡ m → Follows W (step.Make d g name kind) c l
  make-follows l m taken needs = claiming-follows X k l W (step.Make d g name kind) c (1 + m)
      (files_after W.files (make_given W.files d g name kind c e))
      (home_at d (e / 16)) o.says on.match o.homes o.homes_past claiming taken.all
      (omega (arith, needs))
      (made-inode W k l c (files_after W.files (make_given W.files d g name kind c e)) was taken.inode made-file used)

  -- nothing stands there for the claimed inode, and its generation is newer
  none-stands : (q : ℕ) → (mark_at p.base H (old.moment + 1) p.mark p.stamps).stands c.inode q ≡ false
  none-stands = stands-none p.base H (old.moment + 1) c.inode
      (all-begun H old.moment (old.moment + 1) (omega arith) o.stage.lasts.by)
      (ap (λ (F : Files). F c.inode) (sym o.files) ∙ free.1)

  newer : p.stamps ≤ c.generation
  newer = let a = o.older in let q = was.generation in omega (arith, a, q)

  table-low : table_block c.inode ≤ (super_at X).inodes / 4
  table-low =
      let low = was.low in
      let high = was.high in
      let n : W.inodes ≡ (super_at X).inodes = o.says.inodes ∙ ap (λ (q : SuperBlock). q.inodes) (sym o.at) in
      let q = on.geometry.multiple in
      omega (arith, low, high, n, q)

  -- The entry's slot holds

  pub in-place-ends : (x : Pointer) → WritesInPlace X Y d e c name x ws
      → WritesName old H p (step.Make d g name kind) c (make_given W.files d g name kind c e) d c.inode ws
  in-place-ends x h = record {
    proper = λ b cell one. let q = h.each b cell one in subst (λ (z : Cell). Proper
        (during (mark_at p.base H (old.moment + 1) p.mark p.stamps) (make_given W.files d g name kind c e)) X b z)
        (sym q.0) (proper-at b q.1);
    numbers = λ b cell one. let q = h.each b cell one in
        subst (λ (z : Cell). CellNumbers (Numbered W c) X b z) (sym q.0) (numbers-at b q.1);
    files = law.2;
    move = law-make-in-place-homes W X Y d g e (next_stamp W) name kind c own.file x lies h.entry it.place it.claim;
    writes = in-place-writes (next_stamp W) d c.inode (e / 16) X Y x h.entry.held h.entry.writes;
  }
    where
      law : ((m : Mark) → is_data_block m.image x.block ≡ true
          → Proper (during m (make_given W.files d g name kind c e)) X x.block (cell_at Y x.block))
          × ((m : Mark) → super_at m.image ≡ super_at Y
          → is_data_block m.image (1 + (c.inode - 1) / 4) ≡ false → m.stamps ≤ c.generation
          → ((q : ℕ) → m.stands c.inode q ≡ false)
          → Proper (during m (make_given W.files d g name kind c e)) X (1 + (c.inode - 1) / 4)
          (cell_at Y (1 + (c.inode - 1) / 4)))
          × FilesMatch (files_after W.files (make_given W.files d g name kind c e)) Y
      law = law-make-in-place W.files X Y d g e (next_stamp W) name kind c own.file x lies h.entry

      proper-at : (b : ℕ) → (b ≡ x.block) ⊎ (b ≡ table_block c.inode) → Proper
          (during (mark_at p.base H (old.moment + 1) p.mark p.stamps) (make_given W.files d g name kind c e))
          X b (cell_at Y b)
      proper-at b (inl eb) = subst (λ (n : ℕ).
          Proper (during (mark_at p.base H (old.moment + 1) p.mark p.stamps) (make_given W.files d g name kind c e)) X n
          (cell_at Y n)) (sym eb)
          (law.0 (mark_at p.base H (old.moment + 1) p.mark p.stamps)
          (on.area x.block (find-held X d (path_of (e / 16)) x h.entry.held).agrees.area))
      proper-at b (inr eb) = subst (λ (n : ℕ).
          Proper (during (mark_at p.base H (old.moment + 1) p.mark p.stamps) (make_given W.files d g name kind c e)) X n
          (cell_at Y n)) (sym eb)
          (law.1 (mark_at p.base H (old.moment + 1) p.mark p.stamps) (on.super ∙ sym (supers X Y h.entry.writes.super))
          (on.table (table_block c.inode) table-low) newer none-stands)

      numbered : CellNumbers (Numbered W c) X x.block (cell_at Y x.block)
          × ((j : ℕ) → RecordWritten W c X j (inode Y j))
      numbered = law-make-in-place-numbers W X Y d g e
          (next_stamp W) name kind c own.file x on.numbers lies h.entry it.claim

      numbers-at : (b : ℕ) → (b ≡ x.block) ⊎ (b ≡ table_block c.inode) → CellNumbers (Numbered W c) X b (cell_at Y b)
      numbers-at b (inl eb) = subst (λ (n : ℕ). CellNumbers (Numbered W c) X n (cell_at Y n)) (sym eb) numbered.0
      numbers-at b (inr eb) = subst (λ (n : ℕ). CellNumbers (Numbered W c) X n (cell_at Y n)) (sym eb)
          (table-numbers W c X Y on.numbers numbered.1 h.entry.writes.super (table_block c.inode)
          (cell_at Y (table_block c.inode)) refl h.tag)

  -- It is a hole

  pub in-hole-ends : (y : Pointer) → WritesInHole (next_stamp W) X Y W.files d e c name y p.stamps ws
      → WritesName old H p (step.Make d g name kind) c (make_given W.files d g name kind c e) d c.inode ws
  in-hole-ends y h = record {
    proper = λ b cell one. proper-at b cell (h.each b cell one).1;
    numbers = λ b cell one. numbers-at b cell (h.each b cell one).1;
    files = law.2;
    move = law-make-in-hole-homes W X Y d g e (next_stamp W) name kind c own.file y lies h.entry h.claims it.claim;
    writes = writes;
  }
    where
      writes : NameWrites (next_stamp W) d c.inode X Y
      writes = hole-writes (next_stamp W) X Y d c.inode (e / 16) c.cell y h.entry.claimed

      law : ((m : Mark) → is_data_block m.image c.cell.block ≡ true → (inode Y d).generation ≡ own.file.generation
          → Proper (during m (make_given W.files d g name kind c e)) X c.cell.block (cell_at Y c.cell.block))
          × ((m : Mark) (t : ℕ) (z : Cell) → 0 < t → is_data_block m.image t ≡ false
          → ((j : ℕ) → is_inode m.image j ≡ true → 1 + (j - 1) / 4 ≡ t
          → (record_at z.payload ((j - 1) % 4) ≡ inode X j) ⊎
          (record_at z.payload ((j - 1) % 4) ≡ inode Y j))
          → Contains (m.metas d (inode X d).generation) (Rattle.nofs_history.specs.Meta.meta_of (inode X d))
          → m.stamps ≤ c.cell.stamp
          → m.stamps ≤ y.stamp ⊎ ((q : Pointer) × (find X d leaf ≡ answer.Holds q))
          → m.stamps ≤ c.generation → ((q : ℕ) → m.stands c.inode q ≡ false)
          → Proper (during m (make_given W.files d g name kind c e)) X t z)
          × FilesMatch (files_after W.files (make_given W.files d g name kind c e)) Y
      law = law-make-in-hole W.files X Y d g e (next_stamp W) name kind c own.file y lies h.entry

      proper-at : (b : ℕ) (cell : Cell) → IsHoleWrite X Y e c y b cell → Proper
          (during (mark_at p.base H (old.moment + 1) p.mark p.stamps) (make_given W.files d g name kind c e)) X b cell
      proper-at b cell (OfEntry eb ec) = subst₂ (λ (n : ℕ) (z : Cell). Proper
          (during (mark_at p.base H (old.moment + 1) p.mark p.stamps) (make_given W.files d g name kind c e)) X n z)
          (sym eb) (sym ec)
          (law.0 (mark_at p.base H (old.moment + 1) p.mark p.stamps) (on.area c.cell.block
          (hole-cell (next_stamp W) X Y d c.inode (e / 16) c.cell y h.entry.claimed).area)
          (hole-generation (next_stamp W) X Y d c.inode (e / 16) c.cell y
          (λ t. apart (sym t)) h.entry.claimed ∙ sym own.generation))
      proper-at b cell (OfLeaf far eb ec) = subst₂ (λ (n : ℕ) (z : Cell). Proper
          (during (mark_at p.base H (old.moment + 1) p.mark p.stamps) (make_given W.files d g name kind c e)) X n z)
          (sym eb) (sym ec)
          (hole-leaf-proper (next_stamp W) (mark_at p.base H (old.moment + 1) p.mark p.stamps)
          (make_given W.files d g name kind c e) X Y d c.inode
          (e / 16) c.cell y on.survives.reads own.live h.entry.empty
          (on.area y.block (hole-area (next_stamp W) X Y d c.inode
          (e / 16) c.cell y h.entry.claimed far)) h.newer far h.entry.claimed)
      proper-at b cell (OfTable pos low tag each) =
          law.1 (mark_at p.base H (old.moment + 1) p.mark p.stamps) b cell pos (on.table b low)
          (λ j range same. each j (ap (λ (q : SuperBlock). leb 1 j && leb j q.inodes) (sym on.super) ∙ range) same)
          (on.survives.reads.metas d own.live) h.newer h.leaf_newer newer none-stands

      numbered : CellNumbers (Numbered W c) X c.cell.block (cell_at Y c.cell.block)
          × (8 ≤ e / 16 → CellNumbers (Numbered W c) X y.block (cell_at Y y.block)) ×
          ((j : ℕ) → RecordWritten W c X j (inode Y j))
      numbered = law-make-in-hole-numbers W X Y d g e
          (next_stamp W) name kind c own.file y on.numbers lies h.entry h.claims it.claim

      numbers-at : (b : ℕ) (cell : Cell) → IsHoleWrite X Y e c y b cell → CellNumbers (Numbered W c) X b cell
      numbers-at b cell (OfEntry eb ec) =
          subst₂ (λ (n : ℕ) (z : Cell). CellNumbers (Numbered W c) X n z) (sym eb) (sym ec) numbered.0
      numbers-at b cell (OfLeaf far eb ec) =
          subst₂ (λ (n : ℕ) (z : Cell). CellNumbers (Numbered W c) X n z) (sym eb) (sym ec) (numbered.1 far)
      numbers-at b cell (OfTable pos low tag each) = law-table-moment W c X Y b cell on.numbers tag each numbered.2

-- Link and Make in a hole, whole.
use Rattle.nofs_crashlaw.proofs.OnFiles.Claims.{holes-under, claimed-cell-proper}
use Rattle.std.proofs.Common.{◌≡◌, ◌≢◌, ℕ, ◌+◌, ◌-◌, ◌/◌, ◌%◌, ◌<◌, ◌≤◌, ◌⊎◌, inl, inr, true, false, List, length, Some}
use Rattle.std.proofs.Common.{None, is_some, refl, sym, ap, ◌∙◌, subst, arith, Contains, eq-eqb}
use Rattle.nofs_model.specs.declared.image.path.PathAnswer.{PathAnswer}
use Rattle.nofs_crashlaw.specs.Images.Reasons.{Holes, ReadsSince}
use Rattle.nofs_crashlaw.specs.Images.Proper.{Proper, RecordProper, Unchanged}
use Rattle.nofs_crashlaw.specs.Images.Moments.{during}
use Rattle.nofs_crashlaw.specs.Untouched.Frames.{OldPointers}
use Rattle.nofs_ptrs.specs.PathLaws.{path-direct, path-leaf}
use Rattle.nofs_crashlaw.proofs.OnUntouched.Matches.{matched-file}
use Rattle.nofs_crashlaw.proofs.OnUntouched.Frames.{some-is}
use Rattle.nofs_crashlaw.proofs.OnFiles.Given.{file-apart, none-apart, meta-stays, value-of}
use Rattle.nofs_crashlaw.proofs.OnNames.Files.{file-of}
use Rattle.nofs_crashlaw.proofs.OnNames.Links.{relinked-proper}
use Rattle.nofs_crashlaw.proofs.OnNames.NewEntries.{birth-proper}
use Rattle.nofs_crashlaw.proofs.OnNames.Gives.{link-cell, link-meta, make-birth, link-files, make-gives, make-files}
use Rattle.nofs_crashlaw.proofs.OnNames.HoleCells.{leaf_places, directory-grown, record-hole-writes}
use Rattle.nofs_crashlaw.proofs.OnNames.HoleCells.{record-hole-grows, leaf-hole-grows, claimed-hole-grows}
use Rattle.nofs_crashlaw.proofs.OnNames.Premises.{step-table-proper}
use Rattle.nofs_crashlaw.proofs.OnNames.HoleWrites.{grown-record-proper, grown-leaf-proper, claimed-leaf-proper}
use Rattle.nofs_crashlaw.proofs.OnNames.HoleWrites.{leaf-hole-writes, claimed-hole-writes}
use Rattle.nofs_model.specs.declared.image.path.PathAnswer.TheVariants as answer
use Rattle.nofs_history.specs.Meta.{meta_of}
use Rattle.nofs_history.specs.Marks.{Mark}
use Rattle.nofs_history.specs.declared.machine.history.Claims.{Claims}
use Rattle.nofs_history.specs.Machine.{Given, files_after, value_of, bytes_in, with_entry, link_given, make_given}
use Rattle.nofs_history.specs.Machine.{set_link, link_to, is_paired}
use Rattle.nofs_history.specs.History.{FilesMatch, SameFile}
use Rattle.nofs_disk.specs.declared.tag.Cell.{Cell}
use Rattle.nofs_inode.specs.declared.inode.FileKind.{FileKind}
use Rattle.nofs_disk.specs.declared.tag.Pointer.{Pointer}
use Rattle.nofs_inode.specs.InodeRecords.{is_live, record_at}
use Rattle.nofs_dirent.specs.Entries.{spelled_entry, entry_limit}
use Rattle.nofs_ptrs.specs.Paths.{slot_limit, Path, InRecord, Under, leaf, path_of}
use Rattle.nofs_dirent.specs.EntryLaws.{Spells}
use Rattle.nofs_model.specs.Geometry.{Image, is_inode, is_data_block, inode}
use Rattle.nofs_disk.specs.Disk.{cell_at}
use Rattle.nofs_model.specs.Files.{files_in, FileState, Files, is_folder, is_special}
use Rattle.nofs_model.specs.Slots.{value_in, find}
use Rattle.nofs_model.specs.declared.image.value.Value.{Value}
use Rattle.nofs_model.specs.declared.image.value.Value.TheVariants.{Hole, Bytes, Lost}
use Rattle.nofs_history.specs.Gives.{GivesCell}
use Rattle.nofs_crashlaw.specs.Files.Growth.{ClaimedCell, Grows}
use Rattle.nofs_crashlaw.specs.Names.OldEntries.{Relinked, NameWrites}
use Rattle.nofs_crashlaw.specs.Names.NewEntries.{IsNewRecord, first_links, HoleClaimed, Direct, UnderLeaf, WithLeaf}

pub hole-writes : (s : ℕ) (X Y : Image) (d i k : ℕ) (x y : Pointer) → HoleClaimed s X Y d i k x y → NameWrites s d i X Y
hole-writes s X Y d i k x y (Direct lt h) = record-hole-writes s X Y d i k x h
hole-writes s X Y d i k x y (UnderLeaf le lt h) = leaf-hole-writes s X Y d i (k - 8) x y h
hole-writes s X Y d i k x y (WithLeaf le lt h) = claimed-hole-writes s X Y d i (k - 8) x y h

pub hole-cell : (s : ℕ) (X Y : Image) (d i k : ℕ) (x y : Pointer) → HoleClaimed s X Y d i k x y
    → ClaimedCell s X Y d (path_of k) x
hole-cell s X Y d i k x y (Direct lt h) = subst (λ (p : Path). ClaimedCell s X Y d p x) (sym (path-direct k lt)) h.cell
hole-cell s X Y d i k x y (UnderLeaf le lt h) =
    subst (λ (p : Path). ClaimedCell s X Y d p x) (sym (path-leaf k le lt)) h.cell
hole-cell s X Y d i k x y (WithLeaf le lt h) =
    subst (λ (p : Path). ClaimedCell s X Y d p x) (sym (path-leaf k le lt)) h.cell

pub hole-directory : (s : ℕ) (F : Files) (given : Given) (X Y : Image) (d i k : ℕ) (f : FileState) (v : Value)
    (x y : Pointer) → FilesMatch F X
    → F d ≡ Some f → i ≢ d → OldPointers s X d
    → GivesCell given d f.generation k v → Bytes (cell_at Y x.block).payload ≡ v → HoleClaimed s X Y d i k x y
    → SameFile (files_after F given d) (files_in Y d)
hole-directory s F given X Y d i k f v x y match is apart old gives content (Direct lt h) =
    let own = matched-file F X d match (some-is (F d) f is) in
    let grows = record-hole-grows s X Y d i k x lt own.agreed h in
    directory-grown s F given X Y d i k f v (λ a. x) match is (omega (arith, lt)) old gives
    (record-hole-writes s X Y d i k x h) h.meta
    (subst (λ (p : Path). Grows s X Y d p (λ a. x)) (sym (path-direct k lt)) grows) content
hole-directory s F given X Y d i k f v x y match is apart old gives content (UnderLeaf le lt h) =
    let own = matched-file F X d match (some-is (F d) f is) in
    let grows = leaf-hole-grows s X Y d i (k - 8) x y apart own.agreed h in
    let same : inode Y d ≡ inode X d = h.records d (λ t. apart (sym t)) in
    directory-grown s F given X Y d i k f v (leaf_places y x) match is (omega (arith, lt)) old gives
    (leaf-hole-writes s X Y d i (k - 8) x y h)
    (meta-stays X Y d same)
    (subst (λ (p : Path). Grows s X Y d p (leaf_places y x)) (sym (path-leaf k le lt)) grows)
    (ap (λ (p : Path). Bytes (cell_at Y (leaf_places y x p).block).payload) (path-leaf k le lt) ∙ content)
hole-directory s F given X Y d i k f v x y match is apart old gives content (WithLeaf le lt h) =
    let own = matched-file F X d match (some-is (F d) f is) in
    let grows = claimed-hole-grows s X Y d i (k - 8) x y own.agreed h in
    directory-grown s F given X Y d i k f v (leaf_places y x) match is (omega (arith, lt)) old gives
    (claimed-hole-writes s X Y d i (k - 8) x y h) h.meta
    (subst (λ (p : Path). Grows s X Y d p (leaf_places y x)) (sym (path-leaf k le lt)) grows)
    (ap (λ (p : Path). Bytes (cell_at Y (leaf_places y x p).block).payload) (path-leaf k le lt) ∙ content)

-- the directory's record is proper
pub hole-record-proper : (s : ℕ) (m : Mark) (given : Given) (X Y : Image) (d i k : ℕ) (x y : Pointer)
    → i ≢ d → is_live (inode X d) ≡ true
    → Contains (m.metas d (inode X d).generation) (meta_of (inode X d)) → m.stamps ≤ x.stamp
    → m.stamps ≤ y.stamp ⊎ ((z : Pointer) × (find X d leaf ≡ answer.Holds z))
    → find X d (path_of k) ≡ answer.Hole → HoleClaimed s X Y d i k x y → RecordProper (during m given) X d (inode Y d)
hole-record-proper s m given X Y d i k x y apart live current fx fy empty (Direct lt h) =
    grown-record-proper m given X Y d k x live current h.meta h.pointer h.pointers fx
    (λ z e. let n : find X d (InRecord k) ≡ answer.Hole =
    subst (λ (p : Path). find X d p ≡ answer.Hole) (path-direct k lt) empty in cc (n, e))
hole-record-proper s m given X Y d i k x y apart live current fx fy empty (UnderLeaf le lt h) =
    Unchanged (h.records d (λ t. apart (sym t)))
hole-record-proper s m given X Y d i k x y apart live current fx fy empty (WithLeaf le lt h) =
    grown-record-proper m given X Y d 8 y live current h.meta h.leaf_is h.others fresh
    (λ z e. let n = h.empty in cc (n, e))
  where
    fresh : m.stamps ≤ y.stamp
    fresh = elim fy [ inl f ↦ f | inr z ↦ absurd (let a = h.empty in let b = z.1 in cc (a, b)) ]

-- the leaf's cell is proper, in place or claimed
pub hole-leaf-proper : (s : ℕ) (m : Mark) (given : Given) (X Y : Image) (d i k : ℕ) (x y : Pointer) → ReadsSince m X
    → is_live (inode X d) ≡ true
    → find X d (path_of k) ≡ answer.Hole → is_data_block m.image y.block ≡ true → m.stamps ≤ x.stamp → 8 ≤ k
    → HoleClaimed s X Y d i k x y → Proper (during m given) X y.block (cell_at Y y.block)
hole-leaf-proper s m given X Y d i k x y reads live empty area fresh far (Direct lt h) = absurd (omega (arith, far, lt))
hole-leaf-proper s m given X Y d i k x y reads live empty area fresh far (UnderLeaf le lt h) =
    grown-leaf-proper s m given X Y d i (k - 8) x y live h area fresh
    (λ z e. let n : find X d (Under leaf (k - 8)) ≡ answer.Hole =
    subst (λ (p : Path). find X d p ≡ answer.Hole) (path-leaf k le lt) empty in cc (n, e))
hole-leaf-proper s m given X Y d i k x y reads live empty area fresh far (WithLeaf le lt h) =
    claimed-leaf-proper s m given X Y d i (k - 8) x y h area fresh
    (λ q ltq. subst (λ (g : ℕ). Holes m d g (Under leaf q)) (sym h.meta.generation)
    (holes-under m X d leaf reads live h.empty q))

-- the machine's value of an empty slot
empty-value : (F : Files) (X : Image) (d k : ℕ) (f : FileState) → FilesMatch F X → F d ≡ Some f
    → k < slot_limit → find X d (path_of k) ≡ answer.Hole
    → value_of F d k ≡ Hole
empty-value F X d k f match is lt empty = value-of F d f is k ∙ (file-of F X d f match is).1.values k lt
    ∙ ap (λ (q : PathAnswer). value_in X q) empty

whole-hole : (v : Value) → v ≡ Hole → length (bytes_in v) ≡ 1024
whole-hole Hole e = refl
whole-hole (Bytes c) e = cc
whole-hole Lost e = cc

-- Link in a hole
module _ (F : Files) (X Y : Image) (d g e i of b s : ℕ) (name : List ℕ) (f h : FileState) (x y : Pointer)
    (match : FilesMatch F X) (is : F d ≡ Some f) (gen : f.generation ≡ g) (folder : is_folder f.kind ≡ true)
    (range : e < entry_limit)
    (unpaired : is_paired F d e ≡ false)
    (is_i : F i ≡ Some h) (of_is : h.generation ≡ of) (file : is_folder h.kind ≡ false) (plain : is_special i ≡ false)
    (place : b < length h.links)
    (empty : find X d (path_of (e / 16)) ≡ answer.Hole)
    (spells : Spells (spelled_entry i of name) (record { inode = i; generation = of; name = name }))
    (r : Relinked X Y i (set_link h.links b (link_to d e g))) (old : (j : ℕ) → is_some (F j) ≡ true → OldPointers s X j)
    (claimed : HoleClaimed s X Y d i (e / 16) x y)
    (content : Bytes (cell_at Y x.block).payload ≡ with_entry Hole e (spelled_entry i of name)) where
  was : value_of F d (e / 16) ≡ Hole
  was = empty-value F X d (e / 16) f match is (omega (arith, range)) empty

  gives : GivesCell (link_given F d g name i of e b) d f.generation (e / 16)
      (with_entry (value_of F d (e / 16)) e (spelled_entry i of name))
  gives = link-cell F X Y d g e i of b s name f h match is gen folder range unpaired is_i of_is file plain place
      (whole-hole (value_of F d (e / 16)) was)
      (λ l. cc (l, was)) spells r old

  apart : i ≢ d
  apart = file-apart F i d f h is_i is file folder

  content-at : Bytes (cell_at Y x.block).payload ≡ with_entry (value_of F d (e / 16)) e (spelled_entry i of name)
  content-at = content ∙ ap (λ (u : Value). with_entry u e (spelled_entry i of name)) (sym was)

  pub link-hole-entry-proper : (m : Mark) → is_data_block m.image x.block ≡ true → (inode Y d).generation ≡ f.generation
      → Proper (during m (link_given F d g name i of e b)) X x.block (cell_at Y x.block)
  link-hole-entry-proper m area same =
      claimed-cell-proper s (e / 16) X Y d f.generation x m (link_given F d g name i of e b) (omega (arith, range))
      (hole-cell s X Y d i (e / 16) x y claimed) area same
      (gives.slots (e / 16) ∙ rw (eq-eqb (e / 16) (e / 16) refl) (ap Some (sym content-at)))

  pub link-in-hole : FilesMatch (files_after F (link_given F d g name i of e b)) Y
  link-in-hole = link-files F X Y d g e i of b s name f h match is gen folder range unpaired is_i of_is file plain place
      (whole-hole (value_of F d (e / 16)) was) (λ l. cc (l, was)) spells r old
      (hole-writes s X Y d i (e / 16) x y claimed)
      (hole-directory s F (link_given F d g name i of e b) X Y d i (e / 16) f
      (with_entry (value_of F d (e / 16)) e (spelled_entry i of name))
      x y match is apart (old d (some-is (F d) f is)) gives content-at claimed)

  -- a table cell is proper at any moment
  pub link-hole-table-proper : (m : Mark) (t : ℕ) (c : Cell) → 0 < t → is_data_block m.image t ≡ false
      → ((j : ℕ) → is_inode m.image j ≡ true → 1 + (j - 1) / 4 ≡ t
      → (record_at c.payload ((j - 1) % 4) ≡ inode X j) ⊎ (record_at c.payload ((j - 1) % 4) ≡ inode Y j))
      → Contains (m.metas d (inode X d).generation) (meta_of (inode X d)) → m.stamps ≤ x.stamp
      → m.stamps ≤ y.stamp ⊎ ((z : Pointer) × (find X d leaf ≡ answer.Holds z))
      → Proper (during m (link_given F d g name i of e b)) X t c
  link-hole-table-proper m t c pos area each current fx fy =
      step-table-proper (during m (link_given F d g name i of e b)) X Y d i t c pos area each
      (hole-writes s X Y d i (e / 16) x y claimed).records
      (hole-record-proper s m (link_given F d g name i of e b) X Y d i (e / 16) x y apart
      (matched-file F X d match (some-is (F d) f is)).live current fx fy empty claimed)
      (relinked-proper m (link_given F d g name i of e b) F X Y i h (set_link h.links b (link_to d e g)) match is_i
      (link-meta F X Y d g e i of b s name f h match is gen folder range unpaired is_i of_is file plain place
      (whole-hole (value_of F d (e / 16)) was)
      (λ l. cc (l, was)) spells r old) r)

-- Make in a hole
module _ (F : Files) (X Y : Image) (d g e s : ℕ) (name : List ℕ) (kind : FileKind) (claims : Claims)
    (f : FileState) (y : Pointer)
    (match : FilesMatch F X) (is : F d ≡ Some f) (gen : f.generation ≡ g) (folder : is_folder f.kind ≡ true)
    (range : e < entry_limit)
    (unpaired : is_paired F d e ≡ false)
    (none : F claims.inode ≡ None) (plain : is_special claims.inode ≡ false) (young : f.generation < claims.generation)
    (empty : find X d (path_of (e / 16)) ≡ answer.Hole)
    (spells : Spells (spelled_entry claims.inode claims.generation name)
    (record { inode = claims.inode; generation = claims.generation; name = name }))
    (r : IsNewRecord Y claims.inode claims.generation kind (first_links d e g))
    (old : (j : ℕ) → is_some (F j) ≡ true → OldPointers s X j)
    (claimed : HoleClaimed s X Y d claims.inode (e / 16) claims.cell y)
    (content : Bytes (cell_at Y claims.cell.block).payload ≡ with_entry Hole e
    (spelled_entry claims.inode claims.generation name)) where
  was-hole : value_of F d (e / 16) ≡ Hole
  was-hole = empty-value F X d (e / 16) f match is (omega (arith, range)) empty

  gives-make : GivesCell (make_given F d g name kind claims e) d f.generation (e / 16)
      (with_entry (value_of F d (e / 16)) e (spelled_entry claims.inode claims.generation name))
  gives-make = make-gives F X Y d g e s name kind claims f match is gen folder range unpaired none plain young
      (whole-hole (value_of F d (e / 16)) was-hole)
      (λ l. cc (l, was-hole)) spells r old

  apart-make : claims.inode ≢ d
  apart-make = none-apart F claims.inode d f none is

  content-make : Bytes (cell_at Y claims.cell.block).payload ≡ with_entry (value_of F d (e / 16)) e
      (spelled_entry claims.inode claims.generation name)
  content-make =
      content ∙ ap (λ (u : Value). with_entry u e (spelled_entry claims.inode claims.generation name)) (sym was-hole)

  pub make-hole-entry-proper : (m : Mark)
      → is_data_block m.image claims.cell.block ≡ true → (inode Y d).generation ≡ f.generation
      → Proper (during m (make_given F d g name kind claims e)) X claims.cell.block (cell_at Y claims.cell.block)
  make-hole-entry-proper m area same =
      claimed-cell-proper s (e / 16) X Y d f.generation claims.cell m (make_given F d g name kind claims e)
      (omega (arith, range)) (hole-cell s X Y d claims.inode (e / 16) claims.cell y claimed) area same
      (gives-make.slots (e / 16) ∙ rw (eq-eqb (e / 16) (e / 16) refl) (ap Some (sym content-make)))

  pub make-in-hole : FilesMatch (files_after F (make_given F d g name kind claims e)) Y
  make-in-hole = make-files F X Y d g e s name kind claims f match is gen folder range unpaired none plain young
      (whole-hole (value_of F d (e / 16)) was-hole) (λ l. cc (l, was-hole)) spells r old
      (hole-writes s X Y d claims.inode (e / 16) claims.cell y claimed)
      (hole-directory s F (make_given F d g name kind claims e) X Y d claims.inode (e / 16) f
      (with_entry (value_of F d (e / 16)) e (spelled_entry claims.inode claims.generation name)) claims.cell y
      match is apart-make
      (old d (some-is (F d) f is)) gives-make content-make claimed)

  -- a table cell is proper at any moment
  pub make-hole-table-proper : (m : Mark) (t : ℕ) (c : Cell) → 0 < t → is_data_block m.image t ≡ false
      → ((j : ℕ) → is_inode m.image j ≡ true → 1 + (j - 1) / 4 ≡ t
      → (record_at c.payload ((j - 1) % 4) ≡ inode X j) ⊎ (record_at c.payload ((j - 1) % 4) ≡ inode Y j))
      → Contains (m.metas d (inode X d).generation) (meta_of (inode X d)) → m.stamps ≤ claims.cell.stamp
      → m.stamps ≤ y.stamp ⊎ ((z : Pointer) × (find X d leaf ≡ answer.Holds z))
      → m.stamps ≤ claims.generation → ((q : ℕ) → m.stands claims.inode q ≡ false)
      → Proper (during m (make_given F d g name kind claims e)) X t c
  make-hole-table-proper m t c pos area each current fx fy fresh stands =
      step-table-proper (during m (make_given F d g name kind claims e)) X Y d claims.inode t c pos area each
      (hole-writes s X Y d claims.inode (e / 16) claims.cell y claimed).records
      (hole-record-proper s m (make_given F d g name kind claims e) X Y d claims.inode (e / 16) claims.cell y apart-make
      (matched-file F X d match (some-is (F d) f is)).live current fx fy empty claimed)
      (birth-proper m (make_given F d g name kind claims e) X Y claims.inode claims.generation kind (first_links d e g)
      (make-birth F d g e name kind claims apart-make) r fresh stands)

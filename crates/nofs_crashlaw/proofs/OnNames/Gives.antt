-- Link and Make: what they give, and the files after them, wherever the directory's cell lies.
use Rattle.std.proofs.Common.{◌≡◌, ◌≢◌, ℕ, zero, suc, ◌+◌, ◌-◌, ◌/◌, ◌<◌, ◌≤◌, true, false, List, [], ◌∷◌, length}
use Rattle.std.proofs.Common.{Option, Some, None, is_some, refl, sym, ap}
use Rattle.std.proofs.Common.{◌∙◌, subst, subst₂, arith, Contains, eq-eqb, ne_eqb}
use Rattle.nofs_crashlaw.specs.Images.Proper.{Proper}
use Rattle.nofs_crashlaw.specs.Images.Moments.{during}
use Rattle.nofs_crashlaw.specs.Untouched.Frames.{OldPointers}
use Rattle.nofs_crashlaw.proofs.OnUntouched.Frames.{some-is}
use Rattle.nofs_crashlaw.proofs.OnFiles.Given.{file-apart, none-apart, value-of, at-itself}
use Rattle.nofs_crashlaw.proofs.OnNames.EntryCells.{entry-here, entry-there}
use Rattle.nofs_crashlaw.proofs.OnNames.InPlace.{in-place-writes, cell-proper, directory-in-place, cell-gives}
use Rattle.nofs_crashlaw.proofs.OnNames.InPlace.{cell-elsewhere}
use Rattle.nofs_crashlaw.proofs.OnNames.Renames.{value-held}
use Rattle.nofs_crashlaw.proofs.OnNames.Links.{table-proper, relinked-proper}
use Rattle.nofs_crashlaw.proofs.OnNames.NewEntries.{birth-proper, link-matches, make-matches}
use Rattle.nofs_model.specs.declared.image.path.PathAnswer.TheVariants as answer
use Rattle.nofs_history.specs.Meta.{Meta, Gone, Is}
use Rattle.nofs_history.specs.Marks.{Mark}
use Rattle.nofs_history.specs.declared.machine.history.Claims.{Claims}
use Rattle.nofs_history.specs.Machine.{Given, files_after, value_of, bytes_in, with_entry, entry_given, link_given}
use Rattle.nofs_history.specs.Machine.{make_given, meta_given, set_link, link_to, is_paired}
use Rattle.nofs_history.specs.History.{FilesMatch, SameFile}
use Rattle.nofs_inode.specs.declared.inode.FileKind.{FileKind}
use Rattle.nofs_inode.specs.declared.inode.BackLink.{BackLink}
use Rattle.nofs_disk.specs.declared.tag.Pointer.{Pointer}
use Rattle.nofs_dirent.specs.Entries.{spelled_entry, entry_limit}
use Rattle.nofs_dirent.specs.EntryLaws.{Spells}
use Rattle.nofs_model.specs.Geometry.{Image, super_at, is_data_block, inode}
use Rattle.nofs_disk.specs.Disk.{cell_at}
use Rattle.nofs_model.specs.Files.{files_in, FileState, Files, is_folder, entry_held, is_special}
use Rattle.nofs_ptrs.specs.Paths.{path_of}
use Rattle.nofs_model.specs.Slots.{find}
use Rattle.nofs_model.specs.declared.image.value.Value.{Value}
use Rattle.nofs_model.specs.declared.image.value.Value.TheVariants.{Bytes, Lost}
use Rattle.nofs_history.specs.Gives.{GivesNothing, GivesCell, GivesMeta, GivesBirth}
use Rattle.nofs_crashlaw.specs.Names.OldEntries.{InPlace, Relinked, NameWrites}
use Rattle.nofs_crashlaw.specs.Names.NewEntries.{IsNewRecord, first_links}

set-link-has : (ls : List BackLink) (b : ℕ) (link : BackLink) → b < length ls → Contains (set_link ls b link) link
set-link-has [] b link lt = absurd (omega (arith, lt))
set-link-has (l ∷ ls) zero link lt = (0, omega arith, refl)
set-link-has (l ∷ ls) (suc b) link lt = let r = set-link-has ls b link (omega (arith, lt)) in
    (suc r.0, omega arith, r.2)

-- an entry and a meta are given
module _ (F : Files) (d g e i of : ℕ) (bytes : List ℕ) (meta : Meta) (apart : i ≢ d) where
  elsewhere-none : (j q : ℕ) → j ≢ i → meta_given i of meta j q ≡ None
  elsewhere-none j q ne = let z = ne_eqb i j (λ t. ne (sym t)) in rw z refl

  pub entry-cell : (q : ℕ) → q ≡ g → GivesCell (entry_given F d g e bytes (meta_given i of meta)) d q (e / 16)
      (with_entry (value_of F d (e / 16)) e bytes)
  entry-cell q eq = subst (λ (r : ℕ). GivesCell (entry_given F d g e bytes (meta_given i of meta)) d r (e / 16)
      (with_entry (value_of F d (e / 16)) e bytes))
      (sym eq)
      (cell-gives d g (e / 16) (with_entry (value_of F d (e / 16)) e bytes) (meta_given i of meta)
      (elsewhere-none d g (λ t. apart (sym t))))

  pub entry-meta : GivesMeta (entry_given F d g e bytes (meta_given i of meta)) i of meta
  entry-meta = let z = ne_eqb d i (λ t. apart (sym t)) in record {
    born = refl;
    slots = λ l. rw z refl;
    nodes = λ path. rw z refl;
    metas = rw (at-itself i of) refl;
  }

  pub entry-nothing : (j : ℕ) → j ≢ d → j ≢ i → GivesNothing (entry_given F d g e bytes (meta_given i of meta)) j
  entry-nothing j nd ni = cell-elsewhere d g (e / 16) (with_entry (value_of F d (e / 16)) e bytes)
      (meta_given i of meta) j nd (λ q. elsewhere-none j q ni)

module _ (F : Files) (d g e : ℕ) (name : List ℕ) (kind : FileKind) (claims : Claims) (apart : claims.inode ≢ d) where
  pub make-cell : (q : ℕ) → q ≡ g → GivesCell (make_given F d g name kind claims e) d q (e / 16)
      (with_entry (value_of F d (e / 16)) e (spelled_entry claims.inode claims.generation name))
  make-cell q eq = subst (λ (r : ℕ). GivesCell (make_given F d g name kind claims e) d r (e / 16)
      (with_entry (value_of F d (e / 16)) e (spelled_entry claims.inode claims.generation name))) (sym eq) (
      let y = ne_eqb claims.inode d apart in
      let z = ne_eqb d claims.inode (λ t. apart (sym t)) in record {
        born = rw z refl;
        slots = λ l. rw (y, at-itself d g) refl;
        nodes = λ path. rw (at-itself d g) refl;
        metas = rw z refl;
      })

  pub make-birth : GivesBirth (make_given F d g name kind claims e) claims.inode claims.generation kind
      (first_links d e g)
  make-birth =
      let z = ne_eqb d claims.inode (λ t. apart (sym t)) in
      let a = eq-eqb claims.inode claims.inode refl in
      let c = eq-eqb claims.generation claims.generation refl in record {
        born = rw a refl;
        slots = λ k. rw (a, c) refl;
        nodes = λ path. rw z refl;
        metas = rw (a, c) refl;
        others = λ q ne. let n = ne_eqb q claims.generation ne in rw (a, n) refl;
      }

  pub make-nothing : (j : ℕ) → j ≢ d → j ≢ claims.inode → GivesNothing (make_given F d g name kind claims e) j
  make-nothing j nd ni =
      let y = ne_eqb claims.inode j (λ t. ni (sym t)) in
      let z = ne_eqb d j (λ t. nd (sym t)) in
      let w = ne_eqb j claims.inode ni in record {
        born = rw w refl;
        slots = λ q k. rw (y, z) refl;
        nodes = λ q path. rw z refl;
        metas = λ q. rw w refl;
      }

-- Link
module _ (F : Files) (X Y : Image) (d g e i of b s : ℕ) (name : List ℕ) (f h : FileState)
    (match : FilesMatch F X) (is : F d ≡ Some f) (gen : f.generation ≡ g) (folder : is_folder f.kind ≡ true)
    (range : e < entry_limit)
    (unpaired : is_paired F d e ≡ false)
    (is_i : F i ≡ Some h) (of_is : h.generation ≡ of) (file : is_folder h.kind ≡ false) (plain : is_special i ≡ false)
    (place : b < length h.links)
    (whole : length (bytes_in (value_of F d (e / 16))) ≡ 1024) (sure : value_of F d (e / 16) ≢ Lost)
    (spells : Spells (spelled_entry i of name) (record { inode = i; generation = of; name = name }))
    (r : Relinked X Y i (set_link h.links b (link_to d e g)))
    (old : (j : ℕ) → is_some (F j) ≡ true → OldPointers s X j) where
  pub link-apart : i ≢ d
  link-apart = file-apart F i d f h is_i is file folder

  link-is : link_given F d g name i of e b ≡ entry_given F d g e (spelled_entry i of name)
      (meta_given i of (Is h.kind h.size (set_link h.links b (link_to d e g))))
  link-is = ap (λ (q : Meta). entry_given F d g e (spelled_entry i of name) (meta_given i of q))
      (ap (λ (o : Option FileState).
      elim o [ None ↦ Gone | Some q ↦ Is q.kind q.size (set_link q.links b (link_to d e g)) ]) is_i)

  pub link-cell : GivesCell (link_given F d g name i of e b) d f.generation (e / 16)
      (with_entry (value_of F d (e / 16)) e (spelled_entry i of name))
  link-cell = subst (λ (q : Given). GivesCell q d f.generation (e / 16)
      (with_entry (value_of F d (e / 16)) e (spelled_entry i of name))) (sym link-is)
      (entry-cell F d g e i of (spelled_entry i of name)
      (Is h.kind h.size (set_link h.links b (link_to d e g))) link-apart f.generation gen)

  pub link-meta : GivesMeta (link_given F d g name i of e b) i h.generation
      (Is h.kind h.size (set_link h.links b (link_to d e g)))
  link-meta = subst₂ (λ (q : Given) (u : ℕ). GivesMeta q i u (Is h.kind h.size (set_link h.links b (link_to d e g))))
      (sym link-is) (sym of_is)
      (entry-meta F d g e i of (spelled_entry i of name)
      (Is h.kind h.size (set_link h.links b (link_to d e g))) link-apart)

  link-nothing : (j : ℕ) → j ≢ d → j ≢ i → GivesNothing (link_given F d g name i of e b) j
  link-nothing j nd ni = subst (λ (q : Given). GivesNothing q j) (sym link-is)
      (entry-nothing F d g e i of (spelled_entry i of name)
      (Is h.kind h.size (set_link h.links b (link_to d e g))) link-apart j nd ni)

  -- the file's record is proper
  pub link-record-proper : (m : Mark) → super_at m.image ≡ super_at Y → is_data_block m.image (1 + (i - 1) / 4) ≡ false
      → ((j : ℕ) → j ≢ i → inode Y j ≡ inode X j)
      → Proper (during m (link_given F d g name i of e b)) X (1 + (i - 1) / 4) (cell_at Y (1 + (i - 1) / 4))
  link-record-proper m super area others =
      table-proper (during m (link_given F d g name i of e b)) X Y i super area others
      (relinked-proper m (link_given F d g name i of e b) F X Y i h
      (set_link h.links b (link_to d e g)) match is_i link-meta r)

  -- the files, from what is written of the directory
  pub link-files : NameWrites s d i X Y → SameFile (files_after F (link_given F d g name i of e b) d) (files_in Y d)
      → FilesMatch (files_after F (link_given F d g name i of e b)) Y
  link-files w directory = link-matches F (link_given F d g name i of e b) X Y d e i s f
      (with_entry (value_of F d (e / 16)) e (spelled_entry i of name))
      (record { inode = i; generation = of; name = name })
      match is folder range link-apart link-cell link-nothing
      (λ l ne same. entry-there (value_of F d (e / 16)) e l (spelled_entry i of name) whole spells.short sure ne
      ∙ ap (λ (u : Value). entry_held u l) (value-of F d f is (e / 16)))
      (entry-here (value_of F d (e / 16)) e (spelled_entry i of name) whole spells.short ∙ spells.reads) refl unpaired
      plain w old directory
      h (set_link h.links b (link_to d e g)) is_i file of_is link-meta r
      (subst (λ (q : ℕ). Contains (set_link h.links b (link_to d e g)) (link_to d e q)) (sym gen)
      (set-link-has h.links b (link_to d e g) place))

  -- in a slot that holds
  module _ (x : Pointer) (held : find X d (path_of (e / 16)) ≡ answer.Holds x) (writes : InPlace X Y x i)
      (content : Bytes (cell_at Y x.block).payload ≡ with_entry (Bytes (cell_at X x.block).payload) e
      (spelled_entry i of name)) where
    was : value_of F d (e / 16) ≡ Bytes (cell_at X x.block).payload
    was = value-of F d f is (e / 16) ∙ value-held F X d (e / 16) f x match is (omega (arith, range)) held

    content-at : Bytes (cell_at Y x.block).payload ≡ with_entry (value_of F d (e / 16)) e (spelled_entry i of name)
    content-at = content ∙ ap (λ (u : Value). with_entry u e (spelled_entry i of name)) (sym was)

    pub link-entry-proper : (m : Mark) → is_data_block m.image x.block ≡ true
        → Proper (during m (link_given F d g name i of e b)) X x.block (cell_at Y x.block)
    link-entry-proper m area = cell-proper F X d (e / 16) f x m (link_given F d g name i of e b)
        (cell_at Y x.block) match is (omega (arith, range))
        held area writes.tag
        (link-cell.slots (e / 16) ∙ rw (eq-eqb (e / 16) (e / 16) refl) (ap Some (sym content-at)))

    pub link-in-place : FilesMatch (files_after F (link_given F d g name i of e b)) Y
    link-in-place = link-files (in-place-writes s d i (e / 16) X Y x held writes)
        (directory-in-place s F (link_given F d g name i of e b) X Y d i (e / 16) f x
        (with_entry (value_of F d (e / 16)) e (spelled_entry i of name))
        match is link-apart (omega (arith, range)) (old d (some-is (F d) f is)) link-cell held writes content-at)

-- Make
module _ (F : Files) (X Y : Image) (d g e s : ℕ) (name : List ℕ) (kind : FileKind) (claims : Claims) (f : FileState)
    (match : FilesMatch F X) (is : F d ≡ Some f) (gen : f.generation ≡ g) (folder : is_folder f.kind ≡ true)
    (range : e < entry_limit)
    (unpaired : is_paired F d e ≡ false)
    (none : F claims.inode ≡ None) (plain : is_special claims.inode ≡ false) (young : f.generation < claims.generation)
    (whole : length (bytes_in (value_of F d (e / 16))) ≡ 1024) (sure : value_of F d (e / 16) ≢ Lost)
    (spells : Spells (spelled_entry claims.inode claims.generation name)
    (record { inode = claims.inode; generation = claims.generation; name = name }))
    (r : IsNewRecord Y claims.inode claims.generation kind (first_links d e g))
    (old : (j : ℕ) → is_some (F j) ≡ true → OldPointers s X j) where
  pub make-apart : claims.inode ≢ d
  make-apart = none-apart F claims.inode d f none is

  pub make-gives : GivesCell (make_given F d g name kind claims e) d f.generation (e / 16)
      (with_entry (value_of F d (e / 16)) e (spelled_entry claims.inode claims.generation name))
  make-gives = make-cell F d g e name kind claims make-apart f.generation gen

  -- the new record is proper
  pub make-record-proper : (m : Mark) → super_at m.image ≡ super_at Y
      → is_data_block m.image (1 + (claims.inode - 1) / 4) ≡ false
      → ((j : ℕ) → j ≢ claims.inode → inode Y j ≡ inode X j)
      → m.stamps ≤ claims.generation → ((q : ℕ) → m.stands claims.inode q ≡ false)
      → Proper (during m (make_given F d g name kind claims e)) X (1 + (claims.inode - 1) / 4)
      (cell_at Y (1 + (claims.inode - 1) / 4))
  make-record-proper m super area others fresh stands =
      table-proper (during m (make_given F d g name kind claims e)) X Y claims.inode super area others
      (birth-proper m (make_given F d g name kind claims e) X Y claims.inode claims.generation kind (first_links d e g)
      (make-birth F d g e name kind claims make-apart) r fresh stands)

  -- the files, from what is written of the directory
  pub make-files : NameWrites s d claims.inode X Y
      → SameFile (files_after F (make_given F d g name kind claims e) d) (files_in Y d)
      → FilesMatch (files_after F (make_given F d g name kind claims e)) Y
  make-files w directory = make-matches F (make_given F d g name kind claims e) X Y d e claims.inode s f
      (with_entry (value_of F d (e / 16)) e (spelled_entry claims.inode claims.generation name))
      (record { inode = claims.inode; generation = claims.generation; name = name })
      match is folder range make-apart make-gives (make-nothing F d g e name kind claims make-apart)
      (λ l ne same. entry-there (value_of F d (e / 16)) e l
      (spelled_entry claims.inode claims.generation name) whole spells.short sure ne
      ∙ ap (λ (u : Value). entry_held u l) (value-of F d f is (e / 16)))
      (entry-here (value_of F d (e / 16)) e
      (spelled_entry claims.inode claims.generation name) whole spells.short ∙ spells.reads)
      refl unpaired plain w old directory
      claims.generation kind (first_links d e g) none refl young (make-birth F d g e name kind claims make-apart) r
      (subst (λ (q : ℕ). Contains (first_links d e g) (link_to d e q)) (sym gen) (0, omega arith, refl))

  -- in a slot that holds
  module _ (x : Pointer) (held : find X d (path_of (e / 16)) ≡ answer.Holds x) (writes : InPlace X Y x claims.inode)
      (content : Bytes (cell_at Y x.block).payload ≡ with_entry (Bytes (cell_at X x.block).payload) e
      (spelled_entry claims.inode claims.generation name)) where
    was-held : value_of F d (e / 16) ≡ Bytes (cell_at X x.block).payload
    was-held = value-of F d f is (e / 16) ∙ value-held F X d (e / 16) f x match is (omega (arith, range)) held

    content-is : Bytes (cell_at Y x.block).payload ≡ with_entry (value_of F d (e / 16)) e
        (spelled_entry claims.inode claims.generation name)
    content-is =
        content ∙ ap (λ (u : Value). with_entry u e (spelled_entry claims.inode claims.generation name)) (sym was-held)

    pub make-entry-proper : (m : Mark) → is_data_block m.image x.block ≡ true
        → Proper (during m (make_given F d g name kind claims e)) X x.block (cell_at Y x.block)
    make-entry-proper m area = cell-proper F X d (e / 16) f x m (make_given F d g name kind claims e)
        (cell_at Y x.block) match is (omega (arith, range))
        held area writes.tag
        (make-gives.slots (e / 16) ∙ rw (eq-eqb (e / 16) (e / 16) refl) (ap Some (sym content-is)))

    pub make-in-place : FilesMatch (files_after F (make_given F d g name kind claims e)) Y
    make-in-place = make-files (in-place-writes s d claims.inode (e / 16) X Y x held writes)
        (directory-in-place s F (make_given F d g name kind claims e) X Y d claims.inode (e / 16) f x
        (with_entry (value_of F d (e / 16)) e (spelled_entry claims.inode claims.generation name)) match is make-apart
        (omega (arith, range))
        (old d (some-is (F d) f is)) make-gives held writes content-is)

-- A step that writes one entry in place, and changes the links of one inode, or frees it: Drop, and Link in a slot that
-- holds.
use Rattle.std.proofs.Common.{◌≡◌, ◌≢◌, ℕ, ◌+◌, ◌-◌, ◌/◌, ◌%◌, ◌<◌, ◌⊎◌, inl, inr, Bool, true, false, cond, eqb, ltb}
use Rattle.std.proofs.Common.{◌&&◌, not, List, ◌++◌, length}
use Rattle.std.proofs.Common.{option_to_list, Option, Some, None, is_some, unwrap_or, refl, sym, ap, ◌∙◌, subst, subst₂}
use Rattle.std.proofs.Common.{arith, Contains, eqb-true, eq-eqb, ne_eqb}
use Rattle.std.proofs.lemmas.List.Elements.{Contains-push}
use Rattle.nofs_inode.specs.declared.inode.FileKind.TheVariants.{Directory as Folder}
use Rattle.nofs_crashlaw.specs.Images.Proper.{Proper, OfTable, RecordProper, Unchanged, Changed, Freed, Same}
use Rattle.nofs_crashlaw.specs.Images.Moments.{during, is_removal}
use Rattle.nofs_crashlaw.specs.Untouched.Frames.{OldPointers}
use Rattle.nofs_model.proofs.OnFiles.Chains.{pair-of}
use Rattle.nofs_crashlaw.proofs.OnUntouched.Matches.{matched-file}
use Rattle.nofs_crashlaw.proofs.OnUntouched.Frames.{some-is}
use Rattle.nofs_crashlaw.proofs.OnNames.Entries.{SameDirectory}
use Rattle.nofs_crashlaw.proofs.OnFiles.Given.{value-of, at-itself}
use Rattle.nofs_crashlaw.proofs.OnNames.EntryCells.{entry-here, entry-there}
use Rattle.nofs_crashlaw.proofs.OnNames.Files.{linked_state, linked-now, linked-file, gone-file, find-stays}
use Rattle.nofs_crashlaw.proofs.OnNames.Files.{value-stays, file-of}
use Rattle.nofs_crashlaw.proofs.OnNames.Steps.{match-names, directory-after}
use Rattle.nofs_crashlaw.proofs.OnNames.InPlace.{in-place-writes, cell-proper, directory-in-place, cell-gives}
use Rattle.nofs_crashlaw.proofs.OnNames.InPlace.{cell-elsewhere}
use Rattle.nofs_crashlaw.proofs.OnNames.Renames.{value-held}
use Rattle.nofs_model.specs.declared.image.path.PathAnswer.TheVariants as answer
use Rattle.nofs_history.specs.Meta.{Meta, Gone, Is, meta_of}
use Rattle.nofs_history.specs.Marks.{Mark}
use Rattle.nofs_history.specs.Machine.{Given, files_after, bytes_in, with_entry, cell_given, entry_given, meta_given}
use Rattle.nofs_history.specs.History.{FilesMatch, SameFile}
use Rattle.nofs_inode.specs.declared.inode.FileKind.{FileKind}
use Rattle.nofs_inode.specs.declared.inode.BackLink.{BackLink}
use Rattle.nofs_dirent.specs.declared.entry.Entry.{Entry}
use Rattle.nofs_disk.specs.declared.tag.Pointer.{Pointer}
use Rattle.nofs_inode.specs.declared.inode.Record.{Record}
use Rattle.nofs_inode.specs.InodeRecords.{is_live, record_at}
use Rattle.nofs_dirent.specs.Entries.{entry_of, entry_limit}
use Rattle.nofs_ptrs.specs.Paths.{slot_limit, path_of}
use Rattle.nofs_model.specs.Geometry.{Image, super_at, is_inode, is_data_block, inode}
use Rattle.nofs_disk.specs.Disk.{cell_at}
use Rattle.nofs_model.specs.Files.{file_from, files_in, agreed}
use Rattle.nofs_model.specs.Slots.{value, find}
use Rattle.nofs_model.specs.Files.{FileState, Files, is_folder, entry_held, entry_in_file, pairs, names, is_a, is_pair}
use Rattle.nofs_model.specs.Files.{is_root, is_special, links_of}
use Rattle.nofs_model.specs.declared.image.value.Value.{Value}
use Rattle.nofs_model.specs.declared.image.value.Value.TheVariants.{Bytes}
use Rattle.nofs_history.specs.Gives.{GivesNothing, GivesCell, GivesMeta}
use Rattle.nofs_crashlaw.specs.Names.OldEntries.{InPlace, Relinked, NameWrites}

pub pairs-like : (a b : FileState) (u v : Option FileState) (i : ℕ) (link : BackLink)
    → a.kind ≡ b.kind → a.generation ≡ b.generation
    → SameDirectory u v link.entry → pairs (Some a) u i link ≡ pairs (Some b) v i link
pairs-like a b u v i link kind generation dir =
    rw (kind, generation, dir.is link.generation, dir.names i b.generation) refl

-- a pair leads to another inode
pub pair-apart : (F : Files) (i : ℕ) (link : BackLink) → is_pair F i link ≡ true → link.directory ≢ i
pair-apart F i link pair e =
    let p = pair-of F i link pair in
    let there : F i ≡ Some p.parent = subst (λ (q : ℕ). F q ≡ Some p.parent) e p.parent_is in
    let own = p.own_is in
    let same : p.own ≡ p.parent = cc (own, there) in
    let lt = p.older (subst (λ (q : FileState). is_folder q.kind ≡ true) (sym same) p.parent_folder) in
    let pg = p.parent_generation in
    let eg : p.own.generation ≡ p.parent.generation = ap (λ (q : FileState). q.generation) same in
    omega (arith, lt, pg, eg)

-- the record of an inode stands in its table cell
pub record-in : (Y : Image) (j : ℕ)
    → is_inode Y j ≡ true → record_at (cell_at Y (1 + (j - 1) / 4)).payload ((j - 1) % 4) ≡ inode Y j
unfolding inode
record-in Y j range = rw range refl

-- a table cell is proper where its records are
pub table-proper : (m : Mark) (X Y : Image) (i : ℕ) → super_at m.image ≡ super_at Y
    → is_data_block m.image (1 + (i - 1) / 4) ≡ false
    → ((j : ℕ) → j ≢ i → inode Y j ≡ inode X j) → RecordProper m X i (inode Y i)
    → Proper m X (1 + (i - 1) / 4) (cell_at Y (1 + (i - 1) / 4))
table-proper m X Y i super area others own = OfTable (record {
  not_super = omega arith;
  area = area;
  records = λ j range b.
      let ry : is_inode Y j ≡ true = rw (sym super) range in
      subst (λ (r : Record). RecordProper m X j r) (sym (at-block j b ry)) (go j (eqb j i) refl);
})
  where
    at-block : (j : ℕ) → 1 + (j - 1) / 4 ≡ 1 + (i - 1) / 4 → is_inode Y j ≡ true
        → record_at (cell_at Y (1 + (i - 1) / 4)).payload ((j - 1) % 4) ≡ inode Y j
    at-block j b ry = subst (λ (q : ℕ). record_at (cell_at Y q).payload ((j - 1) % 4) ≡ inode Y j) b (record-in Y j ry)

    go : (j : ℕ) (t : Bool) → eqb j i ≡ t → RecordProper m X j (inode Y j)
    go j true e = subst (λ (q : ℕ). RecordProper m X q (inode Y q)) (sym (eqb-true j i e)) own
    go j false e = Unchanged (others j (λ q. let t = eq-eqb j i q in cc (e, t)))

-- a record whose links alone change
pub relinked-proper : (m : Mark) (given : Given) (F : Files) (X Y : Image) (i : ℕ) (h : FileState)
    (links : List BackLink) → FilesMatch F X → F i ≡ Some h
    → GivesMeta given i h.generation (Is h.kind h.size links) → Relinked X Y i links
    → RecordProper (during m given) X i (inode Y i)
relinked-proper m given F X Y i h links match is gives r =
    let own = matched-file F X i match (some-is (F i) h is) in
    let x = file-of F X i h match is in
    let gen : h.generation ≡ (inode Y i).generation = x.1.generation ∙ sym r.generation in
    let meta : meta_of (inode Y i) ≡ Is h.kind h.size links =
    meta-is (inode Y i) h.kind h.size links (r.kind ∙ x.0) (r.size ∙ sym x.1.size) r.links in
    Changed own.live r.generation r.kind
    (subst₂ (λ (g : ℕ) (q : Meta). Contains ((during m given).metas i g) q) gen (sym meta)
    (subst (λ (o : Option Meta). Contains (m.metas i h.generation ++ option_to_list o) (Is h.kind h.size links))
    (sym gives.metas)
    (Contains-push (m.metas i h.generation) (Is h.kind h.size links))))
    (λ n lt. Same own.live (sym r.generation) tt (sym (r.pointers n lt)))
  where
    meta-is : (r : Record) (kind : FileKind) (size : ℕ) (links : List BackLink) → r.kind ≡ Some kind
        → r.size ≡ size → r.links ≡ links
        → meta_of r ≡ Is kind size links
    meta-is r kind size links ek es el = rw (ek, es, el, meta_of) refl

-- a record that becomes free
pub freed-proper : (m : Mark) (given : Given) (X Y : Image) (i g : ℕ)
    → is_live (inode Y i) ≡ false → given.metas i g ≡ Some Gone
    → ((q : ℕ) → m.stands i q ≡ true → g ≡ q) → RecordProper (during m given) X i (inode Y i)
freed-proper m given X Y i g dead gone tracked = Freed dead (λ q. go q (m.stands i q) refl)
  where
    go : (q : ℕ) (b : Bool) → m.stands i q ≡ b → (m.stands i q && not (is_removal (given.metas i q))) ≡ false
    go q false e = rw e refl
    go q true e = let z : given.metas i q ≡ Some Gone =
        subst (λ (r : ℕ). given.metas i r ≡ Some Gone) (tracked q e) gone in rw (e, z) refl

module _ (F : Files) (X Y : Image) (d g e i s : ℕ) (f h : FileState) (x : Pointer) (bytes : List ℕ)
    (meta : Meta) (given : Given)
    (match : FilesMatch F X) (is : F d ≡ Some f) (gen : f.generation ≡ g) (folder : is_folder f.kind ≡ true)
    (is_i : F i ≡ Some h) (apart : i ≢ d)
    (range : e < entry_limit)
    (given_is : given ≡ entry_given F d g e bytes (meta_given i h.generation meta))
    (held : find X d (path_of (e / 16)) ≡ answer.Holds x) (whole : length (cell_at X x.block).payload ≡ 1024)
    (short : length bytes ≡ 64)
    (content : Bytes (cell_at Y x.block).payload ≡ with_entry (Bytes (cell_at X x.block).payload) e bytes)
    (writes : InPlace X Y x i) (old : (j : ℕ) → is_some (F j) ≡ true → OldPointers s X j) where
  slot : e / 16 < slot_limit
  slot = omega (arith, range)

  was : f.values (e / 16) ≡ Bytes (cell_at X x.block).payload
  was = value-held F X d (e / 16) f x match is slot held

  given-at : given ≡ cell_given d g (e / 16) (with_entry (f.values (e / 16)) e bytes) (meta_given i h.generation meta)
  given-at = given_is ∙ ap (λ (u : Value). cell_given d g (e / 16) (with_entry u e bytes)
      (meta_given i h.generation meta)) (value-of F d f is (e / 16))

  content-at : Bytes (cell_at Y x.block).payload ≡ with_entry (f.values (e / 16)) e bytes
  content-at = content ∙ ap (λ (u : Value). with_entry u e bytes) (sym was)

  not-mine : (j q : ℕ) → j ≢ i → meta_given i h.generation meta j q ≡ None
  not-mine j q ne = let z = ne_eqb i j (λ t. ne (sym t)) in rw z refl

  pub gives-cell : GivesCell given d f.generation (e / 16) (with_entry (f.values (e / 16)) e bytes)
  gives-cell = subst₂ (λ (q : Given) (r : ℕ). GivesCell q d r (e / 16) (with_entry (f.values (e / 16)) e bytes))
      (sym given-at) (sym gen)
      (cell-gives d g (e / 16) (with_entry (f.values (e / 16)) e bytes) (meta_given i h.generation meta)
      (not-mine d g (λ t. apart (sym t))))

  pub gives-meta : GivesMeta given i h.generation meta
  gives-meta = subst (λ (q : Given). GivesMeta q i h.generation meta) (sym given-at) (
      let z = ne_eqb d i (λ t. apart (sym t)) in record {
        born = refl;
        slots = λ l. rw z refl;
        nodes = λ path. rw z refl;
        metas = rw (at-itself i h.generation) refl;
      })

  pub gives-nothing : (j : ℕ) → j ≢ d → j ≢ i → GivesNothing given j
  gives-nothing j nd ni = subst (λ (q : Given). GivesNothing q j) (sym given-at)
      (cell-elsewhere d g (e / 16) (with_entry (f.values (e / 16)) e bytes) (meta_given i h.generation meta) j nd
      (λ q. not-mine j q ni))

  whole-at : length (bytes_in (f.values (e / 16))) ≡ 1024
  whole-at = ap (λ (u : Value). length (bytes_in u)) was ∙ whole

  pub entries-stay : (l : ℕ) → l % 16 ≢ e % 16 → l / 16 ≡ e / 16
      → entry_held (with_entry (f.values (e / 16)) e bytes) l ≡ entry_held (f.values (e / 16)) l
  entries-stay l ne same = entry-there (f.values (e / 16)) e l bytes whole-at short (λ lost. cc (lost, was)) ne

  pub entry-comes : entry_held (with_entry (f.values (e / 16)) e bytes) e ≡ entry_of bytes
  entry-comes = entry-here (f.values (e / 16)) e bytes whole-at short

  pub all-writes : NameWrites s d i X Y
  all-writes = in-place-writes s d i (e / 16) X Y x held writes

  pub directory-new : SameFile (files_after F given d) (files_in Y d)
  directory-new = directory-in-place s F given X Y d i (e / 16) f x
      (with_entry (f.values (e / 16)) e bytes) match is apart slot (old d (some-is (F d) f is))
      gives-cell held writes content-at

  -- the directory's cell is proper
  pub entry-proper : (m : Mark)
      → is_data_block m.image x.block ≡ true → Proper (during m given) X x.block (cell_at Y x.block)
  entry-proper m area = cell-proper F X d (e / 16) f x m given (cell_at Y x.block) match is slot held area writes.tag
      (gives-cell.slots (e / 16) ∙ rw (eq-eqb (e / 16) (e / 16) refl) (ap Some (sym content-at)))

  -- The inode stays
  module _ (links : List BackLink) (stays : meta ≡ Is h.kind h.size links) (r : Relinked X Y i links) where
    gives-links : GivesMeta given i h.generation (Is h.kind h.size links)
    gives-links = subst (λ (q : Meta). GivesMeta given i h.generation q) stays gives-meta

    abbrev pub made : FileState
    made = linked_state given i h links

    pub file-now : files_after F given i ≡ Some made
    file-now = linked-now F given i h links is_i gives-links

    pub record-proper : (m : Mark) → super_at m.image ≡ super_at Y → is_data_block m.image (1 + (i - 1) / 4) ≡ false
        → Proper (during m given) X (1 + (i - 1) / 4) (cell_at Y (1 + (i - 1) / 4))
    record-proper m super area = table-proper (during m given) X Y i super area writes.records
        (relinked-proper m given F X Y i h links match is_i gives-links r)

    own-file : SameFile (files_after F given i) (files_in Y i)
    own-file =
        let m = matched-file F X i match (some-is (F i) h is_i) in
        let o = old i (some-is (F i) h is_i) in
        linked-file F given X Y i h links match is_i gives-links r.kind r.generation r.size r.links
        (find-stays s d i X Y all-writes apart m.agreed o
        (record { live = m.live; kind = r.kind; generation = r.generation }) r.pointers)
        (value-stays s d i X Y all-writes apart m.agreed o
        (record { live = m.live; kind = r.kind; generation = r.generation }) r.pointers)

    entries-own : (k : ℕ) → entry_in_file (F i) k ≡ entry_in_file (files_after F given i) k
    entries-own k = ap (λ (o : Option FileState). entry_in_file o k) is_i
        ∙ ap (λ (u : Value). cond (is_folder h.kind && ltb k entry_limit) (entry_held u k) None)
        (sym (ap (λ (o : Option Value). unwrap_or o (h.values (k / 16))) (gives-links.slots (k / 16))))
        ∙ sym (ap (λ (o : Option FileState). entry_in_file o k) file-now)

    pub own-directory : (k : ℕ) → SameDirectory (F i) (files_after F given i) k
    own-directory k = record {
      is = λ q. ap (λ (o : Option FileState). is_a Folder q o) is_i
          ∙ sym (ap (λ (o : Option FileState). is_a Folder q o) file-now);
      names = λ j q. ap (λ (o : Option Entry). names o j q) (entries-own k);
    }

    -- a pair of this inode at another entry stays
    pub pair-kept : (l : BackLink) → is_pair F i l ≡ true → (l.directory ≡ d → l.entry ≡ e → ⊥)
        → is_pair (files_after F given) i l ≡ true
    pair-kept l pair off =
        let dir = directory-after F given X Y d e i s f (with_entry (f.values (e / 16)) e bytes)
        match is apart gives-cell gives-nothing entries-stay all-writes old directory-new
        (λ some. own-file) l.directory l.entry (pair-apart F i l pair)
        off in
        ap (λ (o : Option FileState). pairs o (files_after F given l.directory) i l) file-now
        ∙ sym (pairs-like h made (F l.directory) (files_after F given l.directory) i l refl refl dir)
        ∙ sym (ap (λ (o : Option FileState). pairs o (F l.directory) i l) is_i) ∙ pair

    pub stays-match : ((j : ℕ) (link : BackLink) → j ≢ i → Contains (links_of F j) link
        → is_pair F j link ≡ true → link.directory ≡ d → link.entry ≡ e → ⊥)
        → ((j : ℕ) (link : BackLink) → j ≢ i → Contains (links_of F j) link
        → is_pair F j link ≡ true → link.directory ≢ i)
        → ((j q : ℕ) → j ≢ i → names (entry_of bytes) j q ≡ false)
        → (is_root (files_after F given) i ≡ true) ⊎ ((link : BackLink) × (is_special i ≡ false) × Contains links link ×
        (is_pair (files_after F given) i link ≡ true) × (link.directory ≢ i) × (is_some (F link.directory) ≡ true))
        → FilesMatch (files_after F given) Y
    stays-match away lone named home = match-names F given X Y d e i s f (with_entry (f.values (e / 16)) e bytes)
        match is apart gives-cell gives-nothing entries-stay all-writes old directory-new
        (λ some. own-file) folder range away lone
        (λ j q ni. ap (λ (o : Option Entry). names o j q) entry-comes ∙ named j q ni)
        (λ fi ei. own-directory)
        (λ none. absurd (let t = some-is (F i) h is_i in cc (t, none)))
        (λ some. elim home [
          | inl root ↦ inl root
          | inr l ↦ inr (
            l.0,
            l.1,
            subst (λ (ls : List BackLink). Contains ls l.0)
                (sym (ap Rattle.nofs_model.specs.Files.links_in_file file-now)) l.2,
            l.3,
            l.4,
            l.5,
          )
        ])
        (λ none. absurd (let t = some-is (files_after F given i) made file-now in cc (t, none)))

  -- The inode goes
  module _ (goes : meta ≡ Gone) (free : (inode Y i).kind ≡ None) where
    gives-gone : GivesMeta given i h.generation Gone
    gives-gone = subst (λ (q : Meta). GivesMeta given i h.generation q) goes gives-meta

    gone : files_after F given i ≡ None
    gone = gone-file F given i h is_i gives-gone

    pub free-proper : (m : Mark) → super_at m.image ≡ super_at Y → is_data_block m.image (1 + (i - 1) / 4) ≡ false
        → ((q : ℕ) → m.stands i q ≡ true → h.generation ≡ q)
        → Proper (during m given) X (1 + (i - 1) / 4) (cell_at Y (1 + (i - 1) / 4))
    free-proper m super area tracked = table-proper (during m given) X Y i super area writes.records
        (freed-proper m given X Y i h.generation (rw free refl) gives-gone.metas tracked)

    not-there : is_some (files_after F given i) ≡ true → ⊥
    not-there some = none (files_after F given i) gone some
      where
        none : (o : Option FileState) → o ≡ None → is_some o ≡ true → ⊥
        none None a b = cc
        none (Some q) a b = cc

    pub goes-match : ((j : ℕ) (link : BackLink) → j ≢ i → Contains (links_of F j) link
        → is_pair F j link ≡ true → link.directory ≡ d → link.entry ≡ e → ⊥)
        → ((j : ℕ) (link : BackLink) → j ≢ i → Contains (links_of F j) link
        → is_pair F j link ≡ true → link.directory ≢ i)
        → ((j q : ℕ) → j ≢ i → names (entry_of bytes) j q ≡ false)
        → FilesMatch (files_after F given) Y
    goes-match away lone named = match-names F given X Y d e i s f (with_entry (f.values (e / 16)) e bytes)
        match is apart gives-cell gives-nothing entries-stay all-writes old directory-new
        (λ some. absurd (not-there some)) folder range away lone
        (λ j q ni. ap (λ (o : Option Entry). names o j q) entry-comes ∙ named j q ni)
        (λ fi ei. absurd (not-there ei))
        (λ none. absurd (let t = some-is (F i) h is_i in cc (t, none)))
        (λ some. absurd (not-there some))
        (λ none. ap (λ (k : Option FileKind). file_from Y i k) free)

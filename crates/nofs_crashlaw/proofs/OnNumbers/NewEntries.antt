-- Link and Make: the numbers in what they write.
use Rattle.std.proofs.Common.{◌≡◌, ◌≢◌, ℕ, zero, suc, ◌-◌, ◌/◌, ◌<◌, ◌≤◌, ◌⊎◌, inl, inr, Bool, true, false, eqb, List}
use Rattle.std.proofs.Common.{[], ◌∷◌, length, replicate, Some}
use Rattle.std.proofs.Common.{IfSome, refl, sym, ap, ◌∙◌, subst, arith, Contains, eqb-true, eq-eqb}
use Rattle.std.proofs.lemmas.List.Elements.{All-contains, All-replicate, Contains-append_left, Contains-append_right}
use Rattle.std.proofs.lemmas.List.Elements.{Contains-append_cases}
use Rattle.nofs_inode.specs.declared.inode.FileKind.{FileKind}
use Rattle.nofs_disk.specs.declared.tag.Pointer.{Pointer}
use Rattle.nofs_inode.specs.declared.inode.BackLink.{BackLink}
use Rattle.nofs_dirent.specs.declared.entry.Entry.{Entry}
use Rattle.nofs_dirent.specs.Entries.{entry_of, spelled_entry}
use Rattle.nofs_ptrs.specs.Cells.{pointer_at}
use Rattle.nofs_model.specs.Geometry.{Image, inode}
use Rattle.nofs_disk.specs.Disk.{cell_at}
use Rattle.nofs_ptrs.specs.Paths.{InRecord, Under, leaf, path_of}
use Rattle.nofs_model.specs.Slots.{pointer, record_pointer}
use Rattle.nofs_model.specs.Files.{FileState, is_folder}
use Rattle.nofs_model.specs.declared.image.value.Value.TheVariants.{Hole, Bytes}
use Rattle.nofs_model.proofs.OnSlots.Find.{find-held}
use Rattle.nofs_ptrs.specs.PathLaws.{path_of-slot}
use Rattle.nofs_history.specs.Machine.{with_entry, link_to, set_link}
use Rattle.nofs_history.specs.History.{FilesMatch}
use Rattle.nofs_history.specs.World.{World}
use Rattle.nofs_history.specs.Claims.{IsClaim, IsInodeClaim, ClaimedInode, next_stamp}
use Rattle.nofs_history.specs.declared.machine.history.Claims.{Claims}
use Rattle.nofs_history.specs.declared.machine.steps.Step.TheVariants as step
use Rattle.nofs_crashlaw.specs.Untouched.Frames.{SameMeta}
use Rattle.nofs_crashlaw.proofs.OnUntouched.Matches.{Matched, matched-file}
use Rattle.nofs_crashlaw.proofs.OnUntouched.Frames.{some-is}
use Rattle.nofs_crashlaw.specs.Maps.Fresh.{Numbered, Old, Generation, CellNumbers}
use Rattle.nofs_crashlaw.specs.Maps.Moves.{IsClaimed}
use Rattle.nofs_crashlaw.specs.Maps.Pieces.{PointerFrom, Before, Empty, Claimed}
use Rattle.nofs_crashlaw.proofs.OnMaps.Fresh.{sole-is}
use Rattle.nofs_crashlaw.proofs.OnFiles.Given.{file-apart, none-apart, meta-stays}
use Rattle.nofs_crashlaw.proofs.OnNames.Files.{file-of}
use Rattle.nofs_crashlaw.proofs.OnNames.Holes.{hole-writes, hole-cell}
use Rattle.nofs_crashlaw.specs.Names.NewEntries.{first_links, HoleUnderLeaf, HoleWithLeaf, HoleClaimed, Direct}
use Rattle.nofs_crashlaw.specs.Names.NewEntries.{UnderLeaf, WithLeaf, LinkLies, MakeLies}
use Rattle.nofs_crashlaw.proofs.OnHomes.NewEntries.{link-claims, make-claims}
use Rattle.nofs_crashlaw.specs.Numbers.Cells.{OldNumbers, Zeros, RecordWritten, AsBefore, Changed, Made}
use Rattle.nofs_crashlaw.specs.Numbers.Names.{LawLinkInPlaceNumbers, LawLinkInHoleNumbers, LawMakeInPlaceNumbers}
use Rattle.nofs_crashlaw.specs.Numbers.Names.{LawMakeInHoleNumbers}
use Rattle.nofs_crashlaw.proofs.OnNumbers.Cells.{law-pointer-numbers, law-directory-numbers}
use Rattle.nofs_crashlaw.proofs.OnNumbers.Files.{listed, tag-same, entries-here}
use Rattle.nofs_crashlaw.proofs.OnNumbers.OldEntries.{entry-number, file-number, entry-in-place, relinked-record}
use Rattle.nofs_crashlaw.proofs.OnNumbers.OldEntries.{one-record}

-- A new entry in a hole of directory d
module _ (W : World) (c : Claims) (X Y : Image) (s d i k : ℕ) (f : FileState) (x y : Pointer) (o : OldNumbers W X)
    (match : FilesMatch W.files X) (is : W.files d ≡ Some f) (folder : is_folder f.kind ≡ true) (apart : i ≢ d)
    (range : k < 72)
    (cell : IsClaimed c x) (above : 8 ≤ k → HoleWithLeaf s X Y d i (k - 8) x y → IsClaimed c y) where
  own : Matched W.files X d
  own = matched-file W.files X d match (some-is (W.files d) f is)

  meta : HoleClaimed s X Y d i k x y → SameMeta X Y d
  meta (Direct lt h) = h.meta
  meta (UnderLeaf le lt h) = meta-stays X Y d (h.records d (λ t. apart (sym t)))
  meta (WithLeaf le lt h) = h.meta

  -- the claimed cell has the entry, and zeros beside it
  hole-entry : HoleClaimed s X Y d i k x y
      → (e : ℕ) (bytes : List ℕ) → length bytes ≡ 64 → Bytes (cell_at Y x.block).payload ≡ with_entry Hole e bytes
      → IfSome (entry_of bytes) (λ (n : Entry). Numbered W c n.generation)
      → CellNumbers (Numbered W c) X x.block (cell_at Y x.block)
  hole-entry h e bytes whole content number =
      let claimed = hole-cell s X Y d i k x y h in
      let m = meta h in
      law-directory-numbers W c X d (path_of k) x (cell_at Y x.block) Hole e bytes o
      (record {
        live = own.live;
        slot = path_of-slot k (omega (arith, range));
        area = claimed.area;
        tag = claimed.tag ∙ ap Some (tag-same X Y d (path_of k) x.stamp m.kind m.generation);
        from = Claimed (listed c x cell);
      })
      (entries-here X d k f (file-of W.files X d f match is).0 folder (omega (arith, range)))
      (record { before = Zeros refl; whole = whole; content = content; number = number })

  -- the leaf's pointers: the new one, and what is known of each beside it
  leaf-pointers : pointer_at (cell_at Y y.block).payload (k - 8) ≡ x
      → ((n : ℕ) → n ≢ k - 8 → PointerFrom c X d (Under leaf n) (pointer_at (cell_at Y y.block).payload n))
      → (n : ℕ) → PointerFrom c X d (Under leaf n) (pointer_at (cell_at Y y.block).payload n)
  leaf-pointers new beside n = go (eqb n (k - 8)) refl
    where
      go : (t : Bool) → eqb n (k - 8) ≡ t
          → PointerFrom c X d (Under leaf n) (pointer_at (cell_at Y y.block).payload n)
      go true e = subst (λ (m : ℕ). PointerFrom c X d (Under leaf m) (pointer_at (cell_at Y y.block).payload m))
          (sym (eqb-true n (k - 8) e))
          (subst (PointerFrom c X d (Under leaf (k - 8))) (sym new) (Claimed (listed c x cell)))
      go false e = beside n (λ r. let t = eq-eqb n (k - 8) r in cc (e, t))

  -- the leaf in place
  under-leaf : HoleUnderLeaf s X Y d i (k - 8) x y → CellNumbers (Numbered W c) X y.block (cell_at Y y.block)
  under-leaf h =
      let q = find-held X d leaf y h.held in
      law-pointer-numbers W c X d leaf y (cell_at Y y.block) o
      (record {
        live = own.live;
        slot = omega arith;
        area = q.agrees.area;
        tag = h.tag ∙ q.agrees.tag;
        from = Before q.same;
      })
      refl (λ n lt. leaf-pointers h.pointer beside n)
    where
      beside : (n : ℕ) → n ≢ k - 8 → PointerFrom c X d (Under leaf n) (pointer_at (cell_at Y y.block).payload n)
      beside n ne =
          let was : pointer X d (Under leaf n) ≡ pointer_at (cell_at X y.block).payload n = let z = h.held in
          rw (z, pointer) refl in
          Before (was ∙ sym (h.pointers n ne))

  -- the leaf that is claimed: nulls beside the new pointer
  with-leaf : 8 ≤ k → HoleWithLeaf s X Y d i (k - 8) x y → CellNumbers (Numbered W c) X y.block (cell_at Y y.block)
  with-leaf le h = law-pointer-numbers W c X d leaf y (cell_at Y y.block) o
      (record {
        live = own.live;
        slot = omega arith;
        area = h.above.area;
        tag = h.above.tag ∙ ap Some (tag-same X Y d leaf y.stamp h.meta.kind h.meta.generation);
        from = Claimed (listed c y (above le h));
      })
      refl (λ n lt. leaf-pointers h.pointer (λ m ne. Empty (h.pointers m ne)) n)

  hole-leaf : HoleClaimed s X Y d i k x y → 8 ≤ k → CellNumbers (Numbered W c) X y.block (cell_at Y y.block)
  hole-leaf (Direct lt h) le = absurd (omega (arith, lt, le))
  hole-leaf (UnderLeaf le lt h) far = under-leaf h
  hole-leaf (WithLeaf le lt h) far = with-leaf le h

  -- the directory's record with one new pointer
  grown-record : (n : ℕ) (z : Pointer) → SameMeta X Y d → record_pointer (inode Y d) n ≡ z
      → ((m : ℕ) → m ≢ n → record_pointer (inode Y d) m ≡ record_pointer (inode X d) m) → IsClaimed c z
      → RecordWritten W c X d (inode Y d)
  grown-record n z m here others new = Changed (record {
    live = own.live;
    generation = m.generation;
    links = λ l has. inl (subst (λ (ls : List BackLink). Contains ls l) m.links has);
    pointers = λ q lt. go q (eqb q n) refl;
  })
    where
      go : (q : ℕ) (t : Bool) → eqb q n ≡ t → PointerFrom c X d (InRecord q) (record_pointer (inode Y d) q)
      go q true e =
          subst (λ (r : ℕ). PointerFrom c X d (InRecord r) (record_pointer (inode Y d) r)) (sym (eqb-true q n e))
          (subst (PointerFrom c X d (InRecord n)) (sym here) (Claimed (listed c z new)))
      go q false e = Before (sym (others q (λ r. let t = eq-eqb q n r in cc (e, t))))

  directory-record : HoleClaimed s X Y d i k x y → RecordWritten W c X d (inode Y d)
  directory-record (Direct lt h) = grown-record k x h.meta h.pointer h.pointers cell
  directory-record (UnderLeaf le lt h) = AsBefore (h.records d (λ t. apart (sym t)))
  directory-record (WithLeaf le lt h) = grown-record 8 y h.meta h.leaf_is h.others (above le h)

  hole-records : HoleClaimed s X Y d i k x y → RecordWritten W c X i (inode Y i)
      → (j : ℕ) → RecordWritten W c X j (inode Y j)
  hole-records h file j = go (eqb j d) refl (eqb j i) refl
    where
      go : (a : Bool) → eqb j d ≡ a → (b : Bool) → eqb j i ≡ b → RecordWritten W c X j (inode Y j)
      go true ea b eb =
          subst (λ (q : ℕ). RecordWritten W c X q (inode Y q)) (sym (eqb-true j d ea)) (directory-record h)
      go false ea true eb = subst (λ (q : ℕ). RecordWritten W c X q (inode Y q)) (sym (eqb-true j i eb)) file
      go false ea false eb =
          AsBefore ((hole-writes s X Y d i k x y h).records j (λ q. let t = eq-eqb j d q in cc (ea, t)) (λ q. let t =
          eq-eqb j i q in cc (eb, t)))

-- Link

-- the links of a record, where one is set
set-cases : (ls : List BackLink) (b : ℕ) (link l : BackLink) → Contains (set_link ls b link) l
    → Contains ls l ⊎ (l ≡ link)
set-cases [] b link l has = inl has
set-cases (k ∷ ks) zero link l has = elim (Contains-append_cases (link ∷ []) ks l has) [
  | inl here ↦ inr (sym (sole-is link l here))
  | inr there ↦ inl (Contains-append_right (k ∷ []) ks l there)
]
set-cases (k ∷ ks) (suc b) link l has = elim (Contains-append_cases (k ∷ []) (set_link ks b link) l has) [
  | inl here ↦ inl (Contains-append_left (k ∷ []) ks l here)
  | inr there ↦
      elim (set-cases ks b link l there) [ inl t ↦ inl (Contains-append_right (k ∷ []) ks l t) | inr e ↦ inr e ]
]

module _ (W : World) (X Y : Image) (d g e i of b s : ℕ) (name : List ℕ) (f h : FileState) (c : Claims)
    (o : OldNumbers W X)
    (p : LinkLies W.files X Y d g e i of b s name f h) where
  link-number : IfSome (entry_of (spelled_entry i of name)) (λ (n : Entry). Numbered W c n.generation)
  link-number =
      entry-number W c (spelled_entry i of name) (record { inode = i; generation = of; name = name }) p.spells.reads
      (subst (Numbered W c) p.of_is (file-number W c X i h o p.files p.is_file))

  link-record : RecordWritten W c X i (inode Y i)
  link-record = relinked-record W c X Y i h (set_link h.links b (link_to d e g)) p.files p.is_file p.linked
      (λ l has. elim (set-cases h.links b (link_to d e g) l has) [
        | inl there ↦ inl there
        | inr new ↦ inr (subst (λ (q : BackLink). Numbered W c q.generation) (sym new)
            (subst (Numbered W c) p.generation (file-number W c X d f o p.files p.is)))
      ])

  -- a file is no directory
  link-apart : i ≢ d
  link-apart = file-apart W.files i d f h p.is_file p.is p.file p.folder

  link-slot : e / 16 < 72
  link-slot = let lt = p.range in omega (arith, lt)

pub law-link-in-place-numbers : LawLinkInPlaceNumbers
law-link-in-place-numbers W X Y d g e i of b s name f h x c o p q = (
  entry-in-place W c X Y d e
      (spelled_entry i of name) f x o p.files p.is p.folder p.range q.held q.whole q.writes.tag p.spells.short q.content
      (link-number W X Y d g e i of b s name f h c o p),
  one-record W c X Y i q.writes.records (link-record W X Y d g e i of b s name f h c o p),
)

pub law-link-in-hole-numbers : LawLinkInHoleNumbers
law-link-in-hole-numbers W X Y d g e i of b s name f h x y c o p q u claim =
    let claimed = link-claims W X Y d g e i of b s name f h x y c p q u claim in
    let apart = link-apart W X Y d g e i of b s name f h c o p in
    let range = link-slot W X Y d g e i of b s name f h c o p in (
      hole-entry W c X Y s d i (e / 16) f x y o p.files p.is p.folder apart range claimed.0 claimed.1 q.claimed e
          (spelled_entry i of name)
          p.spells.short q.content (link-number W X Y d g e i of b s name f h c o p),
      hole-leaf W c X Y s d i (e / 16) f x y o p.files p.is p.folder apart range claimed.0 claimed.1 q.claimed,
      hole-records W c X Y s d i (e / 16) f x y o p.files p.is p.folder apart range claimed.0 claimed.1 q.claimed
          (link-record W X Y d g e i of b s name f h c o p),
    )

-- Make

claimed-inode : (W : World) (n : ℕ) (c : Claims) → IsInodeClaim W n c true → c.inode ≢ 0
claimed-inode W n c (ClaimedInode free low high generation) e = omega (arith, low, e)

module _ (W : World) (X Y : Image) (d g e s : ℕ) (name : List ℕ) (kind : FileKind) (claims : Claims) (f : FileState)
    (o : OldNumbers W X)
    (p : MakeLies W.files X Y d g e s name kind claims f) (claim : IsClaim W (step.Make d g name kind) claims) where
  made : claims.inode ≢ 0
  made = claimed-inode W (next_stamp W) claims claim.inode

  make-number : IfSome (entry_of (spelled_entry claims.inode claims.generation name))
      (λ (n : Entry). Numbered W claims n.generation)
  make-number = entry-number W claims (spelled_entry claims.inode claims.generation name)
      (record { inode = claims.inode; generation = claims.generation; name = name }) p.spells.reads
      (Generation made refl)

  -- a new file has one link, and empty ones
  first-numbers : (l : BackLink) → Contains (first_links d e g) l → Numbered W claims l.generation
  first-numbers l has =
      elim (Contains-append_cases (link_to d e g ∷ []) (link_to 0 0 0 ∷ link_to 0 0 0 ∷ link_to 0 0 0 ∷ []) l has) [
        | inl here ↦ subst (λ (q : BackLink). Numbered W claims q.generation) (sole-is (link_to d e g) l here)
            (subst (Numbered W claims) p.generation (file-number W claims X d f o p.files p.is))
        | inr there ↦ empty there
      ]
    where
      empty : Contains (link_to 0 0 0 ∷ link_to 0 0 0 ∷ link_to 0 0 0 ∷ []) l → Numbered W claims l.generation
      empty t = All-contains (λ (q : BackLink). Numbered W claims q.generation) (replicate 3 (link_to 0 0 0)) l
          (All-replicate (λ (q : BackLink). Numbered W claims q.generation) 3 (link_to 0 0 0) (Old o.positive)) t

  make-record : RecordWritten W claims X claims.inode (inode Y claims.inode)
  make-record = Made (record {
    claimed = made;
    generation = p.made.generation;
    links = λ l has. first-numbers l (subst (λ (ls : List BackLink). Contains ls l) p.made.links has);
    pointers = p.made.pointers;
  })

  -- the new inode had no file
  make-apart : claims.inode ≢ d
  make-apart = none-apart W.files claims.inode d f p.none p.is

  make-slot : e / 16 < 72
  make-slot = let lt = p.range in omega (arith, lt)

pub law-make-in-place-numbers : LawMakeInPlaceNumbers
law-make-in-place-numbers W X Y d g e s name kind claims f x o p q claim = (
  entry-in-place W claims X Y d e (spelled_entry claims.inode claims.generation name)
      f x o p.files p.is p.folder p.range q.held q.whole q.writes.tag p.spells.short q.content
      (make-number W X Y d g e s name kind claims f o p claim),
  one-record W claims X Y claims.inode q.writes.records (make-record W X Y d g e s name kind claims f o p claim),
)

pub law-make-in-hole-numbers : LawMakeInHoleNumbers
law-make-in-hole-numbers W X Y d g e s name kind claims f y o p q u claim =
    let claimed = make-claims W X Y d g e s name kind claims f y p q u claim in
    let apart = make-apart W X Y d g e s name kind claims f o p claim in
    let range = make-slot W X Y d g e s name kind claims f o p claim in (
      hole-entry W claims X Y s d claims.inode
          (e / 16) f claims.cell y o p.files p.is p.folder apart range claimed.0 claimed.1 q.claimed e
          (spelled_entry claims.inode claims.generation name) p.spells.short q.content
          (make-number W X Y d g e s name kind claims f o p claim),
      hole-leaf W claims X Y s d claims.inode
          (e / 16) f claims.cell y o p.files p.is p.folder apart range claimed.0 claimed.1 q.claimed,
      hole-records W claims X Y s d claims.inode
          (e / 16) f claims.cell y o p.files p.is p.folder apart range claimed.0 claimed.1 q.claimed
          (make-record W X Y d g e s name kind claims f o p claim),
    )

-- The files after a step on names: one cell of a directory changes, and the record of one inode.
use Rattle.std.proofs.Common.{◌≡◌, ◌≢◌, ℕ, ◌<◌, inl, inr, Bool, true, false, cond, eqb, ◌||◌, List, Option, Some, None}
use Rattle.std.proofs.Common.{unwrap_or, refl, sym, ap, ◌∙◌, subst₂, eqb-true, eq-eqb}
use Rattle.nofs_model.specs.declared.image.path.PathAnswer.{PathAnswer}
use Rattle.nofs_crashlaw.specs.Untouched.Frames.{SameIdentity, SamePointers, OldPointers, Touches, SameMeta}
use Rattle.nofs_model.proofs.OnSlots.Find.{find-held}
use Rattle.nofs_ptrs.specs.PathLaws.{path_of-slot}
use Rattle.nofs_crashlaw.proofs.OnUntouched.Frames.{frame}
use Rattle.nofs_crashlaw.proofs.OnUntouched.Inodes.{one-owner, rewrites}
use Rattle.nofs_crashlaw.proofs.OnUntouched.Agreement.{file-in}
use Rattle.nofs_model.specs.declared.image.path.PathAnswer.TheVariants as answer
use Rattle.nofs_history.specs.Meta.{Meta, Gone, Is}
use Rattle.nofs_history.specs.Machine.{Given, filled, after_meta, born_file, file_after, files_after, lies_above}
use Rattle.nofs_history.specs.History.{FilesMatch, SameFile}
use Rattle.nofs_disk.specs.declared.tag.Cell.{Cell}
use Rattle.nofs_inode.specs.declared.inode.FileKind.{FileKind}
use Rattle.nofs_inode.specs.declared.inode.BackLink.{BackLink}
use Rattle.nofs_disk.specs.declared.tag.Pointer.{Pointer}
use Rattle.nofs_ptrs.specs.Cells.{pointer_at}
use Rattle.nofs_ptrs.specs.Paths.{slot_limit, Path, InRecord, Under, path_of, is_pointer_slot, IsSlot}
use Rattle.nofs_model.specs.Geometry.{Image, inode}
use Rattle.nofs_disk.specs.Disk.{cell_at}
use Rattle.nofs_model.specs.Files.{file_from, files_in, agreed, node_in, NodeState, Present, FileState, Files}
use Rattle.nofs_model.specs.Slots.{value, value_in, find, record_pointer}
use Rattle.nofs_model.specs.declared.image.value.Value.{Value}
use Rattle.nofs_model.specs.declared.image.value.Value.TheVariants.{Bytes}
use Rattle.nofs_history.specs.Gives.{GivesCell, GivesMeta}
use Rattle.nofs_crashlaw.specs.Names.OldEntries.{NameWrites}

pub touches-of : (s d i : ℕ) (X Y : Image) → NameWrites s d i X Y → Touches s (λ j. eqb j d || eqb j i) X Y
touches-of s d i X Y w = record {
  super = w.super;
  records = λ j e. let p = neither (eqb j d) (eqb j i) e in
      w.records j (λ q. let t = eq-eqb j d q in let z = p.0 in cc (t, z)) (λ q. let t =
      eq-eqb j i q in let z = p.1 in cc (t, z));
  blocks = λ b area. elim (w.blocks b area) [
    | inl same ↦ inl same
    | inr r ↦ elim r [
      | inl free ↦ inr (inl free)
      | inr own ↦ inr (inr (own.0, (d, own.1.0, own.1.1, yes (eqb d d) (eqb d i) (eq-eqb d d refl), own.1.2, own.1.3)))
    ]
  ];
}
  where
    neither : (a b : Bool) → (a || b) ≡ false → (a ≡ false) × (b ≡ false)
    neither true b e = cc
    neither false b e = (refl, e)

    yes : (a b : Bool) → a ≡ true → (a || b) ≡ true
    yes true b e = refl
    yes false b e = cc

-- the record of an inode of the machine, in the image
pub file-of : (F : Files) (X : Image) (j : ℕ) (f : FileState) → FilesMatch F X → F j ≡ Some f
    → ((inode X j).kind ≡ Some f.kind) × SameFile (Some f) (file_from X j (Some f.kind))
file-of = file-in

-- the directory after the step
module _ (F : Files) (given : Given) (X Y : Image) (d k : ℕ) (f : FileState) (v : Value) (match : FilesMatch F X)
    (is : F d ≡ Some f)
    (gives : GivesCell given d f.generation k v) (meta : SameMeta X Y d)
    (here : value Y d k ≡ v) (beside : (l : ℕ) → l < slot_limit → l ≢ k → value Y d l ≡ value X d l)
    (on : (path : Path) → IsSlot path → lies_above path (path_of k) ≡ true → node_in (find Y d path) ≡ Present)
    (off : (path : Path) → IsSlot path
    → is_pointer_slot path ≡ true → lies_above path (path_of k) ≡ false → find Y d path ≡ find X d path) where
  pub directory-is : files_after F given d ≡ Some (filled given d f)
  directory-is = ap (λ (o : Option ℕ). file_after given d (born_file o (F d))) gives.born
      ∙ ap (λ (o : Option FileState). file_after given d o) is
      ∙ ap (λ (o : Option Meta). after_meta o (filled given d f)) gives.metas

  values : (l : ℕ) → l < slot_limit → (filled given d f).values l ≡ value Y d l
  values l lt = ap (λ (o : Option Value). unwrap_or o (f.values l)) (gives.slots l) ∙ go (eqb k l) refl
    where
      go : (t : Bool) → eqb k l ≡ t → unwrap_or (cond (eqb k l) (Some v) None) (f.values l) ≡ value Y d l
      go true e = rw e (sym here ∙ ap (λ (q : ℕ). value Y d q) (eqb-true k l e))
      go false e =
          let ne : l ≢ k = λ q. let t = eq-eqb k l (sym q) in cc (e, t) in
          rw e ((file-of F X d f match is).1.values l lt ∙ sym (beside l lt ne))

  nodes : (path : Path) → IsSlot path
      → is_pointer_slot path ≡ true → (filled given d f).nodes path ≡ node_in (find Y d path)
  nodes path slot p = ap (λ (o : Option NodeState). unwrap_or o (f.nodes path)) (gives.nodes path)
      ∙ go (lies_above path (path_of k)) refl
    where
      go : (t : Bool) → lies_above path (path_of k) ≡ t
          → unwrap_or (cond (lies_above path (path_of k)) (Some Present) None) (f.nodes path) ≡ node_in
          (find Y d path)
      go true e = rw e (sym (on path slot e))
      go false e = rw e ((file-of F X d f match is).1.nodes path slot p ∙ sym (ap node_in (off path slot p e)))

  pub directory-file : SameFile (files_after F given d) (files_in Y d)
  directory-file =
      let x = file-of F X d f match is in
      let same = x.1 in
      let ky : (inode Y d).kind ≡ Some f.kind = meta.kind ∙ x.0 in
      subst₂ (λ (o : Option FileState) (q : Option FileKind). SameFile o (file_from Y d q)) (sym directory-is)
      (sym ky) (record {
        generation = same.generation ∙ sym meta.generation;
        kind = refl;
        size = same.size ∙ sym meta.size;
        links = same.links ∙ sym meta.links;
        values = values;
        nodes = nodes;
      })

-- a file with other links
abbrev pub linked_state : Given → ℕ → FileState → List BackLink → FileState
linked_state given i h links = record (filled given i h) { links = links }

pub linked-now : (F : Files) (given : Given) (i : ℕ) (h : FileState) (links : List BackLink) → F i ≡ Some h
    → GivesMeta given i h.generation (Is h.kind h.size links)
    → files_after F given i ≡ Some (linked_state given i h links)
linked-now F given i h links is gives =
    ap (λ (o : Option ℕ). file_after given i (born_file o (F i))) gives.born
    ∙ ap (λ (o : Option FileState). file_after given i o) is
    ∙ ap (λ (o : Option Meta). after_meta o (filled given i h)) gives.metas

-- an inode whose links alone change
pub linked-file : (F : Files) (given : Given) (X Y : Image) (i : ℕ) (h : FileState) (links : List BackLink)
    → FilesMatch F X → F i ≡ Some h
    → GivesMeta given i h.generation (Is h.kind h.size links)
    → (inode Y i).kind ≡ (inode X i).kind → (inode Y i).generation ≡ (inode X i).generation
    → (inode Y i).size ≡ (inode X i).size → (inode Y i).links ≡ links
    → ((path : Path) → IsSlot path → find Y i path ≡ find X i path)
    → ((l : ℕ) → l < slot_limit → value Y i l ≡ value X i l)
    → SameFile (files_after F given i) (files_in Y i)
linked-file F given X Y i h links match is gives kind generation size now found values =
    let x = file-of F X i h match is in
    let same = x.1 in
    let ky : (inode Y i).kind ≡ Some h.kind = kind ∙ x.0 in
    let new = linked-now F given i h links is gives in
    subst₂ (λ (o : Option FileState) (q : Option FileKind). SameFile o (file_from Y i q)) (sym new) (sym ky) (record {
      generation = same.generation ∙ sym generation;
      kind = refl;
      size = same.size ∙ sym size;
      links = sym now;
      values = λ l lt. ap (λ (o : Option Value). unwrap_or o (h.values l)) (gives.slots l) ∙ same.values l lt
          ∙ sym (values l lt);
      nodes = λ path slot p. ap (λ (o : Option NodeState). unwrap_or o (h.nodes path)) (gives.nodes path)
          ∙ same.nodes path slot p
          ∙ sym (ap node_in (found path slot));
    })

-- an inode that is gone after the step
pub gone-file : (F : Files) (given : Given) (i : ℕ) (h : FileState) → F i ≡ Some h → GivesMeta given i h.generation Gone
    → files_after F given i ≡ None
gone-file F given i h is gives = ap (λ (o : Option ℕ). file_after given i (born_file o (F i))) gives.born
    ∙ ap (λ (o : Option FileState). file_after given i o) is
    ∙ ap (λ (o : Option Meta). after_meta o (filled given i h)) gives.metas

-- the cells of an inode other than the directory stay, and so its slots, where its pointers stay
module _ (s d i : ℕ) (X Y : Image) (w : NameWrites s d i X Y) (apart : i ≢ d) (owned : agreed (files_in X) i ≡ true)
    (old : OldPointers s X i)
    (same : SameIdentity X Y i)
    (pointers : (n : ℕ) → n < 10 → record_pointer (inode Y i) n ≡ record_pointer (inode X i) n) where
  cell-stays : (path : Path) (y : Pointer) → IsSlot path → find X i path ≡ answer.Holds y
      → cell_at Y y.block ≡ cell_at X y.block
  cell-stays path y slot e = elim (w.blocks y.block (find-held X i path y e).agrees.area) [
    | inl q ↦ q
    | inr r ↦ elim r [
      | inl free ↦ absurd (free.0 i path y slot owned e refl)
      | inr own ↦ absurd (mine own.1)
    ]
  ]
    where
      mine : ((p : Path) × (x : Pointer) × (find X d p ≡ answer.Holds x) × (x.block ≡ y.block)) → ⊥
      mine (p, x, ex, eb) = apart (sym (one-owner X d i p path x y ex e eb).0)

  pointers-stay : (path : Path) → IsSlot path → SamePointers X Y i path
  pointers-stay (InRecord n) slot = pointers n slot
  pointers-stay (Under a n) slot =
      (pointers-stay a slot.2, λ y e. ap (λ (c : Cell). pointer_at c.payload n) (cell-stays a y slot.2 e))

  pub find-stays : (path : Path) → IsSlot path → find Y i path ≡ find X i path
  find-stays path slot = frame s X Y (rewrites s (λ j. eqb j d || eqb j i) X Y (touches-of s d i X Y w)) i owned same
      path slot old (pointers-stay path slot)

  pub value-stays : (l : ℕ) → l < slot_limit → value Y i l ≡ value X i l
  value-stays l lt = go (find X i (path_of l)) refl
    where
      go : (q : PathAnswer) → find X i (path_of l) ≡ q → value Y i l ≡ value X i l
      go answer.Hole e = ap (λ (q : PathAnswer). value_in Y q) (find-stays (path_of l) (path_of-slot l lt) ∙ e)
          ∙ sym (ap (λ (q : PathAnswer). value_in X q) e)
      go answer.Lost e = ap (λ (q : PathAnswer). value_in Y q) (find-stays (path_of l) (path_of-slot l lt) ∙ e)
          ∙ sym (ap (λ (q : PathAnswer). value_in X q) e)
      go (answer.Holds z) e = ap (λ (q : PathAnswer). value_in Y q) (find-stays (path_of l) (path_of-slot l lt) ∙ e)
          ∙ ap (λ (c : Cell). Bytes c.payload) (cell-stays (path_of l) z (path_of-slot l lt) e)
          ∙ sym (ap (λ (q : PathAnswer). value_in X q) e)

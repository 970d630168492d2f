-- A step on names that writes a directory's cell in place; Rename.
use Rattle.std.proofs.Common.{◌≡◌, ◌≢◌, ℕ, ◌<◌, ◌≤◌, ◌⊎◌, inl, inr, Bool, true, false, cond, eqb, ◌&&◌, ◌||◌, ◌++◌}
use Rattle.std.proofs.Common.{option_to_list, Option, Some, None, refl}
use Rattle.std.proofs.Common.{sym, ap, ◌∙◌, subst, subst₂, Contains, eqb-true, eq-eqb, ne_eqb}
use Rattle.std.proofs.lemmas.List.Elements.{Contains-push}
use Rattle.nofs_model.specs.declared.image.path.PathAnswer.{PathAnswer}
use Rattle.nofs_crashlaw.specs.Images.Proper.{Proper, OfContent}
use Rattle.nofs_crashlaw.specs.Images.Moments.{during}
use Rattle.nofs_crashlaw.specs.Untouched.Frames.{SamePointers, OldPointers}
use Rattle.nofs_model.proofs.OnSlots.Find.{find-held}
use Rattle.nofs_ptrs.specs.PathLaws.{path_of-slot, path_of-slot_of, slot_of-path_of}
use Rattle.nofs_model.proofs.OnSlots.Paths.{path_of-content}
use Rattle.nofs_crashlaw.proofs.OnUntouched.Matches.{matched-file, agreed-files-is}
use Rattle.nofs_crashlaw.proofs.OnUntouched.Frames.{frame, some-is}
use Rattle.nofs_crashlaw.proofs.OnUntouched.Inodes.{one-owner, rewrites}
use Rattle.nofs_crashlaw.proofs.OnFiles.Given.{meta-stays, at-itself, lies-held}
use Rattle.nofs_crashlaw.proofs.OnFiles.Claims.{slot-content}
use Rattle.nofs_crashlaw.proofs.OnNames.Files.{touches-of, directory-file, file-of}
use Rattle.nofs_model.specs.declared.image.path.PathAnswer.TheVariants as answer
use Rattle.nofs_history.specs.Meta.{Meta}
use Rattle.nofs_history.specs.Marks.{Mark}
use Rattle.nofs_history.specs.Machine.{Given, files_after, lies_above, cell_given}
use Rattle.nofs_history.specs.History.{FilesMatch, SameFile}
use Rattle.nofs_disk.specs.declared.tag.Cell.{Cell}
use Rattle.nofs_disk.specs.declared.tag.Tag.{Tag}
use Rattle.nofs_disk.specs.declared.tag.Pointer.{Pointer}
use Rattle.nofs_inode.specs.declared.inode.Record.{Record}
use Rattle.nofs_disk.specs.Tag.{tag_of}
use Rattle.nofs_ptrs.specs.Cells.{pointer_at}
use Rattle.nofs_inode.specs.InodeRecords.{is_live, free_record}
use Rattle.nofs_ptrs.specs.Paths.{slot_limit, Path, InRecord, Under, path_of, slot_of, is_pointer_slot, IsSlot}
use Rattle.nofs_model.specs.Geometry.{Image, is_data_block, inode}
use Rattle.nofs_disk.specs.Disk.{cell_at}
use Rattle.nofs_model.specs.Files.{file_from, files_in, agreed, node_in, Present, FileState, Files}
use Rattle.nofs_model.specs.Slots.{value, value_in, tag_for, find, record_pointer}
use Rattle.nofs_model.specs.declared.image.value.Value.{Value}
use Rattle.nofs_model.specs.declared.image.value.Value.TheVariants.{Bytes}
use Rattle.nofs_history.specs.Gives.{GivesNothing, GivesCell}
use Rattle.nofs_crashlaw.specs.Names.OldEntries.{InPlace, NameWrites}

-- a write of a content cell that holds is proper
pub cell-proper : (F : Files) (X : Image) (d k : ℕ) (f : FileState) (x : Pointer) (m : Mark) (given : Given) (c : Cell)
    → FilesMatch F X → F d ≡ Some f
    → k < slot_limit → find X d (path_of k) ≡ answer.Holds x
    → is_data_block m.image x.block ≡ true → tag_of c.tag ≡ tag_of (cell_at X x.block).tag
    → given.slots d f.generation k ≡ Some (Bytes c.payload)
    → Proper (during m given) X x.block c
cell-proper F X d k f x m given c match is range held area tag gives =
    let hx = find-held X d (path_of k) x held in
    OfContent (record {
      area = area;
      tag = tag_for X d (path_of k) x.stamp;
      spelled = tag ∙ hx.agrees.tag;
      kind = slot-content X d k range;
      given = subst₂ (λ (h l : ℕ). Contains ((during m given).since d h l) (Bytes c.payload))
          (file-of F X d f match is).1.generation
          (sym (slot_of-path_of k range)) has;
      place = inl tag;
    })
  where
    has : Contains ((during m given).since d f.generation k) (Bytes c.payload)
    has = subst (λ (o : Option Value). Contains (m.since d f.generation k ++ option_to_list o) (Bytes c.payload))
        (sym gives)
        (Contains-push (m.since d f.generation k) (Bytes c.payload))

pub in-place-writes : (s d i k : ℕ) (X Y : Image) (x : Pointer) → find X d (path_of k) ≡ answer.Holds x
    → InPlace X Y x i → NameWrites s d i X Y
in-place-writes s d i k X Y x held p = record {
  super = p.super;
  records = λ j nd ni. p.records j ni;
  blocks = λ b area. go b area (eqb b x.block) refl;
}
  where
    go : (b : ℕ) → is_data_block X b ≡ true → (t : Bool) → eqb b x.block ≡ t → (cell_at Y b ≡ cell_at X b)
        ⊎ ((Rattle.nofs_model.specs.Owners.IsFree X b × ((t : Tag) → tag_of (cell_at Y b).tag ≡ Some t → s ≤ t.stamp))
        ⊎ ((tag_of (cell_at Y b).tag ≡ tag_of (cell_at X b).tag)
        × ((path : Path) × (y : Pointer) × (find X d path ≡ answer.Holds y) × (y.block ≡ b))))
    go b area true e =
        let eb = eqb-true b x.block e in
        inr (inr (
          subst (λ (q : ℕ). tag_of (cell_at Y q).tag ≡ tag_of (cell_at X q).tag) (sym eb) p.tag,
          (path_of k, x, held, sym eb),
        ))
    go b area false e = inl (p.blocks b area (λ eb. let t = eq-eqb b x.block eb in cc (e, t)))

-- the directory's slots after a write in place
module _ (s : ℕ) (X Y : Image) (d i k : ℕ) (x : Pointer) (apart : i ≢ d) (p : InPlace X Y x i) (range : k < slot_limit)
    (held : find X d (path_of k) ≡ answer.Holds x)
    (live : is_live (inode X d) ≡ true) (owned : agreed (files_in X) d ≡ true) (old : OldPointers s X d) where
  record-stays : inode Y d ≡ inode X d
  record-stays = p.records d (λ e. apart (sym e))

  other-block : (path : Path) (y : Pointer) → IsSlot path → find X d path ≡ answer.Holds y → path ≢ path_of k
      → y.block ≢ x.block
  other-block path y slot e ne eb =
      let o = one-owner X d d path (path_of k) y x e held eb in
      ne (sym (path_of-slot_of path slot) ∙ ap path_of o.1 ∙ path_of-slot_of (path_of k) (path_of-slot k range))

  pointers-stay : (path : Path) → IsSlot path → SamePointers X Y d path
  pointers-stay (InRecord n) slot = ap (λ (r : Record). record_pointer r n) record-stays
  pointers-stay (Under a n) slot = (
    pointers-stay a slot.2,
    λ y e. ap (λ (c : Cell). pointer_at c.payload n)
        (p.blocks y.block (find-held X d a y e).agrees.area (other-block a y slot.2 e (λ ep.
        let q : is_pointer_slot (path_of k) ≡ true = subst (λ (r : Path). is_pointer_slot r ≡ true) ep slot.0 in
        let c = path_of-content k range in cc (q, c)))),
  )

  pub find-in-place : (path : Path) → IsSlot path → find Y d path ≡ find X d path
  find-in-place path slot = frame s X Y
      (rewrites s (λ j. eqb j d || eqb j i) X Y (touches-of s d i X Y (in-place-writes s d i k X Y x held p))) d owned
      (record {
        live = live;
        kind = ap (λ (r : Record). r.kind) record-stays;
        generation = ap (λ (r : Record). r.generation) record-stays;
      })
      path slot old (pointers-stay path slot)

  pub beside-in-place : (l : ℕ) → l < slot_limit → l ≢ k → value Y d l ≡ value X d l
  beside-in-place l lt ne = go (find X d (path_of l)) refl
    where
      y : find Y d (path_of l) ≡ find X d (path_of l)
      y = find-in-place (path_of l) (path_of-slot l lt)

      go : (q : PathAnswer) → find X d (path_of l) ≡ q → value Y d l ≡ value X d l
      go answer.Hole e = ap (λ (q : PathAnswer). value_in Y q) (y ∙ e) ∙ sym (ap (λ (q : PathAnswer). value_in X q) e)
      go answer.Lost e = ap (λ (q : PathAnswer). value_in Y q) (y ∙ e) ∙ sym (ap (λ (q : PathAnswer). value_in X q) e)
      go (answer.Holds z) e =
          let off = other-block (path_of l) z (path_of-slot l lt) e
          (λ ep. ne (sym (slot_of-path_of l lt) ∙ ap slot_of ep ∙ slot_of-path_of k range)) in
          ap (λ (q : PathAnswer). value_in Y q) (y ∙ e) ∙ ap (λ (c : Cell). Bytes c.payload)
          (p.blocks z.block (find-held X d (path_of l) z e).agrees.area off)
          ∙ sym (ap (λ (q : PathAnswer). value_in X q) e)

  pub here-in-place : value Y d k ≡ Bytes (cell_at Y x.block).payload
  here-in-place = ap (λ (q : PathAnswer). value_in Y q) (find-in-place (path_of k) (path_of-slot k range) ∙ held)

-- and so its file
pub directory-in-place : (s : ℕ) (F : Files) (given : Given) (X Y : Image) (d i k : ℕ) (f : FileState) (x : Pointer)
    (v : Value) → FilesMatch F X
    → F d ≡ Some f → i ≢ d → k < slot_limit → OldPointers s X d
    → GivesCell given d f.generation k v → find X d (path_of k) ≡ answer.Holds x → InPlace X Y x i
    → Bytes (cell_at Y x.block).payload ≡ v
    → SameFile (files_after F given d) (files_in Y d)
directory-in-place s F given X Y d i k f x v match is apart range old gives held p content =
    let own = matched-file F X d match (some-is (F d) f is) in
    let same : inode Y d ≡ inode X d = p.records d (λ e. apart (sym e)) in
    let found = find-in-place s X Y d i k x apart p range held own.live own.agreed old in
    directory-file F given X Y d k f v match is gives
    (meta-stays X Y d same)
    (here-in-place s X Y d i k x apart p range held own.live own.agreed old ∙ content)
    (beside-in-place s X Y d i k x apart p range held own.live own.agreed old)
    (λ path slot above. let y = lies-held X d path (path_of k) x above held in ap node_in (found path slot ∙ y.1))
    (λ path slot q above. found path slot)

-- what the words for givings say
pub cell-gives : (d g k : ℕ) (v : Value) (metas : ℕ → ℕ → Option Meta)
    → metas d g ≡ None → GivesCell (cell_given d g k v metas) d g k v
cell-gives d g k v metas none = record {
  born = refl;
  slots = λ l. ap (λ (b : Bool). cond (b && eqb k l) (Some v) None) (at-itself d g);
  nodes = λ path. ap (λ (b : Bool). cond (b && lies_above path (path_of k)) (Some Present) None) (at-itself d g);
  metas = none;
}

pub cell-elsewhere : (d g k : ℕ) (v : Value) (metas : ℕ → ℕ → Option Meta) (j : ℕ)
    → j ≢ d → ((h : ℕ) → metas j h ≡ None)
    → GivesNothing (cell_given d g k v metas) j
cell-elsewhere d g k v metas j ne none =
    let e : eqb d j ≡ false = ne_eqb d j (λ q. ne (sym q)) in record {
      born = refl;
      slots = λ h l. ap (λ (b : Bool). cond ((b && eqb g h) && eqb k l) (Some v) None) e;
      nodes = λ h path. ap (λ (b : Bool). cond ((b && eqb g h) && lies_above path (path_of k)) (Some Present) None) e;
      metas = none;
    }

-- inode 0 is no inode
pub no-zero : (X : Image) → inode X 0 ≡ free_record
unfolding inode
no-zero X = refl

pub no-file-zero : (F : Files) (X : Image) → FilesMatch F X → F 0 ≡ None
no-file-zero F X match = go (F 0) (agreed (files_in X) 0) (subst (λ (o : Option FileState). SameFile (F 0) o)
    (agreed-files-is X 0 ∙ ap (λ (o : Option FileState). cond (agreed (files_in X) 0) o None)
    (ap (λ (r : Record). file_from X 0 r.kind) (no-zero X)))
    (match 0))
  where
    go : (o : Option FileState) (b : Bool) → SameFile o (cond b None None) → o ≡ None
    go None b h = refl
    go (Some f) true h = absurd h
    go (Some f) false h = absurd h

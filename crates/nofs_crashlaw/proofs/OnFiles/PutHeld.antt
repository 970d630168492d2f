-- A Put into a slot that holds: its block is written in place, and each slot of its path stays.
use Rattle.std.proofs.Common.{◌≡◌, ◌≢◌, ℕ, ◌≤◌, ◌⊎◌, inl, inr, Bool, true, false, eqb, List, Some, refl, sym, ap, ◌∙◌}
use Rattle.std.proofs.Common.{subst, eqb-true, eq-eqb}
use Rattle.nofs_disk.specs.declared.tag.Cell.{Cell}
use Rattle.nofs_disk.specs.declared.tag.Tag.{Tag}
use Rattle.nofs_disk.specs.declared.tag.Pointer.{Pointer}
use Rattle.nofs_disk.specs.Tag.{tag_of}
use Rattle.nofs_ptrs.specs.Cells.{pointer_at}
use Rattle.nofs_model.specs.Geometry.{Image, is_data_block, inode}
use Rattle.nofs_disk.specs.Disk.{cell_at}
use Rattle.nofs_ptrs.specs.Paths.{Path, InRecord, Under, path_of, slot_of, is_pointer_slot, IsSlot}
use Rattle.nofs_model.specs.Slots.{kind_in, tag_for, find, pointer, IsAbove}
use Rattle.nofs_model.specs.Files.{FileState, Files}
use Rattle.nofs_model.specs.Owners.{IsFree}
use Rattle.nofs_model.specs.declared.image.path.PathAnswer.TheVariants as answer
use Rattle.nofs_model.proofs.OnSlots.Find.{find-held}
use Rattle.nofs_ptrs.specs.PathLaws.{path_of-slot, path_of-slot_of}
use Rattle.nofs_model.proofs.OnSlots.Paths.{path_of-content, above-up, above-slot}
use Rattle.nofs_history.specs.declared.machine.history.Claims.{Claims}
use Rattle.nofs_history.specs.Claims.{is_claimed}
use Rattle.nofs_crashlaw.specs.Untouched.Frames.{Touches}
use Rattle.nofs_crashlaw.specs.Files.Growth.{IsPlaced, Grows}
use Rattle.nofs_crashlaw.proofs.OnUntouched.Inodes.{one-owner}
use Rattle.nofs_crashlaw.proofs.OnFiles.Claims.{super-same}
use Rattle.nofs_crashlaw.specs.Files.Puts.{PutHeld, PutLies, LawPutHeld}

-- above a slot that holds, each slot holds
pub above-held : (X : Image) (i : ℕ) (a p : Path) (x : Pointer) → IsAbove a p → find X i p ≡ answer.Holds x
    → find X i a ≡ answer.Holds (pointer X i a)
above-held X i a (InRecord n) x e held = subst (λ (q : Path). find X i q ≡ answer.Holds (pointer X i q)) (sym e)
    (held ∙ ap answer.Holds (sym (find-held X i (InRecord n) x held).same))
above-held X i a (Under b n) x (inl e) held = subst (λ (q : Path). find X i q ≡ answer.Holds (pointer X i q)) (sym e)
    (held ∙ ap answer.Holds (sym (find-held X i (Under b n) x held).same))
above-held X i a (Under b n) x (inr r) held = let up = (find-held X i (Under b n) x held).above in
    above-held X i a b up.0 r up.1

module _ (F : Files) (X Y : Image) (i g k at : ℕ) (bytes : List ℕ) (f : FileState) (s : ℕ) (x : Pointer)
    (p : PutHeld F X Y i g k at bytes f s x) where
  places : Path → Pointer
  places a = pointer X i a

  holds : (a : Path) → IsAbove a (path_of k) → find X i a ≡ answer.Holds (pointer X i a)
  holds a h = above-held X i a (path_of k) x h p.held

  -- another slot has another block
  other-block : (a : Path) (y : Pointer) → IsSlot a → find X i a ≡ answer.Holds y → a ≢ path_of k → y.block ≢ x.block
  other-block a y slot e ne eb =
      let o = one-owner X i i a (path_of k) y x e p.held eb in
      ne (sym (path_of-slot_of a slot) ∙ ap path_of o.1 ∙ path_of-slot_of (path_of k) (path_of-slot k p.range))

  pointers-apart : (a : Path) → is_pointer_slot a ≡ true → a ≢ path_of k
  pointers-apart a points e = let c = path_of-content k p.range in let z : is_pointer_slot (path_of k) ≡ true =
      subst (λ (q : Path). is_pointer_slot q ≡ true) e points in cc (c, z)

  -- the cell of a block of pointers stays
  cell-stays : (a : Path) (y : Pointer) → IsSlot a → find X i a ≡ answer.Holds y → a ≢ path_of k
      → cell_at Y y.block ≡ cell_at X y.block
  cell-stays a y slot e ne = p.blocks y.block (find-held X i a y e).agrees.area (other-block a y slot e ne)

  same-tag : (a : Path) (z : ℕ) → tag_for Y i a z ≡ tag_for X i a z
  same-tag a z =
      λ j. record { kind = kinds j; inode = i; generation = p.names.generation j; slot = slot_of a; stamp = z }
    where
      kinds : kind_in (inode Y i) a ≡ kind_in (inode X i) a
      kinds = let e = p.names.kind in rw e refl

  tag-stays : (a : Path) → IsSlot a → IsAbove a (path_of k) → (t : Bool) → eqb (pointer X i a).block x.block ≡ t
      → tag_of (cell_at Y (pointer X i a).block).tag ≡ tag_of (cell_at X (pointer X i a).block).tag
  tag-stays a slot h true e = let eb = eqb-true (pointer X i a).block x.block e in
      subst (λ (b : ℕ). tag_of (cell_at Y b).tag ≡ tag_of (cell_at X b).tag)
      (sym eb) p.tag
  tag-stays a slot h false e = ap (λ (c : Cell). tag_of c.tag)
      (p.blocks (pointer X i a).block (find-held X i a (pointer X i a) (holds a h)).agrees.area (λ eb. let t =
      eq-eqb (pointer X i a).block x.block eb in cc (e, t)))

  slot-of-above : (a : Path) → IsAbove a (path_of k) → IsSlot a
  slot-of-above a h = above-slot a (path_of k) h (path_of-slot k p.range)

  grows : Grows s X Y i (path_of k) (λ a. pointer X i a)
  grows = record {
    placed = placed;
    not_null = λ a h. (find-held X i a (pointer X i a) (holds a h)).not_null;
    area = λ a h. let z = super-same X Y p.super in rw z (find-held X i a (pointer X i a) (holds a h)).agrees.area;
    tag = λ a h. tag-stays a (slot-of-above a h) h (eqb (pointer X i a).block x.block) refl
        ∙ (find-held X i a (pointer X i a) (holds a h)).agrees.tag
        ∙ ap Some (sym (same-tag a (pointer X i a).stamp));
    record_stays = λ n off. p.pointers n;
    beside = λ b n slot h off. inl (
      holds b h,
      ap (λ (c : Cell). pointer_at c.payload n)
          (cell-stays b (pointer X i b) slot.2 (holds b h) (pointers-apart b slot.0)),
    );
    apart = λ b y slot off e. cell-stays b y slot e
        (λ eb. off (subst (λ (q : Path). IsAbove q (path_of k)) (sym eb) (itself (path_of k))));
  }
    where
      itself : (q : Path) → IsAbove q q
      itself (InRecord n) = refl
      itself (Under b n) = inl refl

      placed : (a : Path) → IsAbove a (path_of k) → IsPlaced Y i (λ q. pointer X i q) a
      placed (InRecord n) h = p.pointers n
      placed (Under b n) h =
          let up = above-up b n (path_of k) h in
          let hb = holds b up in
          let slot = slot-of-above (Under b n) h in
          let c = cell-stays b (pointer X i b) slot.2 hb (pointers-apart b slot.0) in
          let e : pointer X i (Under b n) ≡ pointer_at (cell_at X (pointer X i b).block).payload n =
          rw (hb, pointer) refl in
          ap (λ (q : Cell). pointer_at q.payload n) c ∙ sym e

  touches : Touches s (λ j. eqb j i) X Y
  touches = record {
    super = p.super;
    records = λ j e. p.records j (λ q. let t = eq-eqb j i q in cc (t, e));
    blocks = λ b area. place b area (eqb b x.block) refl;
  }
    where
      place : (b : ℕ) → is_data_block X b ≡ true → (t : Bool) → eqb b x.block ≡ t → (cell_at Y b ≡ cell_at X b)
          ⊎ ((IsFree X b × ((t : Tag) → tag_of (cell_at Y b).tag ≡ Some t → s ≤ t.stamp))
          ⊎ ((tag_of (cell_at Y b).tag ≡ tag_of (cell_at X b).tag) ×
          ((j : ℕ) × (path : Path) × (y : Pointer) × (eqb j i ≡ true) × (find X j path ≡ answer.Holds y)
          × (y.block ≡ b))))
      place b area true e =
          let eb = eqb-true b x.block e in
          inr (inr (
            subst (λ (q : ℕ). tag_of (cell_at Y q).tag ≡ tag_of (cell_at X q).tag) (sym eb) p.tag,
            (i, path_of k, x, eq-eqb i i refl, p.held, sym eb),
          ))
      place b area false e = inl (p.blocks b area (λ eb. let t = eq-eqb b x.block eb in cc (e, t)))

  lies : PutLies F X Y i g k at bytes f s (λ a. pointer X i a)
  lies = record {
    files = p.files;
    is = p.is;
    generation = p.generation;
    file = p.file;
    range = p.range;
    content = ap (λ (y : Pointer). (cell_at Y y.block).payload) (find-held X i (path_of k) x p.held).same ∙ p.content;
    touches = touches;
    names = p.names;
    size = p.size;
    grows = grows;
    old = p.old;
  }

pub law-put-held : LawPutHeld
law-put-held F X Y i g k at bytes f s x p = (
  lies F X Y i g k at bytes f s x p,
  λ c none. record {
    cell = λ e. let z : is_claimed c.cell ≡ false = ap (λ (q : Claims). is_claimed q.cell) none in cc (e, z);
    leaf = λ e. let z : is_claimed c.leaf ≡ false = ap (λ (q : Claims). is_claimed q.leaf) none in cc (e, z);
    top = λ e. let z : is_claimed c.top ≡ false = ap (λ (q : Claims). is_claimed q.top) none in cc (e, z);
    each = λ a h. inl (holds F X Y i g k at bytes f s x p a h);
  },
)

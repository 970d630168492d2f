-- A slot holds, is empty and has its value where the computing words say so.
use Rattle.std.proofs.Common.{◌≡◌, ◌≢◌, ℕ, ◌<◌, ◌≤◌, inl, inr, Bool, true, false, eqb, leb, ltb, refl, sym, ap, ◌∙◌}
use Rattle.std.proofs.Common.{subst, eqb-true, leb-true, ltb-true, le-leb, lt-ltb}
use Rattle.nofs_disk.specs.declared.tag.Pointer.{Pointer}
use Rattle.nofs_disk.specs.Pointer.{null, is_null}
use Rattle.nofs_ptrs.specs.Cells.{pointer_at}
use Rattle.nofs_model.specs.Geometry.{Image, inode, first_data, is_data_block, super_at}
use Rattle.nofs_disk.specs.Disk.{cell_at}
use Rattle.nofs_ptrs.specs.Paths.{Path, InRecord, Under, path_of}
use Rattle.nofs_model.specs.Slots.{record_pointer, find, pointer, value, value_in}
use Rattle.nofs_model.specs.Definitions.{TagFits, Holds, IsEmpty, IsValue, hole, bytes, lost, LawSlots}
use Rattle.nofs_model.specs.declared.image.path.PathAnswer.{PathAnswer}
use Rattle.nofs_model.specs.declared.image.path.PathAnswer.TheVariants as answer
use Rattle.nofs_model.specs.declared.image.value.Value.{Value}
use Rattle.nofs_model.specs.declared.image.value.Value.TheVariants.{Lost}
use Rattle.nofs_model.proofs.OnSlots.Find.{and-both, Agrees, HoldsAt, find-held, find-built, agrees-built, find-null}
use Rattle.nofs_model.proofs.OnSlots.Find.{judged-null, judged-built-null}

-- null, as a test and as a fact
null-true : (x : Pointer) → is_null x ≡ true → x ≡ null
null-true x e =
    let p = and-both (eqb x.block 0) (eqb x.stamp 0) e in
    let b : x.block ≡ 0 = eqb-true x.block 0 p.0 in
    let s : x.stamp ≡ 0 = eqb-true x.stamp 0 p.1 in
    λ j. record { block = b j; stamp = s j }

null-is : (x : Pointer) → x ≡ null → is_null x ≡ true
null-is x e = ap is_null e

not-null : (x : Pointer) → x ≢ null → is_null x ≡ false
not-null x h = go (is_null x) refl
  where
    go : (b : Bool) → is_null x ≡ b → is_null x ≡ false
    go true e = absurd (h (null-true x e))
    go false e = e

null-not : (x : Pointer) → is_null x ≡ false → x ≢ null
null-not x e h = cc (null-is x h, e)

area-is : (X : Image) (p : ℕ) → first_data X ≤ p → p < (super_at X).blocks → is_data_block X p ≡ true
area-is X p low high = rw (le-leb (first_data X) p low, lt-ltb p (super_at X).blocks high) refl

fits-agrees : (X : Image) (i : ℕ) (path : Path) (x : Pointer) → TagFits X i path x → Agrees X i path x
fits-agrees X i path x f = record { live = f.live; area = area-is X x.block f.above f.below; tag = f.tag }

agrees-fits : (X : Image) (i : ℕ) (path : Path) (x : Pointer) → HoldsAt X i path x → TagFits X i path x
agrees-fits X i path x h =
    let a = and-both (leb (first_data X) x.block) (ltb x.block (super_at X).blocks) h.agrees.area in
    record {
      not_null = null-not x h.not_null;
      live = h.agrees.live;
      above = leb-true (first_data X) x.block a.0;
      below =
          ltb-true x.block (super_at X).blocks a.1;
      tag = h.agrees.tag;
    }

pub holds-find : (X : Image) (i : ℕ) (path : Path) (x : Pointer) → Holds X i path x → find X i path ≡ answer.Holds x
holds-find X i (InRecord n) x (e, f) =
    find-built X i (InRecord n) x tt (sym e) (agrees-built X i (InRecord n) x (fits-agrees X i (InRecord n) x f))
    (not-null x f.not_null)
holds-find X i (Under a n) x (y, h, e, f) =
    let up = holds-find X i a y h in
    find-built X i (Under a n) x (y, up) (rw (up, pointer) (sym e))
    (agrees-built X i (Under a n) x (fits-agrees X i (Under a n) x f)) (not-null x f.not_null)

pub find-holds : (X : Image) (i : ℕ) (path : Path) (x : Pointer) → find X i path ≡ answer.Holds x → Holds X i path x
find-holds X i (InRecord n) x e = let h = find-held X i (InRecord n) x e in
    (sym h.same, agrees-fits X i (InRecord n) x h)
find-holds X i (Under a n) x e =
    let h = find-held X i (Under a n) x e in
    let (y, up) = h.above in
    let same : pointer X i (Under a n) ≡ pointer_at (cell_at X y.block).payload n = rw (up, pointer) refl in
    (y, find-holds X i a y up, sym h.same ∙ same, agrees-fits X i (Under a n) x h)

pub empty-find : (X : Image) (i : ℕ) (path : Path) → IsEmpty X i path → find X i path ≡ answer.Hole
empty-find X i (InRecord n) e =
    judged-built-null X i (InRecord n) (record_pointer (inode X i) n) (null-is (record_pointer (inode X i) n) e)
empty-find X i (Under a n) (inl up) = rw (empty-find X i a up, find) refl
empty-find X i (Under a n) (inr (y, h, e)) = rw (holds-find X i a y h, find)
    (judged-built-null X i (Under a n) (pointer_at (cell_at X y.block).payload n)
    (null-is (pointer_at (cell_at X y.block).payload n) e))

pub find-empty : (X : Image) (i : ℕ) (path : Path) → find X i path ≡ answer.Hole → IsEmpty X i path
find-empty X i (InRecord n) e =
    null-true (record_pointer (inode X i) n) (judged-null X i (InRecord n) (record_pointer (inode X i) n) e)
find-empty X i (Under a n) e = elim (find-null X i a n e) [
  | inl up ↦ inl (find-empty X i a up)
  | inr (y, h, z) ↦ inr (y, find-holds X i a y h, null-true (pointer_at (cell_at X y.block).payload n) z)
]

pub value-fact : (X : Image) (i k : ℕ) → IsValue X i k (value X i k)
value-fact X i k = go (find X i (path_of k)) refl
  where
    go : (f : PathAnswer) → find X i (path_of k) ≡ f → IsValue X i k (value_in X f)
    go answer.Hole e = hole (find-empty X i (path_of k) e)
    go (answer.Holds x) e = bytes x (find-holds X i (path_of k) x e)
    go answer.Lost e = lost (λ h. cc (empty-find X i (path_of k) h, e)) (λ x h. cc (holds-find X i (path_of k) x h, e))

pub fact-value : (X : Image) (i k : ℕ) (v : Value) → IsValue X i k v → value X i k ≡ v
fact-value X i k _ (hole e) = ap (value_in X) (empty-find X i (path_of k) e)
fact-value X i k _ (bytes x h) = ap (value_in X) (holds-find X i (path_of k) x h)
fact-value X i k _ (lost full unheld) = go (find X i (path_of k)) refl
  where
    go : (f : PathAnswer) → find X i (path_of k) ≡ f → value_in X (find X i (path_of k)) ≡ Lost
    go answer.Hole e = absurd (full (find-empty X i (path_of k) e))
    go (answer.Holds x) e = absurd (unheld x (find-holds X i (path_of k) x e))
    go answer.Lost e = ap (value_in X) e

pub slots-law : LawSlots
slots-law = record {
  holds = λ X i path x. (holds-find X i path x, find-holds X i path x);
  empty = λ X i path. (empty-find X i path, find-empty X i path);
  values = λ X i k v. (fact-value X i k v, λ e. subst (λ (q : Value). IsValue X i k q) e (value-fact X i k));
}

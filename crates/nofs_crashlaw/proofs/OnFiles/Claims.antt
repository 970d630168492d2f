-- A block that is claimed for a slot.
use Rattle.nofs_inode.specs.declared.inode.FileKind.TheVariants.{Directory as Folder, File}
use Rattle.nofs_model.specs.declared.image.path.PathAnswer.{PathAnswer}
use Rattle.nofs_model.specs.declared.image.path.PathAnswer.TheVariants as answer
use Rattle.nofs_crashlaw.specs.Images.Reasons.{Holes, ReadsSince}
use Rattle.std.proofs.Common.{◌≡◌, ℕ, ◌<◌, ◌≤◌, ◌⊎◌, inl, inr, Bool, true, false, ◌||◌, ◌++◌, option_to_list, Option}
use Rattle.std.proofs.Common.{Some, None, refl, sym, ap, ◌∙◌, subst, subst₂, arith, Contains, ne_eqb}
use Rattle.std.proofs.lemmas.List.Elements.{Contains-push}
use Rattle.nofs_disk.specs.declared.tag.Cell.{Cell}
use Rattle.nofs_disk.specs.declared.tag.Kind.TheVariants.{Content, Directory}
use Rattle.nofs_disk.specs.declared.tag.Tag.{Tag}
use Rattle.nofs_disk.specs.declared.tag.Pointer.{Pointer}
use Rattle.nofs_disk.specs.Tag.{tag_of}
use Rattle.nofs_disk.specs.Pointer.{is_null}
use Rattle.nofs_inode.specs.InodeRecords.{is_live}
use Rattle.nofs_ptrs.specs.Paths.{slot_limit, Path, InRecord, Under, path_of}
use Rattle.nofs_super.specs.Super.{super_in}
use Rattle.nofs_model.specs.Geometry.{Image, super_at, is_data_block, inode}
use Rattle.nofs_disk.specs.Disk.{cell_at}
use Rattle.nofs_model.specs.Slots.{kind_in, tag_for, find, value, value_in, IsAbove}
use Rattle.nofs_model.specs.declared.image.value.Value.{Value}
use Rattle.nofs_model.specs.declared.image.value.Value.TheVariants.{Hole, Bytes}
use Rattle.nofs_model.proofs.OnSlots.Paths.{below-null, above-refl, path_of-content}
use Rattle.nofs_ptrs.specs.PathLaws.{slot_of-path_of}
use Rattle.nofs_history.specs.Marks.{Mark}
use Rattle.nofs_history.specs.Machine.{Given, lies_above, same_path}
use Rattle.nofs_crashlaw.specs.Images.Proper.{IsContentKind, Proper, OfContent}
use Rattle.nofs_crashlaw.specs.Images.Moments.{during}
use Rattle.nofs_crashlaw.specs.Files.Growth.{ClaimedCell}
use Rattle.nofs_crashlaw.proofs.OnFiles.Given.{content-kind, data-positive}
use Rattle.nofs_crashlaw.proofs.OnFiles.Growth.{same_path-true, same_path-refl}

pub test-above : (a p : Path) → lies_above a p ≡ true → IsAbove a p
test-above a (InRecord n) e = cc
test-above a (Under b n) e = go (same_path a b) refl (λ h. test-above a b h) e
  where
    go : (t : Bool) → same_path a b ≡ t → (lies_above a b ≡ true → IsAbove a b)
        → (t || lies_above a b) ≡ true → IsAbove a (Under b n)
    go true et ih h = inr (subst (λ (q : Path). IsAbove a q) (same_path-true a b et) (above-refl a))
    go false et ih h = inr (ih h)

pub above-test : (a p : Path) → IsAbove a p → (a ≡ p) ⊎ (lies_above a p ≡ true)
above-test a (InRecord n) e = inl e
above-test a (Under b n) (inl e) = inl e
above-test a (Under b n) (inr r) = elim (above-test a b r) [
  | inl e ↦
      inr (let t : same_path a b ≡ true = subst (λ (q : Path). same_path a q ≡ true) e (same_path-refl a) in rw t refl)
  | inr l ↦ inr (or-right (same_path a b) (lies_above a b) l)
]
  where
    or-right : (x y : Bool) → y ≡ true → (x || y) ≡ true
    or-right true y e = refl
    or-right false y e = e

pub not-null : (X : Image) (x : Pointer) → is_data_block X x.block ≡ true → is_null x ≡ false
not-null X x area = let p = data-positive X x.block area in
    let z = ne_eqb x.block 0 (λ e. omega (arith, e, p)) in rw z refl

stamp-of : (t u : Tag) → Some t ≡ Some u → t.stamp ≡ u.stamp
stamp-of t u e = let s : t ≡ u = cc e in ap (λ (q : Tag). q.stamp) s

pub fresh-tag : (s : ℕ) (X Y : Image) (d : ℕ) (path : Path) (x : Pointer) → ClaimedCell s X Y d path x
    → (t : Tag) → tag_of (cell_at Y x.block).tag ≡ Some t
    → s ≤ t.stamp
fresh-tag s X Y d path x c t e =
    let q : t.stamp ≡ x.stamp = stamp-of t (tag_for Y d path x.stamp) (sym e ∙ c.tag) in
    subst (λ (r : ℕ). s ≤ r) (sym q) c.fresh

pub super-same : (X Y : Image) → cell_at Y 0 ≡ cell_at X 0 → super_at Y ≡ super_at X
unfolding super_at
super-same X Y e = ap (λ (c : Cell). super_in c.payload) e

-- a slot of a file has content
pub slot-content : (X : Image) (d k : ℕ) → k < slot_limit → IsContentKind (kind_in (inode X d) (path_of k))
slot-content X d k range =
    let e : kind_in (inode X d) (path_of k) ≡ elim (inode X d).kind [
      | None ↦ Content
      | Some kind ↦ elim kind [ File ↦ Content | Folder ↦ Directory ]
    ] =
    rw (path_of-content k range) refl in
    subst IsContentKind (sym e) (content-kind (inode X d).kind)

-- a claimed cell of content is proper
pub claimed-cell-proper : (s k : ℕ) (X Y : Image) (d g : ℕ) (x : Pointer) (m : Mark) (given : Given)
    → k < slot_limit → ClaimedCell s X Y d (path_of k) x
    → is_data_block m.image x.block ≡ true → (inode Y d).generation ≡ g
    → given.slots d g k ≡ Some (Bytes (cell_at Y x.block).payload)
    → Proper (during m given) X x.block (cell_at Y x.block)
claimed-cell-proper s k X Y d g x m given range c area gen gives = OfContent (record {
  area = area;
  tag = tag_for Y d (path_of k) x.stamp;
  spelled = c.tag;
  kind = slot-content Y d k range;
  given = subst₂ (λ (h l : ℕ). Contains ((during m given).since d h l) (Bytes (cell_at Y x.block).payload)) (sym gen)
      (sym (slot_of-path_of k range)) has;
  place = inr c.free;
})
  where
    has : Contains ((during m given).since d g k) (Bytes (cell_at Y x.block).payload)
    has = subst (λ (o : Option Value). Contains (m.since d g k ++ option_to_list o) (Bytes (cell_at Y x.block).payload))
        (sym gives)
        (Contains-push (m.since d g k) (Bytes (cell_at Y x.block).payload))

-- under a slot that is empty, holes may be read
pub holes-under : (m : Mark) (X : Image) (i : ℕ) (b : Path) → ReadsSince m X
    → is_live (inode X i) ≡ true → find X i b ≡ answer.Hole → (q : ℕ)
    → Holes m i (inode X i).generation (Under b q)
holes-under m X i b reads live empty q k lt above = elim (reads.values i k live lt) [
  | inl lost ↦ absurd (let h : value X i k ≡ Hole = hole in cc (h, lost))
  | inr has ↦ subst (λ (v : Value). Contains (m.since i (inode X i).generation k) v) hole has
]
  where
    under : find X i (Under b q) ≡ answer.Hole
    under = rw (empty, find) refl

    hole : value X i k ≡ Hole
    hole = ap (λ (f : PathAnswer). value_in X f) (below-null X i (Under b q) (path_of k) above under)

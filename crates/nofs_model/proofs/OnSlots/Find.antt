-- What it means that a slot holds, is empty or is broken.
use Rattle.std.proofs.Common.{◌≡◌, ℕ, ◌⊎◌, inl, inr, Bool, true, false, cond, eqb, ◌&&◌, Option, Some, None, refl, sym}
use Rattle.std.proofs.Common.{ap, subst, arith, eqb-true}
use Rattle.std.proofs.lemmas.Bool.Decides.{nat_tests}
use Rattle.nofs_disk.specs.declared.tag.Kind.{Kind}
use Rattle.nofs_disk.specs.declared.tag.Kind.TheVariants.{Nothing, Content, Directory, Leaf, Table, Super}
use Rattle.nofs_disk.specs.declared.tag.Tag.{Tag}
use Rattle.nofs_disk.specs.declared.tag.Pointer.{Pointer}
use Rattle.nofs_model.specs.Cells.{same_kind, same_tag}
use Rattle.nofs_disk.specs.Tag.{tag_of}
use Rattle.nofs_disk.specs.Pointer.{is_null}
use Rattle.nofs_ptrs.specs.Cells.{pointer_at}
use Rattle.nofs_inode.specs.InodeRecords.{is_live}
use Rattle.nofs_model.specs.declared.image.path.PathAnswer.{PathAnswer}
use Rattle.nofs_model.specs.Geometry.{Image, is_data_block, inode}
use Rattle.nofs_disk.specs.Disk.{cell_at}
use Rattle.nofs_ptrs.specs.Paths.{Path, InRecord, Under}
use Rattle.nofs_model.specs.Slots.{tag_for, is_tag, agrees, record_pointer, judged, find, pointer, AboveHolds}
use Rattle.nofs_model.specs.declared.image.path.PathAnswer.TheVariants as answer

pub and-both : (a b : Bool) → (a && b) ≡ true → (a ≡ true) × (b ≡ true)
and-both true b e = (refl, e)
and-both false b e = cc

pub same_kind-true : (a b : Kind) → same_kind a b ≡ true → a ≡ b
same_kind-true Nothing Nothing e = refl
same_kind-true Content Content e = refl
same_kind-true Directory Directory e = refl
same_kind-true Leaf Leaf e = refl
same_kind-true Nothing _ e = grind arith
same_kind-true Content _ e = grind arith
same_kind-true Directory _ e = grind arith
same_kind-true Leaf _ e = grind arith
same_kind-true Table Table e = refl
same_kind-true Super Super e = refl
same_kind-true Table _ e = grind arith
same_kind-true Super _ e = grind arith

pub same_tag-true : (a b : Tag) → same_tag a b ≡ true → a ≡ b
same_tag-true a b e =
    let p = and-both (same_kind a.kind b.kind)
    ((eqb a.inode b.inode) && ((eqb a.generation b.generation) && ((eqb a.slot b.slot) && (eqb a.stamp b.stamp))))
    e in
    let q = and-both (eqb a.inode b.inode)
    ((eqb a.generation b.generation) && ((eqb a.slot b.slot) && (eqb a.stamp b.stamp))) p.1 in
    let r = and-both (eqb a.generation b.generation) ((eqb a.slot b.slot) && (eqb a.stamp b.stamp)) q.1 in
    let s = and-both (eqb a.slot b.slot) (eqb a.stamp b.stamp) r.1 in
    let k : a.kind ≡ b.kind = same_kind-true a.kind b.kind p.0 in
    let i : a.inode ≡ b.inode = eqb-true a.inode b.inode q.0 in
    let g : a.generation ≡ b.generation = eqb-true a.generation b.generation r.0 in
    let l : a.slot ≡ b.slot = eqb-true a.slot b.slot s.0 in
    let m : a.stamp ≡ b.stamp = eqb-true a.stamp b.stamp s.1 in
    λ h. record { kind = k h; inode = i h; generation = g h; slot = l h; stamp = m h }

pub is_tag-true : (o : Option Tag) (t : Tag) → is_tag o t ≡ true → o ≡ Some t
is_tag-true None t e = cc
is_tag-true (Some a) t e = ap Some (same_tag-true a t e)

-- what holds where the block agrees
pub record Agrees (X : Image) (i : ℕ) (path : Path) (x : Pointer) : Type 0 where
  pub live : is_live (inode X i) ≡ true
  pub area : is_data_block X x.block ≡ true
  pub tag : tag_of (cell_at X x.block).tag ≡ Some (tag_for X i path x.stamp)

pub agrees-true : (X : Image) (i : ℕ) (path : Path) (x : Pointer) → agrees X i path x ≡ true → Agrees X i path x
agrees-true X i path x e =
    let p = and-both (is_live (inode X i))
    (is_data_block X x.block && is_tag (tag_of (cell_at X x.block).tag) (tag_for X i path x.stamp)) e in
    let q = and-both (is_data_block X x.block)
    (is_tag (tag_of (cell_at X x.block).tag) (tag_for X i path x.stamp)) p.1 in
    record { live = p.0; area = q.0; tag = is_tag-true (tag_of (cell_at X x.block).tag) (tag_for X i path x.stamp) q.1 }

pub judged-held : (X : Image) (i : ℕ) (path : Path) (z x : Pointer) → judged X i path z ≡ answer.Holds x
    → (z ≡ x) × Agrees X i path x × (is_null x ≡ false)
judged-held X i path z x e = go (is_null z) refl (agrees X i path z) refl e
  where
    go : (n : Bool) → is_null z ≡ n → (a : Bool)
        → agrees X i path z ≡ a → cond n answer.Hole (cond a (answer.Holds z) answer.Lost) ≡ answer.Holds x
        → (z ≡ x) × Agrees X i path x × (is_null x ≡ false)
    go true en a ea h = cc
    go false en true ea h =
        let s : z ≡ x = cc in (
          s,
          subst (λ (w : Pointer). Agrees X i path w) s (agrees-true X i path z ea),
          subst (λ (w : Pointer). is_null w ≡ false) s en,
        )
    go false en false ea h = cc

pub judged-null : (X : Image) (i : ℕ) (path : Path) (z : Pointer) → judged X i path z ≡ answer.Hole → is_null z ≡ true
judged-null X i path z e = go (is_null z) refl (agrees X i path z) e
  where
    go : (n : Bool) → is_null z ≡ n → (a : Bool)
        → cond n answer.Hole (cond a (answer.Holds z) answer.Lost) ≡ answer.Hole → is_null z ≡ true
    go true en a h = en
    go false en true h = cc
    go false en false h = cc

-- what holds where a slot holds
pub record HoldsAt (X : Image) (i : ℕ) (path : Path) (x : Pointer) : Type 0 where
  pub above : AboveHolds X i path
  pub same : pointer X i path ≡ x
  pub agrees : Agrees X i path x
  pub not_null : is_null x ≡ false

-- what stands in a slot, by what stands in the one above it
abbrev found_under : Image → ℕ → Path → ℕ → PathAnswer → PathAnswer
found_under X i a n f = elim f [
  | answer.Hole ↦ answer.Hole
  | answer.Holds y ↦ judged X i (Under a n) (pointer_at (cell_at X y.block).payload n)
  | answer.Lost ↦ answer.Lost
]

pub find-held : (X : Image) (i : ℕ) (path : Path) (x : Pointer) → find X i path ≡ answer.Holds x → HoldsAt X i path x
find-held X i (InRecord n) x e =
    let p = judged-held X i (InRecord n) (record_pointer (inode X i) n) x e in
    record { above = tt; same = p.0; agrees = p.1; not_null = p.2 }
find-held X i (Under a n) x e = go (find X i a) refl e
  where
    go : (f : PathAnswer) → find X i a ≡ f → found_under X i a n f ≡ answer.Holds x → HoldsAt X i (Under a n) x
    go answer.Hole ef h = cc
    go answer.Lost ef h = cc
    go (answer.Holds y) ef h =
        let p = judged-held X i (Under a n) (pointer_at (cell_at X y.block).payload n) x h in
        record { above = (y, ef); same = rw (ef, pointer) p.0; agrees = p.1; not_null = p.2 }

-- a slot is empty where the one above it is, or where its pointer is null
pub find-null : (X : Image) (i : ℕ) (a : Path) (n : ℕ) → find X i (Under a n) ≡ answer.Hole
    → (find X i a ≡ answer.Hole)
    ⊎ ((y : Pointer) × (find X i a ≡ answer.Holds y) × (is_null (pointer_at (cell_at X y.block).payload n) ≡ true))
find-null X i a n e = go (find X i a) refl e
  where
    go : (f : PathAnswer) → find X i a ≡ f → found_under X i a n f ≡ answer.Hole
        → (find X i a ≡ answer.Hole)
        ⊎ ((y : Pointer) × (find X i a ≡ answer.Holds y) × (is_null (pointer_at (cell_at X y.block).payload n) ≡ true))
    go answer.Hole ef h = inl ef
    go answer.Lost ef h = cc
    go (answer.Holds y) ef h = inr (y, ef, judged-null X i (Under a n) (pointer_at (cell_at X y.block).payload n) h)

pub same_kind-refl : (a : Kind) → same_kind a a ≡ true
same_kind-refl Nothing = refl
same_kind-refl Content = refl
same_kind-refl Directory = refl
same_kind-refl Leaf = refl
same_kind-refl Table = refl
same_kind-refl Super = refl

eqb-refl : (n : ℕ) → eqb n n ≡ true
eqb-refl n = grind (arith, nat_tests)

pub same_tag-refl : (a : Tag) → same_tag a a ≡ true
same_tag-refl a = rw (same_kind-refl a.kind, eqb-refl a.inode, eqb-refl a.generation, eqb-refl a.slot, eqb-refl a.stamp)

pub agrees-built : (X : Image) (i : ℕ) (path : Path) (x : Pointer) → Agrees X i path x → agrees X i path x ≡ true
agrees-built X i path x h =
    let t : is_tag (tag_of (cell_at X x.block).tag) (tag_for X i path x.stamp) ≡ true =
    subst (λ (o : Option Tag). is_tag o (tag_for X i path x.stamp) ≡ true) (sym h.tag)
    (same_tag-refl (tag_for X i path x.stamp)) in
    rw (h.live, h.area, t)

judged-built : (X : Image) (i : ℕ) (path : Path) (z x : Pointer)
    → z ≡ x → agrees X i path x ≡ true → is_null x ≡ false → judged X i path z ≡ answer.Holds x
judged-built X i path z x e a n =
    let a' : agrees X i path z ≡ true = subst (λ (w : Pointer). agrees X i path w ≡ true) (sym e) a in
    let n' : is_null z ≡ false = subst (λ (w : Pointer). is_null w ≡ false) (sym e) n in
    go (is_null z) n' (agrees X i path z) a'
  where
    go : (b : Bool) → b ≡ false → (c : Bool)
        → c ≡ true → cond b answer.Hole (cond c (answer.Holds z) answer.Lost) ≡ answer.Holds x
    go true eb c ec = cc
    go false eb true ec = ap answer.Holds e
    go false eb false ec = cc

pub find-built : (X : Image) (i : ℕ) (path : Path) (x : Pointer) → AboveHolds X i path
    → pointer X i path ≡ x → agrees X i path x ≡ true → is_null x ≡ false
    → find X i path ≡ answer.Holds x
find-built X i (InRecord n) x above e a z = judged-built X i (InRecord n) (record_pointer (inode X i) n) x e a z
find-built X i (Under b n) x (y, eb) e a z =
    rw (eb, find) (judged-built X i (Under b n) (pointer_at (cell_at X y.block).payload n) x (rw (eb, pointer) at e)
    a z)

pub judged-built-null : (X : Image) (i : ℕ) (path : Path) (z : Pointer)
    → is_null z ≡ true → judged X i path z ≡ answer.Hole
judged-built-null X i path z e = rw e

pub null-kept : (X : Image) (i : ℕ) (a : Path) (n : ℕ) → AboveHolds X i (Under a n)
    → is_null (pointer X i (Under a n)) ≡ true
    → find X i (Under a n) ≡ answer.Hole
null-kept X i a n (y, ea) z =
    let same : pointer X i (Under a n) ≡ pointer_at (cell_at X y.block).payload n = rw (ea, pointer) in
    let z' : is_null (pointer_at (cell_at X y.block).payload n) ≡ true =
    subst (λ (q : Pointer). is_null q ≡ true) same z in
    rw (ea, find) (judged-built-null X i (Under a n) (pointer_at (cell_at X y.block).payload n) z')

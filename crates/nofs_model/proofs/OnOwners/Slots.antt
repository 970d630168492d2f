-- A block has an owner exactly where some agreed slot holds it, and then just that one.
use Rattle.std.proofs.Common.{◌≡◌, ℕ, ◌≤◌, [], length, Bool, true, false, cond, eqb, ◌&&◌, Option, Some, None, refl, ap}
use Rattle.std.proofs.Common.{◌∙◌, subst, subst₂, eqb-true, eq-eqb}
use Rattle.std.proofs.lemmas.List.{get_or_past}
use Rattle.nofs_disk.specs.Disk.{no_cell, cell_at}
use Rattle.nofs_disk.specs.declared.tag.Cell.{Cell}
use Rattle.nofs_disk.specs.declared.tag.Tag.{Tag}
use Rattle.nofs_disk.specs.declared.tag.Pointer.{Pointer}
use Rattle.nofs_disk.specs.Tag.{tag_of}
use Rattle.nofs_disk.specs.Number.{number_at}
use Rattle.nofs_model.specs.Geometry.{Image, inode}
use Rattle.nofs_model.specs.Files.{files_in, agreed}
use Rattle.nofs_ptrs.specs.Paths.{Path, path_of, slot_of, IsSlot, is_slot}
use Rattle.nofs_model.specs.Slots.{tag_for, find}
use Rattle.nofs_model.specs.Owners.{owner_found, owner_by, owner, IsFree, Home, home_at}
use Rattle.nofs_model.specs.declared.image.path.PathAnswer.{PathAnswer}
use Rattle.nofs_model.specs.declared.image.path.PathAnswer.TheVariants as answer
use Rattle.nofs_model.proofs.OnSlots.Find.{and-both, find-held}
use Rattle.nofs_ptrs.specs.PathLaws.{path_of-slot_of}
use Rattle.nofs_model.proofs.OnSlots.Paths.{slot_of-slot}

-- what an agreed slot holds is owned by it
pub owner-of : (X : Image) (i : ℕ) (path : Path) (x : Pointer) → IsSlot path
    → agreed (files_in X) i ≡ true → find X i path ≡ answer.Holds x
    → owner X x.block ≡ Some (home_at i (slot_of path))
unfolding owner
owner-of X i path x slot a e =
    let t = (find-held X i path x e).agrees.tag in
    let p : path_of (slot_of path) ≡ path = path_of-slot_of path slot in
    let f : find X i (path_of (slot_of path)) ≡ answer.Holds x = ap (λ (q : Path). find X i q) p ∙ e in
    let s : is_slot (slot_of path) ≡ true = slot_of-slot path slot in
    let by : owner_by X x.block (Some (tag_for X i path x.stamp)) ≡ owner_found X x.block (tag_for X i path x.stamp)
    (find X i (path_of (slot_of path))) =
    rw s refl in
    ap (λ (o : Option Tag). owner_by X x.block o) t
    ∙ by ∙ ap (λ (q : PathAnswer). owner_found X x.block (tag_for X i path x.stamp) q) f
    ∙ rw (eq-eqb x.block x.block refl, a) refl

pub same-home : (a b i k : ℕ) → Some (home_at a b) ≡ Some (home_at i k) → (a ≡ i) × (b ≡ k)
same-home a b i k e = let s : home_at a b ≡ home_at i k = cc e in
    (ap (λ (q : Home). q.inode) s, ap (λ (q : Home). q.slot) s)

pub unowned-free : (X : Image) (p : ℕ) → owner X p ≡ None → IsFree X p
unowned-free X p none i path x slot a e eb =
    let o = owner-of X i path x slot a e in
    let o' : owner X p ≡ Some (home_at i (slot_of path)) =
    subst (λ (q : ℕ). owner X q ≡ Some (home_at i (slot_of path))) eb o in
    cc (none, o')

-- the slot of an owner's tag, where it is one
tag-slot : (X : Image) (p : ℕ) (t : Tag) (h : Home) → owner_by X p (Some t) ≡ Some h
    → (is_slot t.slot ≡ true) × (owner_found X p t (find X t.inode (path_of t.slot)) ≡ Some h)
tag-slot X p t h e = go (is_slot t.slot) refl e
  where
    go : (b : Bool) → is_slot t.slot ≡ b → cond b (owner_found X p t (find X t.inode (path_of t.slot))) None ≡ Some h
        → (is_slot t.slot ≡ true) × (owner_found X p t (find X t.inode (path_of t.slot)) ≡ Some h)
    go true eb q = (eb, q)
    go false eb q = cc

-- what is found of an owner
record IsFound (X : Image) (p i k : ℕ) : Type 0 where
  slot : is_slot k ≡ true
  pointer : Pointer
  agreed : agreed (files_in X) i ≡ true
  holds : find X i (path_of k) ≡ answer.Holds pointer
  names : pointer.block ≡ p

found-owner : (X : Image) (p i k : ℕ) → owner X p ≡ Some (home_at i k) → IsFound X p i k
unfolding owner
found-owner X p i k e = by-tag (tag_of (cell_at X p).tag) e
  where
    by-find : (t : Tag) (f : PathAnswer)
        → is_slot t.slot ≡ true → find X t.inode (path_of t.slot) ≡ f → owner_found X p t f ≡ Some (home_at i k)
        → IsFound X p i k
    by-find t answer.Hole s ef h = cc
    by-find t answer.Lost s ef h = cc
    by-find t (answer.Holds x) s ef h = go ((eqb x.block p) && agreed (files_in X) t.inode) refl h
      where
        go : (b : Bool) → ((eqb x.block p) && agreed (files_in X) t.inode) ≡ b
            → cond b (Some (home_at t.inode t.slot)) None ≡ Some (home_at i k)
            → IsFound X p i k
        go false eb h = cc
        go true eb h =
            let same = same-home t.inode t.slot i k h in
            let a = and-both (eqb x.block p) (agreed (files_in X) t.inode) eb in
            let ei : t.inode ≡ i = same.0 in
            let ek : t.slot ≡ k = same.1 in
            record {
              slot = subst (λ (q : ℕ). is_slot q ≡ true) ek s;
              pointer = x;
              agreed = subst (λ (q : ℕ). agreed (files_in X) q ≡ true) ei a.1;
              holds = subst₂ (λ (q r : ℕ). find X q (path_of r) ≡ answer.Holds x) ei ek ef;
              names = eqb-true x.block p a.0;
            }

    by-tag : (o : Option Tag) → owner_by X p o ≡ Some (home_at i k) → IsFound X p i k
    by-tag None h = cc
    by-tag (Some t) h = let s = tag-slot X p t (home_at i k) h in
        by-find t (find X t.inode (path_of t.slot)) s.0 refl s.1

-- an owner is an agreed inode's slot that holds the block
pub owner-holds : (X : Image) (p i k : ℕ) → owner X p ≡ Some (home_at i k)
    → (x : Pointer) × (agreed (files_in X) i ≡ true) × (find X i (path_of k) ≡ answer.Holds x) × (x.block ≡ p)
owner-holds X p i k e = let f = found-owner X p i k e in (f.pointer, f.agreed, f.holds, f.names)

pub owner-slot : (X : Image) (p i k : ℕ) → owner X p ≡ Some (home_at i k) → is_slot k ≡ true
owner-slot X p i k e = (found-owner X p i k e).slot

-- no bytes spell the tag of zeros, and no slot of inode 0 holds
nowhere : (X : Image) (p : ℕ) → owner_by X p (tag_of []) ≡ None
unfolding tag_of number_at inode path_of
nowhere X p = refl

-- behind the last block there is none that has an owner
pub owner_past : (X : Image) (p : ℕ) → length X ≤ p → owner X p ≡ None
unfolding owner
owner_past X p past =
    let none : cell_at X p ≡ no_cell = get_or_past X p no_cell past in
    ap (λ (c : Cell). owner_by X p (tag_of c.tag)) none ∙ nowhere X p

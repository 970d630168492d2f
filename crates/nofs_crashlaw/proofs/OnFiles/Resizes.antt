-- A Resize: the files after it, the homes, and why its pointers may be cut off.
use Rattle.std.proofs.Common.{◌≡◌, ◌≢◌, ℕ, ◌+◌, ◌-◌, ◌*◌, ◌/◌, ◌%◌, ◌<◌, ◌≤◌, min, inl, inr, Bool, true, false, cond}
use Rattle.std.proofs.Common.{eqb, leb, leb-true, lt-ltb, ◌&&◌, ◌||◌}
use Rattle.std.proofs.Common.{not, ◌++◌, option_to_list, Option, Some, None, unwrap_or, refl, sym, ap, ◌∙◌, subst}
use Rattle.std.proofs.Common.{subst₂, arith, Contains, eqb-true, ne_eqb}
use Rattle.std.proofs.lemmas.Bool.{cases_lt, le-leb}
use Rattle.std.proofs.lemmas.List.Elements.{Contains-push}
use Rattle.nofs_inode.specs.declared.inode.FileKind.{FileKind}
use Rattle.nofs_ptrs.specs.Paths.{slot_limit, Path, InRecord, Under, path_of, is_pointer_slot, IsSlot}
use Rattle.nofs_model.specs.Geometry.{Image, inode}
use Rattle.nofs_disk.specs.Disk.{cell_at}
use Rattle.nofs_model.specs.Files.{file_from, files_in, agreed, node_in, NodeState, Absent, FileState, Files, is_folder}
use Rattle.nofs_model.specs.Slots.{value, value_in, find, IsAbove}
use Rattle.nofs_model.specs.declared.image.path.PathAnswer.{PathAnswer}
use Rattle.nofs_model.specs.declared.image.path.PathAnswer.TheVariants as answer
use Rattle.nofs_model.specs.declared.image.value.Value.{Value}
use Rattle.nofs_model.specs.declared.image.value.Value.TheVariants.{Hole, Bytes, Lost}
use Rattle.nofs_ptrs.specs.PathLaws.{path-direct, path-leaf, path-far, path_of-slot}
use Rattle.nofs_history.specs.Meta.{Meta, Gone, Is, is_bytes}
use Rattle.nofs_history.specs.Machine.{slots_in, is_at, meta_with, filled, after_meta, file_after, files_after}
use Rattle.nofs_history.specs.Machine.{value_of, size_of, resize_slot, resize_node, resize_given}
use Rattle.nofs_history.specs.History.{FilesMatch, SameFile}
use Rattle.nofs_history.specs.declared.machine.steps.Step.TheVariants as step
use Rattle.nofs_history.specs.Gives.{GivesNothing}
use Rattle.nofs_crashlaw.proofs.OnUntouched.Matches.{matched-file}
use Rattle.nofs_crashlaw.proofs.OnUntouched.Frames.{some-is}
use Rattle.nofs_crashlaw.proofs.OnUntouched.Agreement.{some-alike, file-in}
use Rattle.nofs_crashlaw.proofs.OnFiles.Given.{at-itself, value-of, size-of}
use Rattle.nofs_crashlaw.proofs.OnFiles.CutSlots.{both}
use Rattle.nofs_crashlaw.specs.Maps.Moves.{HeldMove}
use Rattle.nofs_crashlaw.proofs.OnMaps.Homes.{uses-inode}
use Rattle.nofs_crashlaw.proofs.OnMaps.Moves.{law-move, law-shrink}
use Rattle.nofs_crashlaw.specs.Files.Resizes.{first_slot_below, is_cut, cut_at, ResizeLies, LawResizeFiles}
use Rattle.nofs_crashlaw.specs.Files.Resizes.{LawResizeHomes, LawResizeHoles}
use Rattle.nofs_crashlaw.proofs.OnFiles.OneFile.{OwnFile, touched-file, GivesFile, files, one-file}

-- The cut

or-left : (a b : Bool) → a ≡ true → (a || b) ≡ true
or-left true b e = refl
or-left false b e = cc e

cut-below : (m : ℕ) (b : Path) (n : ℕ) → is_cut m b ≡ true → is_cut m (Under b n) ≡ true
cut-below m b n e = or-left (is_cut m b) (leb m (first_slot_below (Under b n))) e

pub cut-under : (m : ℕ) (a p : Path) → IsAbove a p → is_cut m a ≡ true → is_cut m p ≡ true
cut-under m a (InRecord n) e h = subst (λ (q : Path). is_cut m q ≡ true) e h
cut-under m a (Under b n) (inl e) h = subst (λ (q : Path). is_cut m q ≡ true) e h
cut-under m a (Under b n) (inr r) h = cut-below m b n (cut-under m a b r h)

leb-or : (m a b : ℕ) → a ≤ b → (leb m a || leb m b) ≡ leb m b
leb-or m a b le = go (leb m a) refl
  where
    go : (t : Bool) → leb m a ≡ t → (leb m a || leb m b) ≡ leb m b
    go true e = let l = leb-true m a e in let r : leb m b ≡ true = le-leb m b (omega (arith, l, le)) in rw (e, r) refl
    go false e = rw e refl

-- a slot of content is cut exactly where it lies behind the cut
pub cut-slot : (m k : ℕ) → k < slot_limit → is_cut m (path_of k) ≡ leb m k
cut-slot m k lt = elim (cases_lt k 8) [
  | inl low ↦ ap (λ (p : Path). is_cut m p) (path-direct k low) ∙ ap (λ (n : ℕ). leb m n) (direct k low)
  | inr high ↦ elim (cases_lt k 72) [
    | inl mid ↦ ap (λ (p : Path). is_cut m p) (path-leaf k high mid) ∙ leb-or m 8 (8 + (k - 8)) (omega arith)
        ∙ ap (λ (n : ℕ). leb m n) (omega (arith, high))
    | inr far ↦
        let j = (k - 72) / 64 in
        let q = (k - 72) % 64 in
        let at : 72 + 64 * ((k - 72) / 64) + (k - 72) % 64 ≡ k = omega (arith, far) in
        ap (λ (p : Path). is_cut m p) (path-far k far lt)
        ∙ ap (λ (t : Bool). t || leb m (72 + 64 * ((k - 72) / 64) + (k - 72) % 64))
        (leb-or m 72 (72 + 64 * ((k - 72) / 64)) (omega arith))
        ∙ leb-or m (72 + 64 * ((k - 72) / 64)) (72 + 64 * ((k - 72) / 64) + (k - 72) % 64) (omega arith)
        ∙ ap (λ (n : ℕ). leb m n) at
  ]
]
  where
    direct : (k : ℕ) → k < 8 → first_slot_below (InRecord k) ≡ k
    direct k low = let a = ne_eqb k 8 (λ e. omega (arith, e, low)) in
        let b = ne_eqb k 9 (λ e. omega (arith, e, low)) in rw (a, b) refl

-- a block of pointers goes exactly where it is cut
cut-node : (m : ℕ) (p : Path) → IsSlot p
    → is_pointer_slot p ≡ true → resize_node m p ≡ cond (is_cut m p) (Some Absent) None
cut-node m (InRecord n) slot points = elim (cases_lt n 9) [
  | inl lt ↦ (let e : n ≡ 8 = omega (arith, leb-true 8 n points, lt) in subst
      (λ (q : ℕ). resize_node m (InRecord q) ≡ cond (is_cut m (InRecord q)) (Some Absent) None) (sym e) refl)
  | inr le ↦ (let e : n ≡ 9 = omega (arith, le, slot) in
      subst (λ (q : ℕ). resize_node m (InRecord q) ≡ cond (is_cut m (InRecord q)) (Some Absent) None)
      (sym e) refl)
]
cut-node m (Under (InRecord n) j) slot points =
    let e : n ≡ 9 = eqb-true n 9 points in
    subst (λ (q : ℕ). resize_node m (Under (InRecord q) j) ≡ cond (is_cut m (Under (InRecord q) j)) (Some Absent) None)
    (sym e)
    (ap (λ (t : Bool). cond t (Some Absent) None) (sym (leb-or m 72 (72 + 64 * j) (omega arith))))
cut-node m (Under (Under a j) q) slot points = cc points

-- What is given

module _ (F : Files) (i g size : ℕ) (f : FileState) (is : F i ≡ Some f) (gen : f.generation ≡ g)
    (file : is_folder f.kind ≡ false) where
  abbrev pub resize-made : FileState
  resize-made = record {
    generation = f.generation;
    kind = f.kind;
    size = size;
    links =
        f.links;
    values = (filled (resize_given F i g size) i f).values;
    nodes = (filled (resize_given F i g size) i f).nodes;
  }

  pub meta-here : (resize_given F i g size).metas i f.generation ≡ Some (Is f.kind size f.links)
  meta-here = subst (λ (q : ℕ). (resize_given F i g size).metas i q ≡ Some (Is f.kind size f.links)) (sym gen)
      (rw (at-itself i g)
      (ap (λ (o : Option FileState). Some (elim o [ None ↦ Gone | Some h ↦ Is h.kind size h.links ])) is))

  pub resize-new : files_after F (resize_given F i g size) i ≡ Some resize-made
  resize-new = ap (λ (o : Option FileState). file_after (resize_given F i g size) i o) is
      ∙ ap (λ (o : Option Meta). after_meta o (filled (resize_given F i g size) i f)) meta-here

  pub resize-gives : GivesFile F (resize_given F i g size) i f resize-made
  resize-gives = record {
    is = is;
    file = file;
    elsewhere = elsewhere;
    new = resize-new;
    generation = refl;
    kind = refl;
    links = refl;
  }
    where
      elsewhere : (j : ℕ) → j ≢ i → GivesNothing (resize_given F i g size) j
      elsewhere j ne =
          let e : eqb i j ≡ false = ne_eqb i j (λ q. ne (sym q)) in
          record {
            born = refl;
            slots = λ h l. ap (λ (b : Bool). cond (b && eqb g h) (resize_slot F i size l) None) e;
            nodes = λ h path. ap (λ (b : Bool). cond (b && eqb g h)
                (resize_node (min (slots_in (size_of F i)) (slots_in size)) path) None) e;
            metas = λ h.
                ap (λ (b : Bool). cond (b && eqb g h) (Some (meta_with F i (λ q. Is q.kind size q.links))) None) e;
          }

  at-here : is_at i g i f.generation ≡ true
  at-here = subst (λ (q : ℕ). is_at i g i q ≡ true) (sym gen) (at-itself i g)

  cut-is : min (slots_in (size_of F i)) (slots_in size) ≡ cut_at f size
  cut-is = ap (λ (n : ℕ). min (slots_in n) (slots_in size)) (size-of F i f is)

  and-false : (x y z : Bool) → (x && (y && (z && false))) ≡ false
  and-false true true true = refl
  and-false true true false = refl
  and-false true false z = refl
  and-false false y z = refl

  -- behind the cut a hole is given
  slot-cut : (k : ℕ) → k < slot_limit → leb (cut_at f size) k ≡ true → resize_slot F i size k ≡ Some Hole
  slot-cut k lt e =
      let t : leb (min (slots_in (size_of F i)) (slots_in size)) k ≡ true = ap (λ (n : ℕ). leb n k) cut-is ∙ e in
      rw (t, lt-ltb k slot_limit lt) refl

  -- before it, nothing to a slot that isn't bytes
  slot-kept : (k : ℕ) → leb (cut_at f size) k ≡ false → is_bytes (f.values k) ≡ false → resize_slot F i size k ≡ None
  slot-kept k e b =
      let t : leb (min (slots_in (size_of F i)) (slots_in size)) k ≡ false = ap (λ (n : ℕ). leb n k) cut-is ∙ e in
      let v : is_bytes (value_of F i k) ≡ false = ap is_bytes (value-of F i f is k) ∙ b in
      rw (t, v) (rw (and-false (leb (size_of F i) size) (eqb (k + 1) (min (slots_in (size_of F i)) (slots_in size)))
      (not (eqb (size_of F i % 1024) 0))) refl)

-- The files

module _ (F : Files) (X Y : Image) (i g size : ℕ) (f : FileState) (s : ℕ) (p : ResizeLies F X Y i g size f s) where
  its : OwnFile F X Y i s
  its = touched-file F X Y i s f p.files p.is p.touches p.names

  open its use {own, changes, same}

  pub found : (a : Path) → IsSlot a
      → (is_cut (cut_at f size) a ≡ true → find Y i a ≡ answer.Hole) × (is_cut (cut_at f size) a ≡ false
      → find Y i a ≡ find X i a)
  found = both s X Y i changes own.agreed same (p.old i (some-is (F i) f p.is)) (λ a. is_cut (cut_at f size) a)
      (cut-below (cut_at f size))
      p.record_cut p.record_stays p.cell_cut p.cell_stays p.whole

  new-value : (k : ℕ) → k < slot_limit → (filled (resize_given F i g size) i f).values k ≡ value Y i k
  new-value k lt = unfold-it ∙ go (leb (cut_at f size) k) refl
    where
      unfold-it : (filled (resize_given F i g size) i f).values k ≡ unwrap_or (resize_slot F i size k) (f.values k)
      unfold-it = ap (λ (b : Bool). unwrap_or (cond b (resize_slot F i size k) None) (f.values k))
          (at-here F i g size f p.is p.generation p.file)

      before : f.values k ≡ value X i k
      before = (file-in F X i f p.files p.is).1.values k lt

      stays : leb (cut_at f size) k ≡ false → (q : PathAnswer) → find X i (path_of k) ≡ q → find Y i (path_of k) ≡ q
          → unwrap_or (resize_slot F i size k) (f.values k) ≡ value Y i k
      stays e answer.Hole ex ey =
          let v : f.values k ≡ Hole = before ∙ ap (λ (q : PathAnswer). value_in X q) ex in
          ap (λ (o : Option Value). unwrap_or o (f.values k))
          (slot-kept F i g size f p.is p.generation p.file k e (ap is_bytes v)) ∙ v
          ∙ sym (ap (λ (q : PathAnswer). value_in Y q) ey)
      stays e answer.Lost ex ey =
          let v : f.values k ≡ Lost = before ∙ ap (λ (q : PathAnswer). value_in X q) ex in
          ap (λ (o : Option Value). unwrap_or o (f.values k))
          (slot-kept F i g size f p.is p.generation p.file k e (ap is_bytes v)) ∙ v
          ∙ sym (ap (λ (q : PathAnswer). value_in Y q) ey)
      stays e (answer.Holds y) ex ey =
          let v : f.values k ≡ Bytes (cell_at X y.block).payload = before ∙ ap (λ (q : PathAnswer). value_in X q) ex in
          let low : k < cut_at f size =
          elim (cases_lt k (cut_at f size)) [ inl l ↦ l | inr l ↦ (let t = le-leb (cut_at f size) k l in cc (t, e)) ] in
          ap (λ (w : Value). unwrap_or (resize_slot F i size k) w) v ∙ sym (p.content k y lt low ex)
          ∙ sym (ap (λ (q : PathAnswer). value_in Y q) ey)

      go : (t : Bool) → leb (cut_at f size) k ≡ t → unwrap_or (resize_slot F i size k) (f.values k) ≡ value Y i k
      go true e =
          let y : find Y i (path_of k) ≡ answer.Hole =
          (found (path_of k) (path_of-slot k lt)).0 (cut-slot (cut_at f size) k lt ∙ e) in
          ap (λ (o : Option Value). unwrap_or o (f.values k)) (slot-cut F i g size f p.is p.generation p.file k lt e)
          ∙ sym (ap (λ (q : PathAnswer). value_in Y q) y)
      go false e =
          let y : find Y i (path_of k) ≡ find X i (path_of k) =
          (found (path_of k) (path_of-slot k lt)).1 (cut-slot (cut_at f size) k lt ∙ e) in
          stays e (find X i (path_of k)) refl y

  new-node : (a : Path) → IsSlot a
      → is_pointer_slot a ≡ true → (filled (resize_given F i g size) i f).nodes a ≡ node_in (find Y i a)
  new-node a slot points = unfold-it ∙ go (is_cut (cut_at f size) a) refl
    where
      unfold-it : (filled (resize_given F i g size) i f).nodes a
          ≡ unwrap_or (cond (is_cut (cut_at f size) a) (Some Absent) None) (f.nodes a)
      unfold-it =
          ap (λ (b : Bool).
          unwrap_or (cond b (resize_node (min (slots_in (size_of F i)) (slots_in size)) a) None) (f.nodes a))
          (at-here F i g size f p.is p.generation p.file)
          ∙ ap (λ (n : ℕ). unwrap_or (resize_node n a) (f.nodes a)) (cut-is F i g size f p.is p.generation p.file)
          ∙ ap (λ (o : Option NodeState). unwrap_or o (f.nodes a)) (cut-node (cut_at f size) a slot points)

      go : (t : Bool) → is_cut (cut_at f size) a ≡ t
          → unwrap_or (cond (is_cut (cut_at f size) a) (Some Absent) None) (f.nodes a) ≡ node_in (find Y i a)
      go true e = rw e (sym (ap node_in ((found a slot).0 e)))
      go false e = rw e ((file-in F X i f p.files p.is).1.nodes a slot points ∙ sym (ap node_in ((found a slot).1 e)))

  own-file : SameFile (files_after F (resize_given F i g size) i) (files_in Y i)
  own-file =
      let x = file-in F X i f p.files p.is in
      let ky : (inode Y i).kind ≡ Some f.kind = p.names.kind ∙ x.0 in
      subst₂ (λ (o : Option FileState) (q : Option FileKind). SameFile o (file_from Y i q))
      (sym (resize-new F i g size f p.is p.generation p.file)) (sym ky)
      (record {
        generation = x.1.generation ∙ sym p.names.generation;
        kind = refl;
        size = sym p.size_is;
        links = x.1.links ∙ sym p.names.links;
        values = new-value;
        nodes = new-node;
      })

  pub resize-file : FilesMatch (files_after F (resize_given F i g size)) Y
  resize-file =
      one-file F (resize_given F i g size) X Y i s f (resize-made F i g size f p.is p.generation p.file) p.files
      (resize-gives F i g size f p.is p.generation p.file) p.touches p.names p.old own-file

  -- what is agreed after it was agreed before
  pub as-before : (j : ℕ) → agreed (files_in Y) j ≡ agreed (files_in X) j
  as-before j =
      sym (uses-inode (files_after F (resize_given F i g size)) Y resize-file j)
      ∙ sym (some-alike (F j) (files_after F (resize_given F i g size) j)
      (files F (resize_given F i g size) X Y i s f (resize-made F i g size f p.is p.generation p.file) p.files
      (resize-gives F i g size f p.is p.generation p.file) p.touches p.names p.old own-file j))
      ∙ uses-inode F X p.files j

pub law-resize-files : LawResizeFiles
law-resize-files F X Y i g size f s p = resize-file F X Y i g size f s p

pub law-resize-homes : LawResizeHomes
law-resize-homes W X Y i g size f s c p claim =
    law-move W (step.Resize i g size) c s (λ j. eqb j i) X Y claim p.touches
    (λ j a. p.old j (uses-inode W.files X p.files j ∙ a))
    (λ home e. cc e)
    (λ j t a. sym (as-before W.files X Y i g size f s p j) ∙ a)
    (λ j t. subst (λ (q : ℕ). HeldMove c X Y q) (sym (eqb-true j i t))
    (law-shrink c X Y i (λ a. is_cut (cut_at f size) a) there (found W.files X Y i g size f s p)))
  where
    there : agreed (files_in X) i ≡ true
    there = (matched-file W.files X i p.files (some-is (W.files i) f p.is)).agreed

pub law-resize-holes : LawResizeHoles
law-resize-holes m F i g size f a is slot cut k lt above =
    let behind : leb (cut_at f size) k ≡ true = sym (cut-slot (cut_at f size) k lt)
    ∙ cut-under (cut_at f size) a (path_of k) above cut in
    let given : (resize_given F i g size).slots i g k ≡ Some Hole =
    ap (λ (b : Bool). cond b (resize_slot F i size k) None) (at-itself i g) ∙ cut-hole behind in
    subst (λ (o : Option Value). Contains (m.since i g k ++ option_to_list o) Hole) (sym given)
    (Contains-push (m.since i g k) Hole)
  where
    cut-hole : leb (cut_at f size) k ≡ true → resize_slot F i size k ≡ Some Hole
    cut-hole e =
        let t : leb (min (slots_in (size_of F i)) (slots_in size)) k ≡ true =
        ap (λ (n : ℕ). leb (min (slots_in n) (slots_in size)) k) (size-of F i f is) ∙ e in
        rw (t, lt-ltb k slot_limit lt) refl

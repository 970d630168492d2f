-- A new entry in a hole: the directory's slots after it, and where the claimed blocks stand.
use Rattle.std.proofs.Common.{◌≡◌, ◌≢◌, ℕ, ◌+◌, ◌-◌, ◌<◌, ◌≤◌, ◌⊎◌, inl, inr, false, true, eqb, ◌||◌, Some, refl, sym}
use Rattle.std.proofs.Common.{ap, ◌∙◌, subst, arith, ne_eqb}
use Rattle.nofs_disk.specs.declared.tag.Pointer.{Pointer}
use Rattle.nofs_inode.specs.declared.inode.Record.{Record}
use Rattle.nofs_model.specs.Geometry.{Image, is_data_block, inode}
use Rattle.nofs_model.specs.Files.{files_in, agreed, FileState, Files, node_in, NodeState, Absent, Present, Damaged}
use Rattle.nofs_ptrs.specs.Paths.{Path, InRecord, Under, leaf, path_of, IsSlot}
use Rattle.nofs_model.specs.Slots.{find, IsAbove}
use Rattle.nofs_model.specs.Owners.{home_at}
use Rattle.nofs_model.specs.declared.image.path.PathAnswer.{PathAnswer}
use Rattle.nofs_model.specs.declared.image.path.PathAnswer.TheVariants as answer
use Rattle.nofs_ptrs.specs.PathLaws.{path-direct, path-leaf}
use Rattle.nofs_model.proofs.OnSlots.Paths.{above-refl}
use Rattle.nofs_history.specs.History.{FilesMatch}
use Rattle.nofs_history.specs.World.{absent_above, blocks_for}
use Rattle.nofs_history.specs.Claims.{is_claimed, slot_above}
use Rattle.nofs_history.specs.declared.machine.history.Claims.{Claims}
use Rattle.nofs_crashlaw.specs.Untouched.Frames.{OldPointers, Rewrites, SameIdentity, SameMeta}
use Rattle.nofs_crashlaw.specs.Files.Growth.{Grows}
use Rattle.nofs_crashlaw.proofs.OnUntouched.Matches.{Matched, matched-file}
use Rattle.nofs_crashlaw.proofs.OnUntouched.Frames.{some-is}
use Rattle.nofs_crashlaw.proofs.OnUntouched.Inodes.{rewrites}
use Rattle.nofs_crashlaw.proofs.OnFiles.Growth.{on-path, off-path}
use Rattle.nofs_crashlaw.proofs.OnFiles.Given.{data-positive}
use Rattle.nofs_crashlaw.specs.Maps.Moves.{IsClaimed, ClaimsStand, HeldMove}
use Rattle.nofs_crashlaw.proofs.OnMaps.Moves.{law-grow}
use Rattle.nofs_crashlaw.specs.Names.OldEntries.{NameWrites}
use Rattle.nofs_crashlaw.proofs.OnNames.Files.{touches-of}
use Rattle.nofs_crashlaw.specs.Names.NewEntries.{HoleInRecord, HoleUnderLeaf, HoleWithLeaf, HoleClaimed, Direct}
use Rattle.nofs_crashlaw.specs.Names.NewEntries.{UnderLeaf, WithLeaf}
use Rattle.nofs_crashlaw.proofs.OnNames.HoleCells.{leaf_places, record-hole-writes, record-hole-grows}
use Rattle.nofs_crashlaw.proofs.OnNames.HoleCells.{leaf-hole-grows, claimed-hole-grows}
use Rattle.nofs_crashlaw.proofs.OnNames.HoleWrites.{leaf-hole-writes, claimed-hole-writes}
use Rattle.nofs_crashlaw.proofs.OnNames.Holes.{hole-cell}
use Rattle.nofs_crashlaw.proofs.OnHomes.Slots.{Counted, needed-hole, node-here}

is-claimed : (X : Image) (x : Pointer) → is_data_block X x.block ≡ true → is_claimed x ≡ true
is-claimed X x area = let p = data-positive X x.block area in
    let z = ne_eqb x.block 0 (λ e. omega (arith, e, p)) in rw z refl

-- the blocks that an absent block of pointers asks for
abbrev absent : NodeState → ℕ
absent t = elim t [ Absent ↦ 1 | Present ↦ 0 | Damaged ↦ 0 ]

-- the directory's slots move, and what is claimed for slot k stands
pub record Stands (c : Claims) (X Y : Image) (d k : ℕ) : Type 0 where
  pub moved : HeldMove c X Y d
  pub stand : agreed (files_in Y) d ≡ true → ClaimsStand c Y (home_at d k)

module _ (s : ℕ) (F : Files) (c : Claims) (X Y : Image) (d i k : ℕ) (f : FileState) (x y : Pointer)
    (match : FilesMatch F X) (is : F d ≡ Some f) (apart : i ≢ d) (range : k < 72) (old : OldPointers s X d)
    (empty : find X d (path_of k) ≡ answer.Hole)
    (count : Counted c (blocks_for F d k)) (cell : c.cell ≡ x) (above : is_claimed c.leaf ≡ true → c.leaf ≡ y) where
  own : Matched F X d
  own = matched-file F X d match (some-is (F d) f is)

  -- what is needed is what is claimed
  count-is : (n : ℕ) → absent_above F d (path_of k) ≡ n → Counted c (1 + n)
  count-is n e =
      subst (Counted c) (needed-hole F X d k f match is (omega (arith, range)) empty ∙ ap (λ (q : ℕ). 1 + q) e) count

  -- a slot above the entry's, that held, or held nothing and is claimed
  abbrev Was : Path → Pointer → Type 0
  Was a z = (find X d a ≡ answer.Holds z) ⊎ (IsClaimed c z × ((w : Pointer) → find X d a ≡ answer.Holds w → ⊥))

  was-cell : is_data_block X x.block ≡ true → (p : Path) → path_of k ≡ p → Was p x
  was-cell area p e = inr (
    (is-claimed X x area, inl cell),
    λ w h. let n : find X d p ≡ answer.Hole =
        subst (λ (q : Path). find X d q ≡ answer.Hole) e empty in cc (n, h),
  )

  -- where the path p of slot k grows
  module _ (p : Path) (at : Path → Pointer) (slot : path_of k ≡ p) (w : NameWrites s d i X Y) (meta : SameMeta X Y d)
      (r : Grows s X Y d p at) where
    changes : Rewrites s X Y
    changes = rewrites s (λ j. eqb j d || eqb j i) X Y (touches-of s d i X Y w)

    same : SameIdentity X Y d
    same = record { live = own.live; kind = meta.kind; generation = meta.generation }

    on : (a : Path) → IsAbove a p → find Y d a ≡ answer.Holds (at a)
    on = on-path s X Y d changes own.agreed same old p at r.placed r.not_null r.area r.tag r.record_stays
        r.beside r.apart

    off : (a : Path) → IsSlot a → (IsAbove a p → ⊥) → find Y d a ≡ find X d a
    off = off-path s X Y d changes own.agreed same old p at r.placed r.not_null r.area r.tag r.record_stays
        r.beside r.apart

    -- the cell stands in the slot of p, and the leaf above it
    grown-stands : at p ≡ x → (is_claimed c.leaf ≡ true → IsAbove (slot_above p) p × (at (slot_above p) ≡ y))
        → is_claimed c.top ≡ false
        → ((a : Path) → IsAbove a p → Was a (at a)) → Stands c X Y d k
    grown-stands here up none was = record {
      moved = law-grow c X Y d p at own.agreed on off was;
      stand = λ there. record {
        agreed = there;
        range = omega (arith, range);
        cell = λ e. subst (λ (q : Path). find Y d q ≡ answer.Holds c.cell) (sym slot)
            (on p (above-refl p) ∙ ap answer.Holds (here ∙ sym cell));
        leaf = λ e. subst (λ (q : Path). find Y d (slot_above q) ≡ answer.Holds c.leaf) (sym slot)
            (on (slot_above p) (up e).0 ∙ ap answer.Holds ((up e).1 ∙ sym (above e)));
        top = λ e. absurd (cc (e, none));
      };
    }

  no-leaf : is_claimed c.leaf ≡ false → is_claimed c.leaf ≡ true → ⊥
  no-leaf none e = cc (none, e)

  direct : k < 8 → HoleInRecord s X Y d i k x → Stands c X Y d k
  direct lt h =
      let n = count-is 0 (ap (λ (p : Path). absent_above F d p) (path-direct k lt)) in
      grown-stands (InRecord k) (λ a. x) (path-direct k lt) (record-hole-writes s X Y d i k x h) h.meta
      (record-hole-grows s X Y d i k x lt own.agreed h)
      refl (λ e. absurd (no-leaf n.1 e)) n.2
      (λ a e. subst (λ (q : Path). Was q x) (sym e) (was-cell h.cell.area (InRecord k) (path-direct k lt)))

  -- the leaf's node is what is found there
  leaf-count : (q : PathAnswer) → find X d leaf ≡ q → 8 ≤ k → absent_above F d (path_of k) ≡ 0 + absent (node_in q)
  leaf-count q e le = ap (λ (p : Path). absent_above F d p) (path-leaf k le range)
      ∙ ap (λ (t : NodeState). 0 + absent t) (node-here F X d f leaf q match is (omega arith) refl e)

  under-leaf : 8 ≤ k → HoleUnderLeaf s X Y d i (k - 8) x y → Stands c X Y d k
  under-leaf le h =
      let n = count-is 0 (leaf-count (answer.Holds y) h.held le) in
      let same : inode Y d ≡ inode X d = h.records d (λ t. apart (sym t)) in
      grown-stands (Under leaf (k - 8)) (leaf_places y x) (path-leaf k le range)
      (leaf-hole-writes s X Y d i (k - 8) x y h)
      (record {
        kind = ap (λ (r : Record). r.kind) same;
        generation = ap (λ (r : Record). r.generation) same;
        size =
            ap (λ (r : Record). r.size) same;
        links = ap (λ (r : Record). r.links) same;
      })
      (leaf-hole-grows s X Y d i (k - 8) x y apart own.agreed h)
      refl (λ e. absurd (no-leaf n.1 e)) n.2
      (λ a above. elim above [
        | inl e ↦ subst (λ (q : Path). Was q (leaf_places y x q)) (sym e)
            (was-cell h.cell.area (Under leaf (k - 8)) (path-leaf k le range))
        | inr e ↦ subst (λ (q : Path). Was q (leaf_places y x q)) (sym e) (inl h.held)
      ])

  -- the blocks that the entry got are claimed
  pub cell-claimed : HoleClaimed s X Y d i k x y → IsClaimed c x
  cell-claimed h = (is-claimed X x (hole-cell s X Y d i k x y h).area, inl cell)

  pub leaf-claimed : 8 ≤ k → HoleWithLeaf s X Y d i (k - 8) x y → IsClaimed c y
  leaf-claimed le h = let n = count-is 1 (leaf-count answer.Hole h.empty le) in
      (is-claimed X y h.above.area, inr (inl (above n.1)))

  with-leaf : 8 ≤ k → HoleWithLeaf s X Y d i (k - 8) x y → Stands c X Y d k
  with-leaf le h =
      let n = count-is 1 (leaf-count answer.Hole h.empty le) in
      grown-stands (Under leaf (k - 8)) (leaf_places y x) (path-leaf k le range)
      (claimed-hole-writes s X Y d i (k - 8) x y h) h.meta
      (claimed-hole-grows s X Y d i (k - 8) x y own.agreed h)
      refl (λ e. (inr refl, refl)) n.2
      (λ a up. elim up [
        | inl e ↦ subst (λ (q : Path). Was q (leaf_places y x q)) (sym e)
            (was-cell h.cell.area (Under leaf (k - 8)) (path-leaf k le range))
        | inr e ↦ subst (λ (q : Path). Was q (leaf_places y x q)) (sym e)
            (inr (leaf-claimed le h, λ w held. let z = h.empty in cc (z, held)))
      ])

  pub hole-stands : HoleClaimed s X Y d i k x y → Stands c X Y d k
  hole-stands (Direct lt h) = direct lt h
  hole-stands (UnderLeaf le lt h) = under-leaf le h
  hole-stands (WithLeaf le lt h) = with-leaf le h

-- How many cells a Resize writes: as many as the machine's files say.
use Rattle.std.proofs.Common.{◌≡◌, ◌≢◌, ℕ, ◌+◌, ◌-◌, ◌*◌, ◌/◌, ◌%◌, inl, inr, true, cond, eqb}
use Rattle.std.proofs.Common.{leb}
use Rattle.std.proofs.Common.{eq-eqb, ne_eqb, ◌&&◌, not, List, [], ◌∷◌, length, Option, Some, None, refl, sym}
use Rattle.std.proofs.Common.{ap, ◌∙◌, arith}
use Rattle.std.proofs.lemmas.Bool.{cases_eq, cases_lt, le-leb}
use Rattle.nofs_ptrs.specs.Paths.{Path, InRecord, Under, path_of, IsSlot, is_pointer_slot}
use Rattle.nofs_disk.specs.declared.tag.Cell.{Cell}
use Rattle.nofs_model.specs.Geometry.{Image}
use Rattle.nofs_model.specs.Slots.{find, value, value_in}
use Rattle.nofs_model.specs.Files.{node_in, Files}
use Rattle.nofs_model.specs.declared.image.path.PathAnswer.{PathAnswer}
use Rattle.nofs_model.specs.declared.image.path.PathAnswer.TheVariants as answer
use Rattle.nofs_model.specs.declared.image.value.Value.{Value}
use Rattle.nofs_history.specs.Meta.{is_bytes}
use Rattle.nofs_history.specs.Machine.{node_of, size_of, value_of}
use Rattle.nofs_history.specs.Claims.{is_present, no_claims}
use Rattle.nofs_history.specs.Writes.{cells_written}
use Rattle.nofs_history.specs.declared.machine.steps.Step.TheVariants as step
use Rattle.nofs_crashlaw.proofs.OnFiles.Given.{size-of, value-of}
use Rattle.nofs_state.proofs.OnWrites.Tables.{table_block}
use Rattle.nofs_files.specs.Resizes.{IsCutBlock, IsTailOf, cut_writes, kept_slots, last_child, maybe}
use Rattle.nofs_files.specs.declared.resizes.cuts.NewCell.{NewCell}
use Rattle.nofs_files.specs.declared.resizes.cuts.Edge.{Edge}
use Rattle.nofs_files.proofs.OnResizes.Slots.{child-low, lt-leb}
use Rattle.nofs_files.proofs.OnResizes.Writes.{most, tail-low}
use Rattle.nofs_files.proofs.OnResizes.Image.{Resizing, old-size, own, same}

-- a cell that may come counts 1 where it does
abbrev cells_of : Option NewCell → ℕ
cells_of None = 0
cells_of (Some it) = 1

maybe-more : (o : Option NewCell) (ws : List (ℕ × Cell)) → length (maybe o ws) ≡ cells_of o + length ws
maybe-more None ws = omega arith
maybe-more (Some it) ws = omega arith

cut-length : (tail : Option NewCell) (edge : Edge) (t : ℕ) (c2 : Cell)
    → length (cut_writes tail edge t c2) ≡ 1 + cells_of tail + (cells_of edge.below + cells_of edge.above)
cut-length tail edge t c2 =
    let a = maybe-more tail (maybe edge.below (maybe edge.above ((t, c2) ∷ []))) in
    let b = maybe-more edge.below (maybe edge.above ((t, c2) ∷ [])) in
    let c = maybe-more edge.above ((t, c2) ∷ []) in
    omega (arith, a, b, c)

-- a block of pointers comes where it is there
block-counts : (X : Image) (q : PathAnswer) (from : ℕ) (o : Option NewCell) → IsCutBlock X q from o
    → cells_of o ≡ cond (is_present (node_in q)) 1 0
block-counts X answer.Hole from o none = ap cells_of none
block-counts X answer.Lost from o none = absurd none
block-counts X (answer.Holds x) from o (it, some, block, cell) = ap cells_of some

-- the end of the content where there is one
tail-counts : (X : Image) (q : PathAnswer) (from : ℕ) (o : Option NewCell) → IsTailOf X q from o
    → cells_of o ≡ cond (is_bytes (value_in X q)) 1 0
tail-counts X answer.Hole from o none = ap cells_of none
tail-counts X answer.Lost from o none = ap cells_of none
tail-counts X (answer.Holds x) from o (it, some, block, tag, payload) = ap cells_of some

-- the same by numbers: what the files say of the tail, and of the edge
abbrev tail_by : ℕ → ℕ → Value → ℕ
tail_by old size v = cond (leb old size && (not (eqb (old % 1024) 0) && is_bytes v)) 1 0

abbrev edge_by : ℕ → ℕ → ℕ → ℕ → ℕ
edge_by m near below above = cond (leb m 8) 0 (cond (leb m 72) near (below + above))

module _ (resizing : Resizing) where
  open resizing use {old, p, i, g, size, r, tail, edge, c2, h}

  abbrev F : Files
  F = p.world.files

  abbrev X : Image
  X = old.now

  abbrev m : ℕ
  m = kept_slots r.size size

  file-size : size_of F i ≡ r.size
  file-size = let w = own resizing in
      size-of F i w.file w.is ∙ old-size resizing

  node-is : (a : Path) → IsSlot a → is_pointer_slot a ≡ true → node_of F i a ≡ node_in (find X i a)
  node-is a slot points =
      let w = own resizing in let e = w.is in
      rw (e, node_of) ((same resizing).1.nodes a slot points)

  value-is : r.size % 1024 ≢ 0 → value_of F i (r.size / 1024) ≡ value X i (r.size / 1024)
  value-is uneven =
      let w = own resizing in
      value-of F i w.file w.is (r.size / 1024)
      ∙ w.values (r.size / 1024) (tail-low X i g size r tail edge c2 h uneven)

  tail-by : cells_of tail ≡ tail_by r.size size (value_of F i (r.size / 1024))
  tail-by = elim (cases_lt size r.size) [
    | inl less ↦
        let t = lt-leb r.size size less in rw t (ap cells_of (h.tail_is.skips (inl less)))
    | inr grows ↦ elim (cases_eq (r.size % 1024) 0) [
      | inl even ↦
          let t = le-leb r.size size grows in let e = eq-eqb (r.size % 1024) 0 even in
          rw (t, e) (ap cells_of (h.tail_is.skips (inr even)))
      | inr uneven ↦
          let t = le-leb r.size size grows in let e = ne_eqb (r.size % 1024) 0 uneven in let v = value-is uneven in
          rw (t, e, v) (tail-counts X (find X i (path_of (r.size / 1024))) (r.size % 1024) tail
          (h.tail_is.ends grows uneven))
    ]
  ]

  node-counts : (a : Path) (from : ℕ) (w : Option NewCell) → IsSlot a → is_pointer_slot a ≡ true
      → IsCutBlock X (find X i a) from w → cells_of w ≡ cond (is_present (node_of F i a)) 1 0
  node-counts a from w slot points cut = block-counts X (find X i a) from w cut
      ∙ (λ j. cond (is_present (sym (node-is a slot points) j)) 1 0)

  child : IsSlot (Under (InRecord 9) (last_child m))
  child = (refl, child-low m (most X i g size r tail edge c2 h), omega arith)

  edge-by : cells_of edge.below + cells_of edge.above
      ≡ edge_by m (cond (is_present (node_of F i (InRecord 8))) 1 0)
      (cond (is_present (node_of F i (Under (InRecord 9) (last_child m)))) 1 0)
      (cond (is_present (node_of F i (InRecord 9))) 1 0)
  edge-by = elim (cases_lt 8 m) [
    | inr near ↦
        let t = le-leb m 8 near in let n = h.edge_is.near near in
        rw t (λ j. cells_of (n.0 j) + cells_of (n.1 j))
    | inl past ↦ elim (cases_lt 72 m) [
      | inr few ↦
          let t = lt-leb m 8 past in let u = le-leb m 72 few in let n = h.edge_is.leaf past few in
          let a = node-counts (InRecord 8) (m - 8) edge.below (omega arith) refl n.0 in
          let b : cells_of edge.above ≡ 0 = ap cells_of n.1 in
          rw (t, u) (omega (arith, a, b))
      | inl far ↦
          let t = lt-leb m 8 past in let u = lt-leb m 72 far in let n = h.edge_is.far far in
          rw (t, u) (λ j. node-counts (Under (InRecord 9) (last_child m)) (m - (72 + 64 * last_child m)) edge.below
          child refl n.child j
          + node-counts (InRecord 9) (last_child m + 1) edge.above (omega arith) refl n.top j)
    ]
  ]

  pub cut-exact : length (cut_writes tail edge (table_block i) c2) ≡ cells_written F (step.Resize i g size) no_claims
  cut-exact =
      (cut-length tail edge (table_block i) c2 ∙ (λ j. 1 + tail-by j + edge-by j))
      ∙ (λ j. 1 + tail_by (sym file-size j) size (value_of F i (sym file-size j / 1024))
      + edge_by (kept_slots (sym file-size j) size) (cond (is_present (node_of F i (InRecord 8))) 1 0)
      (cond (is_present (node_of F i (Under (InRecord 9) (last_child (kept_slots (sym file-size j) size))))) 1 0)
      (cond (is_present (node_of F i (InRecord 9))) 1 0))

-- A Put below a block of pointers that holds: one block is claimed, its pointer is written, and the record.
use Rattle.std.proofs.Common.{◌≡◌, ℕ, ◌+◌, ◌*◌, max, inl, inr, Bool, true, false, cond, List, [], ◌∷◌, length, Some}
use Rattle.std.proofs.Common.{IsTrue, Result, refl, sym, ap, ◌∙◌, subst, subst₂, arith}
use Rattle.nofs_disk.specs.Disk.{DiskState, IsDisk, StaysButFaults, cell_at}
use Rattle.nofs_disk.specs.declared.tag.Cell.{Cell}
use Rattle.nofs_disk.specs.declared.tag.Pointer.{Pointer}
use Rattle.nofs_inode.specs.declared.inode.Record.{Record}
use Rattle.nofs_ptrs.specs.Cells.{pointer_at}
use Rattle.nofs_disk.specs.Tag.{tag_of}
use Rattle.nofs_model.specs.Geometry.{Image}
use Rattle.nofs_ptrs.specs.Paths.{Path, InRecord, Under}
use Rattle.nofs_model.specs.Slots.{tag_for, find, pointer, IsAbove}
use Rattle.nofs_model.specs.declared.image.path.PathAnswer.TheVariants as answer
use Rattle.nofs_model.proofs.OnSlots.Paths.{above-refl}
use Rattle.nofs_history.specs.Machine.{same_path}
use Rattle.nofs_history.specs.declared.machine.history.Claims.{Claims}
use Rattle.nofs_history.specs.declared.machine.replies.Refusal.{Refusal}
use Rattle.nofs_crashlaw.proofs.OnFiles.Growth.{same_path-true, same_path-refl}
use Rattle.nofs_crashlaw.specs.Maps.Moves.{IsClaimed}
use Rattle.nofs_agree.proofs.OnChain.{told-on}
use Rattle.nofs_state.specs.Cores.Steps.{Goes}
use Rattle.nofs_state.specs.declared.books.maps.Books.{Books}
use Rattle.nofs_disk.specs.Order.{IsApart}
use Rattle.nofs_state.specs.Writes.Cells.{Stores}
use Rattle.nofs_state.proofs.OnWrites.Tables.{table_block}
use Rattle.nofs_files.proofs.OnPuts.Image.{Climbs}
use Rattle.nofs_crashlaw.proofs.OnFiles.PutHeld.{above-held}
use Rattle.nofs_files.proofs.OnPuts.Ways.{IsNew, way_writes, no-loop}
use Rattle.nofs_files.specs.Puts.{HasRoom, HeldAt, IsContent, IsRecordCell, IsUnder, put_answer, size_after, sized}
use Rattle.nofs_files.specs.Puts.{step_of_put}
use Rattle.nofs_files.specs.declared.puts.put.Put.{Put}
use Rattle.nofs_files.proofs.OnPuts.Contract.{asked-ends}
use Rattle.nofs_files.proofs.OnPuts.Cells.{ContentFacts, OtherPointer, content-facts, holds-nothing, new-tag}
use Rattle.nofs_files.proofs.OnPuts.Rooms.{IsAsked}
use Rattle.nofs_files.proofs.OnPuts.Books.{IsTaking, NamesOne, claimed-not-zero}

-- where the slots of the way have their blocks, and the cells that are written
abbrev pub below_at : Image → ℕ → Path → ℕ → Pointer → Pointer → Path → Pointer
below_at X i a n x y q = cond (same_path q (Under a n)) x (cond (same_path q a) y (pointer X i q))

abbrev pub below_cells : Path → ℕ → Cell → Cell → Path → Cell
below_cells a n c1 cu q = cond (same_path q (Under a n)) c1 cu

module _ {X : Image} {i g slot at : ℕ} {bytes : List ℕ} {r : Record} {a : Path} {n : ℕ} {y : Pointer} {c : Claims}
    {c1 cu c2 : Cell}
    (f : ContentFacts X i g slot at bytes r (sized r (max r.size (1024 * slot + at + length bytes)))
    (Under a n) c.cell c1 c2)
    (upper : find X i a ≡ answer.Holds y) (names : NamesOne c)
    (other : OtherPointer (cell_at X y.block) cu n c.cell) where
  abbrev pub places : Path → Pointer
  places q = below_at X i a n c.cell y q

  abbrev pub cells : Path → Cell
  cells q = below_cells a n c1 cu q

  last : same_path (Under a n) (Under a n) ≡ true
  last = same_path-refl (Under a n)

  not-last : (q : Path) → IsAbove q a → same_path q (Under a n) ≡ false
  not-last q u = go (same_path q (Under a n)) refl
    where
      go : (t : Bool) → same_path q (Under a n) ≡ t → same_path q (Under a n) ≡ false
      go true e = absurd (no-loop a n (subst (λ (w : Path). IsAbove w a) (same_path-true q (Under a n) e) u))
      go false e = e

  pub place-last : places (Under a n) ≡ c.cell
  place-last = rw last refl

  pub place-upper : places a ≡ y
  place-upper = let e = not-last a (above-refl a) in let s = same_path-refl a in rw (e, s) refl

  pub cell-last : cells (Under a n) ≡ c1
  cell-last = rw last refl

  pub cell-upper : cells a ≡ cu
  cell-upper = let e = not-last a (above-refl a) in rw e refl

  held : (q : Path) → IsAbove q a → find X i q ≡ answer.Holds (places q)
  held q u = go (same_path q a) refl
    where
      go : (t : Bool) → same_path q a ≡ t → find X i q ≡ answer.Holds (places q)
      go true e = let s = same_path-true q a e in
          subst (λ (w : Path). find X i w ≡ answer.Holds (places w)) (sym s) (upper ∙ ap answer.Holds (sym place-upper))
      go false e = above-held X i q a y u upper ∙ ap answer.Holds (sym (let z = not-last q u in rw (z, e) refl))

  -- of what is new, there is the last alone
  new-is : (q : Path) → IsNew 1 (Under a n) q → q ≡ Under a n
  new-is q (inl e) = e
  new-is q (inr none) = absurd none

  under-is : (q : Path) (j : ℕ) → Under q j ≡ Under a n → (q ≡ a) × (j ≡ n)
  under-is q j e = (cc e, cc e)

  not-new : (q : Path) (j : ℕ) → IsNew 1 (Under a n) (Under q j) → IsNew 1 (Under a n) q → ⊥
  not-new q j u v = let s = (under-is q j (new-is (Under q j) u)).0 in
      no-loop a n (subst (λ (w : Path). IsAbove w a) (sym s ∙ new-is q v) (above-refl a))

  pub below-climbs : Climbs X i g slot at bytes r (sized r (max r.size (1024 * slot + at + length bytes))) 1
      (Under a n) places cells
      c c2
  below-climbs = record {
    file = f.file;
    grew = record { kind = refl; generation = refl; links = refl; size = refl };
    old = λ q u. held q u;
    empty = λ q u z e. holds-nothing f z (subst (λ (w : Path). find X i w ≡ answer.Holds z) (new-is q u) e);
    hole = λ q j u v. absurd (not-new q j u v);
    claimed = λ q u. subst (λ (w : Path). IsClaimed c (places w)) (sym (new-is q u))
        (subst (λ (w : Pointer). IsClaimed c w) (sym place-last) (names.cell, inl refl));
    distinct = λ q w u v e. new-is q u ∙ sym (new-is w v);
    tag_new = λ q u. subst (λ (w : Path). tag_of (cells w).tag ≡ Some (tag_for X i w (places w).stamp))
        (sym (new-is q u))
        (ap (λ (d : Cell). tag_of d.tag) cell-last ∙ new-tag f
        ∙ ap Some (sym (ap (λ (w : Pointer). tag_for X i (Under a n) w.stamp) place-last)));
    tag_old = λ q u v. elim u [
      | inl e ↦ absurd (no-loop a n (subst (λ (w : Path). IsAbove w a) e v))
      | inr e ↦ subst (λ (w : Path). tag_of (cells w).tag ≡ tag_of (cell_at X (places w).block).tag) (sym e)
          (ap (λ (d : Cell). tag_of d.tag) cell-upper ∙ ap tag_of other.tag
          ∙ ap (λ (w : Pointer). tag_of (cell_at X w.block).tag) (sym place-upper))
    ];
    next = λ q j u. (let s = under-is q j (new-is (Under q j) u) in
        subst₂ (λ (w : Path) (z : ℕ). pointer_at (cells w).payload z ≡ places (Under w z)) (sym s.0) (sym s.1)
        (ap (λ (d : Cell). pointer_at d.payload n) cell-upper ∙ other.here ∙ sym place-last));
    beside_new = λ q j z u v ne lt. absurd (not-new q j u v);
    beside_old = λ q j z u v ne lt. (let s = under-is q j (new-is (Under q j) u) in
        subst (λ (w : Path). pointer_at (cells w).payload z ≡ pointer_at (cell_at X (places w).block).payload z)
        (sym s.0)
        (ap (λ (d : Cell). pointer_at d.payload z) cell-upper ∙ other.others z (λ e. ne (e ∙ sym s.1)) lt
        ∙ ap (λ (w : Pointer). pointer_at (cell_at X w.block).payload z) (sym place-upper)));
    content = ap (λ (d : Cell). d.payload) cell-last ∙ f.payload;
    pointer_new = λ q u. absurd (let e : InRecord q ≡ Under a n = new-is (InRecord q) u in cc e);
    pointers_old = λ q off. refl;
    cell = λ t. place-last;
    leaf = λ t. absurd (let e = names.leaf in cc (e, t));
    top = λ t. absurd (let e = names.top in cc (e, t));
  }

pub below-ends : {old mid new : DiskState} {k l' l : Books} {p : Put} {r : Record} {c : Claims} {a : Path} {n t : ℕ}
    {y : Pointer} {c1 cu0 cu c20 c2 : Cell}
    {result : Result (Unit {0}) Refusal} → IsAsked old k p r 1 → HasRoom k 1 → IsTaking old mid k l' p c 1 × NamesOne c
    → IsDisk mid → IsDisk new
    → StaysButFaults old mid → mid.faults ≡ old.faults → HeldAt old k p.inode a y → IsUnder p.slot a n
    → IsContent p r.size c.cell.stamp c1
    → (IsTrue old.tells → cu0 ≡ cell_at old.now y.block) → OtherPointer cu0 cu n c.cell
    → (IsTrue old.tells → c20 ≡ cell_at old.now (table_block p.inode))
    → IsRecordCell c20 p.inode (sized r (size_after p r.size)) c2 → t ≡ table_block p.inode
    → Stores mid l' new l ((c.cell.block, c1) ∷ (y.block, cu) ∷ (t, c2) ∷ []) result
    → Goes old k new l (step_of_put p) c (put_answer result)
below-ends {old} {mid} {new} {k} {l'} {l} {p} {r} {c} {a} {n} {t} {y} {c1} {cu0} {cu} {c20} {c2} {result}
    asked room taking
    is_mid is_new stays same held path content
    upper-read upper read table at-table stores =
    asked-ends (Under a n) (below_at old.now p.inode a n c.cell y)
    (below_cells a n c1 cu) asked room taking.0 is_mid is_new stays same path.path
    (subst (λ (ws : List (ℕ × Cell)). IsApart ws 0) (sym (same-writes (table_block p.inode))) (
      (λ e. claimed-not-zero c.cell names.cell (sym e)),
      ((λ e. let q = held.positive in omega (arith, e, q)), ((λ e. omega (arith, e)), tt)),
    ))
    (λ t agrees. below-climbs (content-facts asked path.path content read table t agrees) (held.held t) names
    (subst (λ (d : Cell). OtherPointer d cu n c.cell) (upper-read t) upper))
    at-table (subst (λ (ws : List (ℕ × Cell)). Stores mid l' new l ws result) (sym (same-writes t)) stores)
  where
    names : NamesOne c
    names = taking.1

    up-apart : same_path a (Under a n) ≡ false
    up-apart = go (same_path a (Under a n)) refl
      where
        go : (t : Bool) → same_path a (Under a n) ≡ t → same_path a (Under a n) ≡ false
        go true e =
            absurd (no-loop a n (subst (λ (w : Path). IsAbove w a) (same_path-true a (Under a n) e) (above-refl a)))
        go false e = e

    same-writes : (t : ℕ)
        → way_writes (below_at old.now p.inode a n c.cell y) (below_cells a n c1 cu) (t, c2) 1 (Under a n)
        ≡ (c.cell.block, c1) ∷ (y.block, cu) ∷ (t, c2) ∷ []
    same-writes t = let e = same_path-refl (Under a n) in let s = same_path-refl a in rw (e, up-apart, s) refl

-- a cell that was read later
pub later-cell : (old mid : DiskState) (c : Cell) (b : ℕ) → StaysButFaults old mid
    → (IsTrue mid.tells → c ≡ cell_at mid.now b) → IsTrue old.tells
    → c ≡ cell_at old.now b
later-cell old mid c b stays e t = e (told-on old mid stays t) ∙ ap (λ (X : Image). cell_at X b) stays.cells.now

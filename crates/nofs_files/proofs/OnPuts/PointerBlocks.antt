-- A Put that claims blocks of pointers too: a leaf, a child, or a child and the top.
use Rattle.std.proofs.Common.{◌≡◌, ◌≢◌, ℕ, ◌+◌, ◌*◌, ◌<◌, ◌⊎◌, max, inl, inr, true, false, eqb, ne_eqb, List, [], ◌∷◌}
use Rattle.std.proofs.Common.{length, Some, IsTrue, Result, refl, sym, ap, ◌∙◌, subst, arith}
use Rattle.nofs_disk.specs.Disk.{DiskState, IsDisk, StaysButFaults, cell_at}
use Rattle.nofs_disk.specs.declared.tag.Cell.{Cell}
use Rattle.nofs_disk.specs.declared.tag.Pointer.{Pointer}
use Rattle.nofs_inode.specs.declared.inode.Record.{Record}
use Rattle.nofs_disk.specs.Pointer.{is_null}
use Rattle.nofs_ptrs.specs.Cells.{pointer_at}
use Rattle.nofs_disk.specs.Tag.{tag_of}
use Rattle.nofs_model.specs.Geometry.{Image, inode}
use Rattle.nofs_ptrs.specs.Paths.{Path, InRecord, Under, is_pointer_slot}
use Rattle.nofs_model.specs.Slots.{find, record_pointer, tag_for}
use Rattle.nofs_model.specs.declared.image.path.PathAnswer.TheVariants as answer
use Rattle.nofs_history.specs.Claims.{is_claimed}
use Rattle.nofs_history.specs.declared.machine.history.Claims.{Claims}
use Rattle.nofs_history.specs.declared.machine.replies.Refusal.{Refusal}
use Rattle.nofs_crashlaw.specs.Maps.Moves.{IsClaimed}
use Rattle.nofs_state.specs.Cores.Steps.{Goes}
use Rattle.nofs_state.specs.declared.books.maps.Books.{Books}
use Rattle.nofs_state.specs.Writes.Cells.{Stores}
use Rattle.nofs_state.proofs.OnWrites.Tables.{table_block}
use Rattle.nofs_files.proofs.OnPuts.Image.{Climbs}
use Rattle.nofs_files.proofs.OnPuts.Ways.{IsNew, IsOld, each-new, each-next}
use Rattle.nofs_files.specs.Puts.{HasRoom, HeldAt, IsContent, IsFar, IsHole, IsRecordCell, IsUnder, OnePointer}
use Rattle.nofs_files.specs.Puts.{put_answer, rooted, size_after, sized, step_of_put}
use Rattle.nofs_files.specs.declared.puts.put.Put.{Put}
use Rattle.nofs_files.proofs.OnPuts.Contract.{asked-ends}
use Rattle.nofs_files.proofs.OnPuts.Cells.{ContentFacts, OtherPointer, content-facts, holds-nothing, new-tag}
use Rattle.nofs_files.proofs.OnPuts.Cells.{pointers-tag}
use Rattle.nofs_files.proofs.OnPuts.Rooms.{IsAsked}
use Rattle.nofs_files.proofs.OnPuts.Books.{IsTaking, NamesThree, NamesTwo, claimed-not-zero}

-- the blocks of a way by their depth
abbrev pub two_at : Pointer → Pointer → Path → Pointer
two_at x y (InRecord n) = y
two_at x y (Under a n) = x

abbrev pub two_of : Cell → Cell → Path → Cell
two_of x y (InRecord n) = y
two_of x y (Under a n) = x

abbrev pub three_at : Pointer → Pointer → Pointer → Path → Pointer
three_at x y z (InRecord n) = z
three_at x y z (Under (InRecord n) j) = y
three_at x y z (Under (Under a j) q) = x

abbrev pub three_of : Cell → Cell → Cell → Path → Cell
three_of x y z (InRecord n) = z
three_of x y z (Under (InRecord n) j) = y
three_of x y z (Under (Under a j) q) = x

-- the record has another pointer in one place
pub rooted-here : (r : Record) (size n : ℕ) (x : Pointer) → (n ≡ 8) ⊎ (n ≡ 9) → record_pointer (rooted r size n x) n ≡ x
rooted-here r size n x (inl e) = rw e refl
rooted-here r size n x (inr e) = rw e refl

pub rooted-other : (r : Record) (size n q : ℕ) (x : Pointer) → (n ≡ 8) ⊎ (n ≡ 9)
    → q ≢ n → record_pointer (rooted r size n x) q ≡ record_pointer r q
rooted-other r size n q x (inl e) ne = let t : eqb q 8 ≡ false = ne_eqb q 8 (λ s. ne (s ∙ sym e)) in rw (e, t) refl
rooted-other r size n q x (inr e) ne = let t : eqb q 9 ≡ false = ne_eqb q 9 (λ s. ne (s ∙ sym e)) in rw (e, t) refl

-- the claim names no such block
none-claimed : (x : Pointer) → is_claimed x ≡ false → is_claimed x ≡ true → ⊥
none-claimed x e t = cc (e, t)

-- the tag of a new block of pointers
node-tag : (X : Image) {i g n : ℕ} {a : Path} {r : Record} {x : Pointer} {stamp : ℕ} {cl : Cell}
    → inode X i ≡ r → r.generation ≡ g
    → is_pointer_slot a ≡ true → OnePointer i g a n x stamp cl → tag_of cl.tag ≡ Some (tag_for X i a stamp)
node-tag X {i} {g} {n} {a} {r} {x} {stamp} {cl} rec gen points one =
    one.tag ∙ ap Some (sym (pointers-tag X i g stamp a r rec gen points))

-- the slot and the leaf above it get their blocks
pub leaf-climbs : (X : Image) (i g slot at : ℕ) (bytes : List ℕ) (r : Record) (n : ℕ) (c : Claims) (c1 cl c2 : Cell)
    → ContentFacts X i g slot at bytes r (rooted r (max r.size (1024 * slot + at + length bytes)) 8 c.leaf)
    (Under (InRecord 8) n) c.cell c1 c2
    → find X i (InRecord 8) ≡ answer.Hole → OnePointer i g (InRecord 8) n c.cell c.leaf.stamp cl → NamesTwo c
    → Climbs X i g slot at bytes r (rooted r (max r.size (1024 * slot + at + length bytes)) 8 c.leaf) 2
    (Under (InRecord 8) n) (two_at c.cell c.leaf)
    (two_of c1 cl) c c2
leaf-climbs X i g slot at bytes r n c c1 cl c2 f hole leaf names = record {
  file = f.file;
  grew = record { kind = refl; generation = refl; links = refl; size = refl };
  old = λ q u. absurd u;
  empty = each-new (λ q. (z : Pointer) → find X i q ≡ answer.Holds z → ⊥) 2 way
      ((λ z e. holds-nothing f z e), (λ z e. cc (hole, e)));
  hole = λ q j u. each-next (λ q j. IsNew 2 way q → find X i q ≡ answer.Hole) 2 way ((λ v. hole), tt) q j u;
  claimed = each-new (λ q. IsClaimed c (two_at c.cell c.leaf q)) 2 way
      ((names.cell, inl refl), (names.leaf, inr (inl refl)));
  distinct = λ q w u v. each-new (λ q. (w : Path) → IsNew 2 way w
      → (two_at c.cell c.leaf q).block ≡ (two_at c.cell c.leaf w).block → q ≡ w) 2 way (
        each-new (λ w. c.cell.block ≡ (two_at c.cell c.leaf w).block → way ≡ w) 2 way
            ((λ e. refl), (λ e. absurd (names.apart e))),
        each-new (λ w. c.leaf.block ≡ (two_at c.cell c.leaf w).block → InRecord 8 ≡ w) 2 way
            ((λ e. absurd (names.apart (sym e))), (λ e. refl)),
      ) q u w v;
  tag_new = each-new (λ q. tag_of (two_of c1 cl q).tag ≡ Some (tag_for X i q (two_at c.cell c.leaf q).stamp)) 2 way
      (new-tag f, node-tag X f.file.rec f.file.generation refl leaf);
  tag_old = λ q u v. absurd v;
  next = each-next (λ q j. pointer_at (two_of c1 cl q).payload j ≡ two_at c.cell c.leaf (Under q j)) 2 way
      (leaf.pointer, tt);
  beside_new = λ q j z u v ne lt. each-next (λ q j. (z : ℕ)
      → z ≢ j → z < 64 → is_null (pointer_at (two_of c1 cl q).payload z) ≡ true) 2 way (leaf.others, tt)
      q j u z ne lt;
  beside_old = λ q j z u v ne lt. absurd v;
  content = f.payload;
  pointer_new = λ q u. here q u;
  pointers_old = λ q off. rooted-other r (max r.size (1024 * slot + at + length bytes)) 8 q c.leaf (inl refl)
      (λ e. off (inr (ap InRecord e)));
  cell = λ t. refl;
  leaf = λ t. (inr refl, refl);
  top = λ t. absurd (none-claimed c.top names.top t);
}
  where
    way : Path
    way = Under (InRecord 8) n

    here : (q : ℕ) → IsNew 2 (Under (InRecord 8) n) (InRecord q)
        → record_pointer (rooted r (max r.size (1024 * slot + at + length bytes)) 8 c.leaf) q ≡ c.leaf
    here q (inl e) = absurd (cc e)
    here q (inr e) = let s : q ≡ 8 = cc e in rw s refl

-- the slot, its child and the top get their blocks
pub top-climbs : (X : Image) (i g slot at : ℕ) (bytes : List ℕ) (r : Record) (j n : ℕ) (c : Claims)
    (c1 cc1 ct c2 : Cell)
    → ContentFacts X i g slot at bytes r (rooted r (max r.size (1024 * slot + at + length bytes)) 9 c.top)
    (Under (Under (InRecord 9) j) n) c.cell c1 c2
    → find X i (InRecord 9) ≡ answer.Hole → OnePointer i g (Under (InRecord 9) j) n c.cell c.leaf.stamp cc1
    → OnePointer i g (InRecord 9) j c.leaf c.top.stamp ct → NamesThree c
    → Climbs X i g slot at bytes r (rooted r (max r.size (1024 * slot + at + length bytes)) 9 c.top) 3
    (Under (Under (InRecord 9) j) n)
    (three_at c.cell c.leaf c.top) (three_of c1 cc1 ct) c c2
top-climbs X i g slot at bytes r j n c c1 cc1 ct c2 f hole child top names = record {
  file = f.file;
  grew = record { kind = refl; generation = refl; links = refl; size = refl };
  old = λ q u. absurd u;
  empty = each-new (λ q. (w : Pointer) → find X i q ≡ answer.Holds w → ⊥) 3 way
      ((λ w e. holds-nothing f w e), ((λ w e. cc (child-hole, e)), (λ w e. cc (hole, e))));
  hole = λ q t u. each-next (λ q t. IsNew 3 way q → find X i q ≡ answer.Hole) 3 way
      ((λ v. child-hole), ((λ v. hole), tt)) q t u;
  claimed = each-new (λ q. IsClaimed c (three_at c.cell c.leaf c.top q)) 3 way
      ((names.cell, inl refl), ((names.leaf, inr (inl refl)), (names.top, inr (inr refl))));
  distinct = λ q w u v. each-new (λ q. (w : Path) → IsNew 3 way w
      → (three_at c.cell c.leaf c.top q).block ≡ (three_at c.cell c.leaf c.top w).block → q ≡ w) 3 way (
        each-new (λ w. c.cell.block ≡ (three_at c.cell c.leaf c.top w).block → way ≡ w) 3 way
            ((λ e. refl), ((λ e. absurd (names.cell_leaf e)), (λ e. absurd (names.cell_top e)))),
        (
          each-new (λ w. c.leaf.block ≡ (three_at c.cell c.leaf c.top w).block → Under (InRecord 9) j ≡ w) 3 way
              ((λ e. absurd (names.cell_leaf (sym e))), ((λ e. refl), (λ e. absurd (names.leaf_top e)))),
          each-new (λ w. c.top.block ≡ (three_at c.cell c.leaf c.top w).block → InRecord 9 ≡ w) 3 way
              ((λ e. absurd (names.cell_top (sym e))), ((λ e. absurd (names.leaf_top (sym e))), (λ e. refl))),
        ),
      ) q u w v;
  tag_new = each-new
      (λ q. tag_of (three_of c1 cc1 ct q).tag ≡ Some (tag_for X i q (three_at c.cell c.leaf c.top q).stamp)) 3 way (
        new-tag f,
        (node-tag X f.file.rec f.file.generation refl child, node-tag X f.file.rec f.file.generation refl top),
      );
  tag_old = λ q u v. absurd v;
  next = each-next (λ q t. pointer_at (three_of c1 cc1 ct q).payload t ≡ three_at c.cell c.leaf c.top (Under q t)) 3 way
      (child.pointer, (top.pointer, tt));
  beside_new = λ q t s u v ne lt.
      each-next (λ q t. (s : ℕ) → s ≢ t → s < 64 → is_null (pointer_at (three_of c1 cc1 ct q).payload s) ≡ true) 3 way
      (child.others, (top.others, tt)) q t u s ne lt;
  beside_old = λ q t s u v ne lt. absurd v;
  content = f.payload;
  pointer_new = λ q u. here q u;
  pointers_old = λ q off. rooted-other r (max r.size (1024 * slot + at + length bytes)) 9 q c.top (inr refl)
      (λ e. off (inr (inr (ap InRecord e))));
  cell = λ t. refl;
  leaf = λ t. (inr (inl refl), refl);
  top = λ t. (inr (inr refl), refl);
}
  where
    way : Path
    way = Under (Under (InRecord 9) j) n

    child-hole : find X i (Under (InRecord 9) j) ≡ answer.Hole
    child-hole = rw (hole, find) refl

    here : (q : ℕ) → IsNew 3 (Under (Under (InRecord 9) j) n) (InRecord q)
        → record_pointer (rooted r (max r.size (1024 * slot + at + length bytes)) 9 c.top) q ≡ c.top
    here q (inl e) = absurd (cc e)
    here q (inr (inl e)) = absurd (cc e)
    here q (inr (inr e)) = let s : q ≡ 9 = cc e in rw s refl

-- the top is none of the new ones
top-old : {j n : ℕ} → IsNew 2 (Under (Under (InRecord 9) j) n) (InRecord 9) → ⊥
top-old (inl e) = cc e
top-old (inr (inl e)) = cc e
top-old (inr (inr w)) = w

-- the slot and its child get their blocks, and the top has its own
pub child-climbs : (X : Image) (i g slot at : ℕ) (bytes : List ℕ) (r : Record) (j n : ℕ) (z : Pointer) (c : Claims)
    (c1 cc1 ct c2 : Cell)
    → ContentFacts X i g slot at bytes r (sized r (max r.size (1024 * slot + at + length bytes)))
    (Under (Under (InRecord 9) j) n) c.cell c1 c2
    → find X i (InRecord 9) ≡ answer.Holds z → find X i (Under (InRecord 9) j) ≡ answer.Hole
    → OnePointer i g (Under (InRecord 9) j) n c.cell c.leaf.stamp cc1
    → OtherPointer (cell_at X z.block) ct j c.leaf → NamesTwo c
    → Climbs X i g slot at bytes r (sized r (max r.size (1024 * slot + at + length bytes))) 2
    (Under (Under (InRecord 9) j) n) (three_at c.cell c.leaf z)
    (three_of c1 cc1 ct) c c2
child-climbs X i g slot at bytes r j n z c c1 cc1 ct c2 f held hole child top names = record {
  file = f.file;
  grew = record { kind = refl; generation = refl; links = refl; size = refl };
  old = λ q u. subst (λ (w : Path). find X i w ≡ answer.Holds (three_at c.cell c.leaf z w)) (sym u) held;
  empty = each-new (λ q. (w : Pointer) → find X i q ≡ answer.Holds w → ⊥) 2 way
      ((λ w e. holds-nothing f w e), ((λ w e. cc (hole, e)), tt));
  hole = λ q t u. each-next (λ q t. IsNew 2 way q → find X i q ≡ answer.Hole) 2 way
      ((λ v. hole), ((λ v. absurd (top-old v)), tt)) q t u;
  claimed = each-new (λ q. IsClaimed c (three_at c.cell c.leaf z q)) 2 way
      ((names.cell, inl refl), ((names.leaf, inr (inl refl)), tt));
  distinct = λ q w u v. each-new (λ q. (w : Path) → IsNew 2 way w
      → (three_at c.cell c.leaf z q).block ≡ (three_at c.cell c.leaf z w).block → q ≡ w) 2 way (
        each-new (λ w. c.cell.block ≡ (three_at c.cell c.leaf z w).block → way ≡ w) 2 way
            ((λ e. refl), ((λ e. absurd (names.apart e)), tt)),
        (
          each-new (λ w. c.leaf.block ≡ (three_at c.cell c.leaf z w).block → Under (InRecord 9) j ≡ w) 2 way
              ((λ e. absurd (names.apart (sym e))), ((λ e. refl), tt)),
          tt,
        ),
      ) q u w v;
  tag_new =
      each-new (λ q. tag_of (three_of c1 cc1 ct q).tag ≡ Some (tag_for X i q (three_at c.cell c.leaf z q).stamp)) 2 way
      (new-tag f, (node-tag X f.file.rec f.file.generation refl child, tt));
  tag_old = λ q u v. subst (λ (w : Path).
      tag_of (three_of c1 cc1 ct w).tag ≡ tag_of (cell_at X (three_at c.cell c.leaf z w).block).tag) (sym v)
      (ap tag_of top.tag);
  next = each-next (λ q t. pointer_at (three_of c1 cc1 ct q).payload t ≡ three_at c.cell c.leaf z (Under q t)) 2 way
      (child.pointer, (top.here, tt));
  beside_new = λ q t s u v ne lt. each-next (λ q t. IsNew 2 way q
      → (s : ℕ) → s ≢ t → s < 64 → is_null (pointer_at (three_of c1 cc1 ct q).payload s) ≡ true) 2
      way ((λ w. child.others), ((λ w. absurd (top-old w)), tt)) q t u v s ne lt;
  beside_old = λ q t s u v ne lt. each-next (λ q t. IsOld 2 way q → (s : ℕ) → s ≢ t → s < 64
      → pointer_at (three_of c1 cc1 ct q).payload s
      ≡ pointer_at (cell_at X (three_at c.cell c.leaf z q).block).payload s) 2 way
      ((λ w. absurd (child-new w)), ((λ w. top.others), tt)) q t u v s ne lt;
  content = f.payload;
  pointer_new = λ q u. absurd (off-record q u);
  pointers_old = λ q off. refl;
  cell = λ t. refl;
  leaf = λ t. (inr (inl refl), refl);
  top = λ t. absurd (none-claimed c.top names.top t);
}
  where
    way : Path
    way = Under (Under (InRecord 9) j) n

    child-new : IsOld 2 (Under (Under (InRecord 9) j) n) (Under (InRecord 9) j) → ⊥
    child-new e = cc e

    off-record : (q : ℕ) → IsNew 2 (Under (Under (InRecord 9) j) n) (InRecord q) → ⊥
    off-record q (inl e) = cc e
    off-record q (inr (inl e)) = cc e
    off-record q (inr (inr w)) = w

module _ {old mid new : DiskState} {k l' l : Books} {p : Put} {r : Record} {c : Claims} {c20 c2 : Cell} {t : ℕ}
    {result : Result (Unit {0}) Refusal}
    (is_mid : IsDisk mid) (is_new : IsDisk new) (stays : StaysButFaults old mid) (same : mid.faults ≡ old.faults)
    (read : IsTrue old.tells → c20 ≡ cell_at old.now (table_block p.inode))
    (at-table : t ≡ table_block p.inode) where
  pub leaf-ends : {n : ℕ} {c1 cl : Cell} → IsAsked old k p r 2 → HasRoom k 2 → IsTaking old mid k l' p c 2 × NamesTwo c
      → IsUnder p.slot (InRecord 8) n
      → IsHole old p.inode (InRecord 8) → IsContent p r.size c.cell.stamp c1
      → OnePointer p.inode p.generation (InRecord 8) n c.cell c.leaf.stamp cl
      → IsRecordCell c20 p.inode (rooted r (size_after p r.size) 8 c.leaf) c2
      → Stores mid l' new l ((c.cell.block, c1) ∷ (c.leaf.block, cl) ∷ (t, c2) ∷ []) result
      → Goes old k new l (step_of_put p) c (put_answer result)
  leaf-ends {n} {c1} {cl} a room taking path hole content leaf table stores =
      let names = taking.1 in
      asked-ends (Under (InRecord 8) n) (two_at c.cell c.leaf)
      (two_of c1 cl) a room taking.0 is_mid is_new stays same path.path (
        (λ e. claimed-not-zero c.cell names.cell (sym e)),
        ((λ e. claimed-not-zero c.leaf names.leaf (sym e)), ((λ e. omega (arith, e)), tt)),
      )
      (λ t agrees. leaf-climbs old.now p.inode p.generation p.slot p.at p.bytes.now r n c c1 cl c2
      (content-facts a path.path content read table t agrees)
      (hole t) leaf names) at-table stores

  pub child-ends : {j n : ℕ} {z : Pointer} {c1 cc1 ct0 ct : Cell} → IsAsked old k p r 2 → HasRoom k 2
      → IsTaking old mid k l' p c 2 × NamesTwo c
      → IsFar p.slot j n → HeldAt old k p.inode (InRecord 9) z → IsHole old p.inode (Under (InRecord 9) j)
      → IsContent p r.size c.cell.stamp c1
      → OnePointer p.inode p.generation (Under (InRecord 9) j) n c.cell c.leaf.stamp cc1
      → (IsTrue old.tells → ct0 ≡ cell_at old.now z.block)
      → OtherPointer ct0 ct j c.leaf → IsRecordCell c20 p.inode (sized r (size_after p r.size)) c2
      → Stores mid l' new l ((c.cell.block, c1) ∷ (c.leaf.block, cc1) ∷ (z.block, ct) ∷ (t, c2) ∷ []) result
      → Goes old k new l (step_of_put p) c (put_answer result)
  child-ends {j} {n} {z} {c1} {cc1} {ct0} {ct} a room taking path held hole content child top-read top table stores =
      let names = taking.1 in
      asked-ends (Under (Under (InRecord 9) j) n) (three_at c.cell c.leaf z)
      (three_of c1 cc1 ct) a room taking.0 is_mid is_new stays same path.path (
        (λ e. claimed-not-zero c.cell names.cell (sym e)),
        (
          (λ e. claimed-not-zero c.leaf names.leaf (sym e)),
          ((λ e. let q = held.positive in omega (arith, e, q)), ((λ e. omega (arith, e)), tt)),
        ),
      )
      (λ t agrees. child-climbs old.now p.inode p.generation p.slot p.at p.bytes.now r j n z c c1 cc1 ct c2
      (content-facts a path.path content read table t agrees) (held.held t) (hole t) child
      (subst (λ (d : Cell). OtherPointer d ct j c.leaf) (top-read t) top) names) at-table stores

  pub top-ends : {j n : ℕ} {c1 cc1 ct : Cell} → IsAsked old k p r 3 → HasRoom k 3
      → IsTaking old mid k l' p c 3 × NamesThree c → IsFar p.slot j n
      → IsHole old p.inode (InRecord 9) → IsContent p r.size c.cell.stamp c1
      → OnePointer p.inode p.generation (Under (InRecord 9) j) n c.cell c.leaf.stamp cc1
      → OnePointer p.inode p.generation (InRecord 9) j c.leaf c.top.stamp ct
      → IsRecordCell c20 p.inode (rooted r (size_after p r.size) 9 c.top) c2
      → Stores mid l' new l ((c.cell.block, c1) ∷ (c.leaf.block, cc1) ∷ (c.top.block, ct) ∷ (t, c2) ∷ []) result
      → Goes old k new l (step_of_put p) c (put_answer result)
  top-ends {j} {n} {c1} {cc1} {ct} a room taking path hole content child top table stores =
      let names = taking.1 in
      asked-ends (Under (Under (InRecord 9) j) n) (three_at c.cell c.leaf c.top)
      (three_of c1 cc1 ct) a room taking.0 is_mid is_new stays same path.path (
        (λ e. claimed-not-zero c.cell names.cell (sym e)),
        (
          (λ e. claimed-not-zero c.leaf names.leaf (sym e)),
          ((λ e. claimed-not-zero c.top names.top (sym e)), ((λ e. omega (arith, e)), tt)),
        ),
      )
      (λ t agrees. top-climbs old.now p.inode p.generation p.slot p.at p.bytes.now r j n c c1 cc1 ct c2
      (content-facts a path.path content read table t agrees) (hole t) child top names) at-table stores

-- The numbers of a table cell.
use Rattle.std.proofs.Common.{◌≡◌, ℕ, ◌-◌, ◌%◌, ◌<◌, inl, inr, true, refl, sym, subst, Contains, eqb, eqb-true, arith}
use Rattle.std.proofs.lemmas.List.Elements.{All-contains, Contains-get_or}
use Rattle.nofs_disk.specs.declared.tag.Pointer.{Pointer}
use Rattle.nofs_inode.specs.declared.inode.Record.{Record}
use Rattle.nofs_inode.specs.declared.inode.BackLink.{BackLink}
use Rattle.nofs_disk.specs.Pointer.{is_null}
use Rattle.nofs_inode.specs.InodeRecords.{is_live, record_at}
use Rattle.nofs_model.specs.Geometry.{Image, inode}
use Rattle.nofs_ptrs.specs.Paths.{InRecord}
use Rattle.nofs_model.specs.Slots.{record_pointer}
use Rattle.nofs_model.proofs.OnSlots.Find.{and-both}
use Rattle.nofs_history.specs.World.{World}
use Rattle.nofs_history.specs.Claims.{next_stamp}
use Rattle.nofs_history.specs.declared.machine.history.Claims.{Claims}
use Rattle.nofs_crashlaw.specs.Maps.Fresh.{Numbered, Old, Generation, RecordNumbers, InTable}
use Rattle.nofs_crashlaw.proofs.OnMaps.Fresh.{old-record}
use Rattle.nofs_crashlaw.proofs.OnMaps.Pieces.{law-pointers}
use Rattle.nofs_crashlaw.specs.Numbers.Cells.{OldNumbers, RecordFrom, RecordBorn, RecordWritten, AsBefore, Changed}
use Rattle.nofs_crashlaw.specs.Numbers.Cells.{Made, Freed, table_tag, LawTableNumbers, LawTableMoment}
use Rattle.nofs_crashlaw.proofs.OnNumbers.Cells.{old-generation}

null-below : (s : ℕ) (x : Pointer) → is_null x ≡ true → 0 < s → x.stamp < s
null-below s x z positive = let e = eqb-true x.stamp 0 (and-both (eqb x.block 0) (eqb x.stamp 0) z).1 in
    omega (arith, e, positive)

module _ (W : World) (c : Claims) (X : Image) (j : ℕ) (o : OldNumbers W X) where
  old-link : is_live (inode X j) ≡ true → (l : BackLink) → Contains (inode X j).links l → Numbered W c l.generation
  old-link live l has = Old (All-contains (λ (q : BackLink). q.generation < next_stamp W) (inode X j).links l
      (old-record (next_stamp W) X j o.mountable o.below live).links has)

  -- a record before the step
  old-numbers : is_live (inode X j) ≡ true → RecordNumbers (Numbered W c) (inode X j)
  old-numbers live =
      let r = old-record (next_stamp W) X j o.mountable o.below live in record {
        generation = Old r.generation;
        links = λ k d lt. Old (r.links k d lt);
        pointers = λ n lt. Old (r.pointers n lt);
      }

  changed-numbers : (r : Record) → RecordFrom W c X j r → RecordNumbers (Numbered W c) r
  changed-numbers r p = record {
    generation = subst (λ (n : ℕ). Numbered W c n) (sym p.generation) (old-generation W c X j o p.live);
    links = λ k d lt.
        elim (p.links _ (Contains-get_or r.links k d lt)) [ inl there ↦ old-link p.live _ there | inr new ↦ new ];
    pointers = λ n lt. law-pointers W c X j (InRecord n) (record_pointer r n) o.positive o.mountable o.below p.live lt
        (p.pointers n lt);
  }

  null-stamp : (r : Record) → RecordBorn W c r → (n : ℕ) → n < 10 → Numbered W c (record_pointer r n).stamp
  null-stamp r p n lt = Old (null-below (next_stamp W) (record_pointer r n) (p.pointers n lt) o.positive)

  born-numbers : (r : Record) → RecordBorn W c r → RecordNumbers (Numbered W c) r
  born-numbers r p = record {
    generation = Generation p.claimed p.generation;
    links = λ k d lt. p.links _ (Contains-get_or r.links k d lt);
    pointers = null-stamp r p;
  }

  written-numbers : (r : Record) → RecordWritten W c X j r → is_live r ≡ true → RecordNumbers (Numbered W c) r
  written-numbers r (AsBefore e) live =
      subst (RecordNumbers (Numbered W c)) (sym e) (old-numbers (subst (λ (q : Record). is_live q ≡ true) e live))
  written-numbers r (Changed p) live = changed-numbers r p
  written-numbers r (Made p) live = born-numbers r p
  written-numbers r (Freed dead) live = absurd (cc (dead, live))

pub law-table-numbers : LawTableNumbers
law-table-numbers W c X b cell o tag each = InTable (table_tag b) tag refl (Old o.positive) (Old o.positive)
    (λ j range e live. written-numbers W c X j o (record_at cell.payload ((j - 1) % 4)) (each j range e) live)

pub law-table-moment : LawTableMoment
law-table-moment W c X Y b cell o tag each after =
    law-table-numbers W c X b cell o tag (λ j range e. elim (each j range e) [
      | inl x ↦ AsBefore x
      | inr y ↦ subst (RecordWritten W c X j) (sym y) (after j)
    ])

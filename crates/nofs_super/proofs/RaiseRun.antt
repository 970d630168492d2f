-- A raise of the mount number: a write, then a flush.
use Rattle.std.specs.Prelude.{Contains}
use Rattle.std.proofs.Common.{◌≡◌, ◌≢◌, ℕ, ◌⊎◌, inl, inr, Bool, true, false, eqb, eqb-true, List, Result, refl, sym}
use Rattle.std.proofs.Common.{◌∙◌}
use Rattle.std.proofs.Common.{subst, arith}
use Rattle.nofs_disk.specs.declared.Failed.{Failed}
use Rattle.nofs_disk.specs.declared.tag.Cell.{Cell}
use Rattle.nofs_disk.specs.Adds.{Adds, Adds-flushes, Adds-trans, Adds-writes}
use Rattle.nofs_disk.specs.Disk.{DiskState, Flushes, IsDisk, Writes}
use Rattle.nofs_super.specs.Format.{super_cell}
use Rattle.nofs_super.specs.Raise.{IsSuperCell}
use Rattle.nofs_super.specs.declared.superblock.SuperBlock.{SuperBlock}

-- the images of the write
pub adds-raise : (it : SuperBlock) (old new : DiskState) (cell : Cell) {result : Result (Unit {0}) Failed} → IsDisk new
    → cell ≡ super_cell it
    → Writes old new 0 cell result → Adds (IsSuperCell it) old new
adds-raise it old new cell is same w =
    Adds-writes (IsSuperCell it) old new 0 cell is w (record { first = refl; is = same })

-- the images of both calls
pub adds-raised : (it : SuperBlock) (old mid new : DiskState)
    (cell : Cell) {written : Result (Unit {0}) Failed} {flushed : Result (Unit {0}) Failed}
    → IsDisk mid → IsDisk new → cell ≡ super_cell it
    → Writes old mid 0 cell written → Flushes mid new flushed → Adds (IsSuperCell it) old new
adds-raised it old mid new cell was is same w f =
    Adds-trans (IsSuperCell it) old mid new (adds-raise it old mid cell was same w)
    (Adds-flushes (IsSuperCell it) mid new is f)

-- what a block might hold before the write it may still hold
pub kept-raise : (old new : DiskState) (cell : Cell) {result : Result (Unit {0}) Failed} → Writes old new 0 cell result
    → (b : ℕ) (x : Cell) → Contains (old.may b) x → Contains (new.may b) x
kept-raise old new cell w b x has = go (eqb b 0) refl
  where
    go : (t : Bool) → eqb b 0 ≡ t → Contains (new.may b) x
    go true e =
        let here : Contains (old.may 0) x = subst (λ (q : ℕ). Contains (old.may q) x) (eqb-true b 0 e) has in
        subst (λ (q : ℕ). Contains (new.may q) x) (sym (eqb-true b 0 e)) (w.stays x here)
    go false e =
        let apart : b ≢ 0 = λ q. let t : eqb b 0 ≡ true = rw q (grind arith) in cc (e, t) in
        subst (λ (l : List Cell). Contains l x) (sym (w.others b apart)) has

-- and block 0 this superblock too
pub first-raise : (it : SuperBlock) (old new : DiskState) (cell : Cell) {result : Result (Unit {0}) Failed}
    → cell ≡ super_cell it → Writes old new 0 cell result
    → (x : Cell) → Contains (new.may 0) x → Contains (old.may 0) x ⊎ (x ≡ super_cell it)
first-raise it old new cell same w x has = elim (w.may x has) [ inl before ↦ inl before | inr e ↦ inr (e ∙ same) ]

-- What a mount leaves where it began, where it was refused, and where its write or flush failed.
use Rattle.std.proofs.Common.{◌≡◌, ◌≢◌, ℕ, ◌<◌, ◌⊎◌, List, IsTrue, Some, Bool, Contains, set, Result, Ok, Err}
use Rattle.std.proofs.Common.{refl, sym, ◌∙◌, subst, subst₂, arith, length}
use Rattle.nofs_disk.specs.Disk.{DiskState, IsDisk, IsSameDisk, KeepsCells, cell_at}
use Rattle.nofs_disk.specs.Adds.{Adds}
use Rattle.nofs_disk.specs.declared.tag.Cell.{Cell}
use Rattle.nofs_super.specs.Format.{super_cell}
use Rattle.nofs_super.specs.Raise.{IsRaiseStopped, IsSuperCell, raised}
use Rattle.nofs_super.specs.Super.{CanMount, check_super, super_of}
use Rattle.nofs_super.specs.declared.superblock.MountFault.{MountFault}
use Rattle.nofs_super.specs.declared.superblock.MountFault.TheVariants as fault
use Rattle.nofs_super.specs.declared.superblock.SuperBlock.{SuperBlock}
use Rattle.nofs_model.specs.Geometry.{Image}
use Rattle.nofs_shared.specs.Mount.Begin.{IsBeginStopped, IsMountRefused, LeavesRaised, MountsBy}
use Rattle.nofs_shared.proofs.OnMount.Begin.{before-raised}

pub some-blocks : (blocks : ℕ) (it : SuperBlock) → CanMount blocks it → 0 < blocks
some-blocks blocks it can = let a = can.geometry.some_blocks in let b = can.geometry.fits in omega (arith, a, b)

-- by a superblock that was read
pub mounts-read : (d : DiskState) (it : SuperBlock) (result : Result SuperBlock MountFault) → result ≡ Ok it
    → CanMount d.blocks it → (IsTrue d.tells → super_of (cell_at d.now 0).payload ≡ Some it)
    → (result ≢ Err fault.ReadFault → 0 < d.blocks → IsTrue d.tells
    → result ≡ check_super d.blocks (cell_at d.now 0).payload)
    → MountsBy d it
mounts-read d it result is can spelled told = record {
  can = can;
  spelled = spelled;
  table = λ tells. sym (told (λ e. let q : Ok it ≡ Err fault.ReadFault = sym is ∙ e in cc q)
      (some-blocks d.blocks it can) tells) ∙ is;
}

-- so it is of the same disk with the same cells
pub mounts-on : (found old : DiskState) (it : SuperBlock) → IsSameDisk found old → KeepsCells found old
    → MountsBy found it → MountsBy old it
mounts-on found old it disk cells m = record {
  can = subst (λ (n : ℕ). CanMount n it) (sym disk.blocks) m.can;
  spelled = λ t. subst (λ (X : Image). super_of (cell_at X 0).payload ≡ Some it) (sym cells.now) (m.spelled (told t));
  table = λ t. subst₂ (λ (n : ℕ) (X : Image). check_super n (cell_at X 0).payload ≡ Ok it) (sym disk.blocks)
      (sym cells.now) (m.table (told t));
}
  where
    told : IsTrue old.tells → IsTrue found.tells
    told t = subst (λ (b : Bool). IsTrue b) disk.tells t

-- there was no memory
pub refused-memory : (old new : DiskState) (it : SuperBlock) → MountsBy old it → new.dirty ≡ old.dirty
    → IsMountRefused old new fault.OutOfMemory
refused-memory old new it m dirty = record {
  no_write = λ e. cc e;
  dirty = dirty;
  empty = λ none. absurd (let some = some-blocks old.blocks it m.can in omega (arith, none, some));
  read = λ e. absurd (cc e);
  table = λ read memory. absurd (memory refl);
  some = λ of. absurd (of.1 refl);
  memory = λ e. (it, m);
}

-- a raise after calls that leave the cells, seen from before them
module _ (found old new : DiskState) (before : SuperBlock) (disk : IsSameDisk found old)
    (cells : KeepsCells found old) where
  abbrev it : SuperBlock
  it = raised before

  pub leaves-found : IsDisk old → Adds (IsSuperCell it) old new → LeavesRaised found new it
  leaves-found is adds m X from to left =
      subst₂ (λ (may : ℕ → List Cell) (n : ℕ). (length X ≡ n) × ((b : ℕ) → b < n
      → Contains (may b) (cell_at X b) ⊎ IsSuperCell it b (cell_at X b))) cells.may disk.blocks
      (before-raised old new it is adds m X (let e = cells.moment in omega (arith, from, e)) to left)

  pub stopped-found : MountsBy found before → IsRaiseStopped it old new → IsDisk old
      → Adds (IsSuperCell it) old new → IsBeginStopped found new
  stopped-found mounts s is adds = record {
    before = before;
    mounts = mounts;
    cause = (let r = s.cause in let f = disk.faults in omega (arith, r, f));
    began = (let b = s.began in let e = cells.moment in omega (arith, b, e));
    most = (let b = s.most in let e = cells.moment in omega (arith, b, e));
    kept = λ b c has. s.kept b c (subst (λ (may : ℕ → List Cell). Contains (may b) c) (sym cells.may) has);
    others = λ b apart. s.others b apart ∙ (λ j. cells.may j b);
    now = subst (λ (X : Image). (new.now ≡ X) ⊎ (new.now ≡ set X 0 (super_cell it))) cells.now s.now;
    cells = λ b c has. subst (λ (may : ℕ → List Cell). Contains (may b) c ⊎ IsSuperCell it b c) cells.may
        (adds.cells b c has);
    during = leaves-found is adds;
  }

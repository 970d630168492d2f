-- A superblock that was read gives the numbers of its disk.
use Rattle.std.proofs.Common.{◌≡◌, Bool, IsTrue, List, ℕ, Some, ap, sym, ◌∙◌, subst}
use Rattle.nofs_disk.specs.Disk.{DiskState, StaysButFaults, cell_at}
use Rattle.nofs_super.specs.Super.{CanMount, super_in, super_of}
use Rattle.nofs_super.specs.Geometry.{IsGeometry}
use Rattle.nofs_super.specs.declared.superblock.SuperBlock.{SuperBlock}
use Rattle.nofs_model.proofs.OnGeometry.Super.{spells}
use Rattle.nofs_model.specs.Geometry.{super_at}
use Rattle.nofs_agree.specs.Reads.{IsAt}

pub numbers-read : (old new : DiskState) (it : SuperBlock) → StaysButFaults old new → CanMount old.blocks it
    → (IsTrue old.tells → super_of (cell_at old.now 0).payload ≡ Some it) → IsAt new it
unfolding super_at
numbers-read old new it s can spelled = record {
  geometry = subst (λ (n : ℕ). IsGeometry n it.blocks it.inodes) (sym s.disk.blocks) can.geometry;
  same = λ t. ap (λ (X : List _). super_in (cell_at X 0).payload) s.cells.now
      ∙ (spells (cell_at old.now 0).payload it (spelled (subst (λ (b : Bool). IsTrue b) s.disk.tells t))).numbers;
}

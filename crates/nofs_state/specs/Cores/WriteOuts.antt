-- What a write-out of a mount's device leaves.
use Rattle.std.specs.Prelude.{◌≡◌, ◌↔◌, ℕ, ◌<◌, ◌≤◌, [], ◌∷◌, Option, None, Result, Err, IfOk, IfSome, OnOk, OnErr}
use Rattle.std.specs.Prelude.{IsPermutation}
use Rattle.nofs_disk.specs.Disk.{DiskState, IsSameDisk, KeepsCells, Picks, Rose}
use Rattle.nofs_disk.specs.declared.OutFault.{OutFault}
use Rattle.nofs_disk.specs.declared.OutFault.TheVariants.{Failed}
use Rattle.nofs_model.specs.Geometry.{Image}

-- At most one block is written out. No moment passes, each cell and what may be left of it stays, and each image that a
-- crash may leave now picks from that. It failed only where the count of faults rose, and there is no block exactly
-- where none is dirty
pub record WroteOne (old new : DiskState) (result : Result (Option ℕ) OutFault) : Type 0 where
  pub disk : IsSameDisk old new
  pub cells : KeepsCells old new
  pub was : (m : ℕ) → m ≤ old.moment → new.was m ≡ old.was m
  pub no_more : (m : ℕ) (X : Image) → m < old.moment → new.left m X → old.left m X
  pub no_less : (m : ℕ) (X : Image) → m ≤ old.moment → old.left m X → new.left m X
  pub added : (X : Image) → new.left old.moment X → Picks old.may old.blocks X
  pub none : IfOk result (λ out. (out ≡ None) ↔ (old.dirty ≡ []))
  pub some : IfOk result (λ out. IfSome out (λ block. IsPermutation (block ∷ new.dirty) old.dirty))
  pub err : OnErr result (new.dirty ≡ old.dirty)
  pub cause : result ≡ Err Failed → Rose old.faults new.faults
  pub no_fault : OnOk result (new.faults ≡ old.faults)

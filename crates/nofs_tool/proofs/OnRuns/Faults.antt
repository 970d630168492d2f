-- Faults of the device: those that the entries tell of, and the device's own count.
use Rattle.std.proofs.Common.{◌≡◌, ℕ, ◌+◌, ◌≤◌, Bool, true, false, List, [], ◌∷◌}
use Rattle.std.proofs.Common.{if◌then◌else◌, arith}
use Rattle.std.proofs.Math.Logic.{∥∥₁_elim}
use native.Mathlib.Bridge.{le_prop}
use Rattle.nofs_disk.specs.Disk.{DiskState, Rose}
use Rattle.nofs_history.specs.HistoryState.{HistoryState}
use Rattle.nofs_history.specs.declared.machine.history.Entry1.{Entry1}
use Rattle.nofs_history.specs.Faults.{is_fault, has_fault}
use Rattle.nofs_shared.specs.Mount.Forms.{faults_in}
use Rattle.nofs_tool.specs.Session.Whole.{Finished}

-- a fault in some entry is one at least
pub faults-some : (es : List Entry1) → has_fault es ≡ true → 1 ≤ faults_in es
faults-some [] e = cc
faults-some (x ∷ es) e = go (is_fault x.reply) (λ h. faults-some es h) e
  where
    go : (b : Bool) → (has_fault es ≡ true → 1 ≤ faults_in es)
        → (if b then true else has_fault es) ≡ true → 1 ≤ (if b then 1 else 0) + faults_in es
    go true more h = omega arith
    go false more h = let n = more h in omega (arith, n)

-- the device's count rose over a mount whose entries tell of a fault
pub faults-rose : (found last : DiskState) (first : ℕ) (h : HistoryState) → ∥ Finished found last first h ∥₁
    → has_fault h.entries ≡ true
    → Rose found.faults last.faults
faults-rose found last first h ends bad =
    ∥∥₁_elim ends le_prop (λ e. (let n = faults-some h.entries bad in let m = e.ends.faults in omega (arith, n, m)))

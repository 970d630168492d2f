-- The counts and the parts of a disk in memory after a call.
use Rattle.std.proofs.Common.{◌≡◌, ℕ, ◌+◌, ◌-◌, ◌*◌, ◌<◌, ◌≤◌, not, Bool, true, false, List, [], ◌∷◌, ◌++◌, length}
use Rattle.std.proofs.Common.{arith, refl, sym, ap, ◌∙◌, Option, None}
use Rattle.std.proofs.Common.{Some}
use Rattle.std.specs.Prelude.{is_none, is_some, unwrap_or, ◌^◌}
use Rattle.nofs_disk.specs.declared.tag.Cell.{Cell}
use Rattle.nofs_disk.specs.Disk.{Rose}
use Rattle.nofs_versions.specs.declared.call.Call.{Call}
use Rattle.nofs_versions.specs.declared.call.Call.TheVariants.{Write, Flush}
use Rattle.nofs_versions.specs.Memory.{held_after}
use Rattle.nofs_versions.specs.declared.call.CallKind.TheVariants as kind
use Rattle.nofs_versions.specs.declared.call.FaultAt.{FaultAt}
use Rattle.nofs_versions.specs.Faults.{faults_after_call, fault_of, next}
use Rattle.nofs_memdisk.specs.Parts.{Parts, has_flushed, has_written}
use Rattle.nofs_versions.proofs.OnMemory.Cells.{after_none}

-- a write that is not to fail is taken
pub taken_if_none : (fault : Option Bool) → is_some fault ≡ false → unwrap_or fault true ≡ true
taken_if_none None e = refl
taken_if_none (Some b) e = cc

-- a count of faults that is one higher
pub next-rises : (f g : ℕ) → f < 2 ^ 64 → g ≡ next f → (f ≤ g) × (Rose f g) × (g < 2 ^ 64)
next-rises f g low is = (omega arith, omega arith, omega arith)

-- a flush settles where no fault was named
settles_if : (fault : Option Bool) (t : Bool) → is_some fault ≡ not t → t ≡ is_none fault
settles_if None true e = refl
settles_if None false e = cc
settles_if (Some b) true e = cc
settles_if (Some b) false e = refl

-- the parts after a write, and after a flush, by the fault that the call was to have
pub made_write : (d : Parts) (block : ℕ) (cell : Cell)
    (taken : Bool) {fails : List FaultAt} {fault : Option Bool} {calls : List Call} {writes faults : ℕ}
    → fails ≡ d.fails → fault ≡ fault_of fails kind.Write writes → taken ≡ unwrap_or fault true
    → calls ≡ d.calls ++ Write block cell taken ∷ [] → writes ≡ next d.writes
    → faults ≡ faults_after_call fault d.faults
    → record d { calls = calls; spare = d.spare - 1; writes = writes; faults = faults } ≡ has_written d block cell
made_write d block cell taken same is takes c w f =
    let fault = is ∙ (λ i. fault_of (same i) kind.Write (w i)) in
    let l = c ∙ ap (λ t. d.calls ++ Write block cell t ∷ []) (takes ∙ ap (λ x. unwrap_or x true) fault) in
    let g = f ∙ ap (λ x. faults_after_call x d.faults) fault in
    λ i. record d { calls = l i; spare = d.spare - 1; writes = w i; faults = g i }

pub made_flush : (d : Parts) (settles : Bool) {fails : List FaultAt} {fault : Option Bool} {calls : List Call}
    {flushes faults : ℕ} → fails ≡ d.fails
    → fault ≡ fault_of fails kind.Flush flushes → is_some fault ≡ not settles
    → calls ≡ d.calls ++ Flush settles ∷ [] → flushes ≡ next d.flushes
    → faults ≡ faults_after_call fault d.faults
    → record d { calls = calls; spare = d.spare - 1; flushes = flushes; faults = faults } ≡ has_flushed d
made_flush d settles {fault = before} same is some c w f =
    let fault = is ∙ (λ i. fault_of (same i) kind.Flush (w i)) in
    let l = c ∙ ap (λ t. d.calls ++ Flush t ∷ []) (settles_if before settles some ∙ ap is_none fault) in
    let g = f ∙ ap (λ x. faults_after_call x d.faults) fault in
    λ i. record d { calls = l i; spare = d.spare - 1; flushes = w i; faults = g i }

-- the count of faults after a call that fails, and after one that does not
pub counted_some : (fault : Option Bool) (faults : ℕ)
    → is_some fault ≡ true → faults_after_call fault faults ≡ next faults
counted_some fault faults e = rw e refl

pub counted_none : (fault : Option Bool) (faults : ℕ) → is_some fault ≡ false → faults_after_call fault faults ≡ faults
counted_none fault faults e = rw e refl

-- a disk without calls has none to forget
pub forgets_none : (d : Parts) → d.calls ≡ []
    → d ≡ record d { start = d.start + 2 * length d.calls; base = (held_after d.base d.calls).now; calls = [] }
forgets_none d none =
    let start : d.start ≡ d.start + 2 * length d.calls = let l = ap length none in omega arith in
    let base = sym (after_none d.base d.calls none) in
    λ i. record d { start = start i; base = base i; calls = none i }

-- What contracts see of a file of the system: its count of faults alone.
use Rattle.std.specs.Prelude.{◌≡◌, ℕ, ◌^◌, ◌<◌, false, []}
use Rattle.std.proofs.Common.{arith}
use Rattle.std.proofs.Math.ListN.{get_or-eq_default}
use Rattle.nofs_filedisk.specs.Bytes.{HostFileState, IsHostFile}

-- a file that tells nothing
abbrev pub untold : ℕ → HostFileState
untold faults = record { tells = false; bytes = []; durable = []; faults = faults }

zero_small : {n : ℕ} → n ≡ 0 → n < 256
zero_small e = omega arith

pub untold_is : (faults : ℕ) → faults < 2 ^ 64 → IsHostFile (untold faults)
untold_is faults low =
    record { counted = low; small = λ k. zero_small (get_or-eq_default {A = ℕ} [] 0 {n = k} (omega arith)) }

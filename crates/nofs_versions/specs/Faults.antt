-- Which calls are to fail, and the counts of calls and faults.
use Rattle.std.specs.Prelude.{ℕ, ◌+◌, ◌-◌, ◌^◌, min, if◌then◌else◌, is_some, ◌==◌, ◌&&◌, Bool, true, false, List}
use Rattle.std.specs.Prelude.{Option, find}
use Rattle.std.specs.Option.{option_map}
use Rattle.nofs_versions.specs.declared.call.CallKind.{CallKind}
use Rattle.nofs_versions.specs.declared.call.CallKind.TheVariants.{Read, Write, Flush}
use Rattle.nofs_versions.specs.declared.call.FaultAt.{FaultAt}

abbrev pub same_call_kind : CallKind → CallKind → Bool
same_call_kind Read Read = true
same_call_kind Write Write = true
same_call_kind Flush Flush = true
same_call_kind _ _ = false

-- whether this is the fault of the call of a kind with a number
abbrev pub is_fault_of : CallKind → ℕ → FaultAt → Bool
is_fault_of call number fault = same_call_kind fault.call call && (fault.number == number)

-- whether a call that is to fail is taken
abbrev pub fault_of : List FaultAt → CallKind → ℕ → Option Bool
fault_of fails call number = option_map (λ fault. fault.taken) (find (is_fault_of call number) fails)

-- a count that is kept in 64 bits, one higher
abbrev pub next : ℕ → ℕ
next count = min (count + 1) (2 ^ 64 - 1)

-- the count of faults after a call
abbrev pub faults_after_call : Option Bool → ℕ → ℕ
faults_after_call fault faults = if is_some fault then next faults else faults

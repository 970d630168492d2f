-- What a side does in a call, and what the answers of two sides make together.
use Rattle.std.specs.Prelude.{◌≡◌, ℕ, ◌+◌, ◌-◌, ◌^◌, ◌≤◌, min, Bool, true, false, not, ◌||◌, if◌then◌else◌, Ok, Err}
use Rattle.std.specs.Prelude.{IsTrue}
use Rattle.nofs_disk.specs.declared.Failed.{Failed}
use Rattle.nofs_disk.specs.declared.tag.Cell.{Cell}
use Rattle.nofs_disk.specs.Disk.{DiskState, Flushes, IsSameDisk, KeepsCells, KeepsPast, Rose, StaysButFaults, Writes}
use Rattle.nofs_disk.specs.Disk.{cell_at}
use Rattle.nofs_mirror.specs.declared.sides.calls.SideAnswer.{SideAnswer}
use Rattle.nofs_mirror.specs.declared.sides.calls.SideAnswer.TheVariants.{Out, Done, Fault}
use Rattle.nofs_mirror.specs.declared.sides.calls.SideCall.{SideCall}
use Rattle.nofs_mirror.specs.declared.sides.log.Sides.{Sides}
use Rattle.nofs_mirror.specs.declared.sides.past.MirrorCall.{MirrorCall}
use Rattle.nofs_mirror.specs.declared.sides.past.Effect.{Effect}
use Rattle.nofs_mirror.specs.declared.sides.past.Effect.TheVariants.{Settle, Nothing}

-- whether a side was called
abbrev pub is_asked : SideAnswer → Bool
is_asked Out = false
is_asked Done = true
is_asked Fault = true

-- whether it succeeded
abbrev pub is_done : SideAnswer → Bool
is_done Out = false
is_done Done = true
is_done Fault = false

-- whether a side succeeded
abbrev pub any_done : SideAnswer → SideAnswer → Bool
any_done lead other = is_done lead || is_done other

-- whether the lead stays in: it succeeded, or it failed and the other did not succeed
abbrev pub lead_stays : SideAnswer → SideAnswer → Bool
lead_stays Out other = false
lead_stays Done other = true
lead_stays Fault other = not (is_done other)

-- whether the other stays in: it succeeded, or it failed and the lead is out
abbrev pub other_stays : SideAnswer → SideAnswer → Bool
other_stays Out other = is_asked other
other_stays Done other = is_done other
other_stays Fault other = is_done other

-- which sides are in after these answers
abbrev pub sides_after : SideAnswer → SideAnswer → Sides
sides_after lead other = record { lead_in = lead_stays lead other; other_in = other_stays lead other }

-- a count that is kept in 64 bits, raised by one
abbrev pub counted : ℕ → ℕ
counted faults = min (faults + 1) (2 ^ 64 - 1)

-- the count after a call: one that succeeded is not counted
abbrev pub counted_if : Bool → ℕ → ℕ
counted_if true faults = faults
counted_if false faults = counted faults

-- what a flush with these answers does
abbrev pub flush_effect : SideAnswer → SideAnswer → Effect
flush_effect lead other = if any_done lead other then Settle else Nothing

-- the call with these answers
abbrev pub answered_call : Effect → SideCall → SideCall → MirrorCall
answered_call effect lead other = record {
  effect = effect;
  lead = record { began = lead.began; ended = lead.ended; is_in = lead_stays lead.answer other.answer };
  other = record { began = other.began; ended = other.ended; is_in = other_stays lead.answer other.answer };
}

-- a read of a side
abbrev pub SideReads : DiskState → DiskState → ℕ → Cell → SideAnswer → Type 0
SideReads old new block into Out = StaysButFaults old new
SideReads old new block into Done = StaysButFaults old new × (IsTrue old.tells → into ≡ cell_at old.now block)
SideReads old new block into Fault = StaysButFaults old new × Rose old.faults new.faults

-- a write of a side
abbrev pub SideWrites : DiskState → DiskState → ℕ → Cell → SideAnswer → Type 0
SideWrites old new block cell Out = StaysButFaults old new
SideWrites old new block cell Done = Writes old new block cell (Ok tt)
SideWrites old new block cell Fault = (f : Failed) × Writes old new block cell (Err f)

-- a flush of a side
abbrev pub SideFlushes : DiskState → DiskState → SideAnswer → Type 0
SideFlushes old new Out = StaysButFaults old new
SideFlushes old new Done = Flushes old new (Ok tt)
SideFlushes old new Fault = (f : Failed) × Flushes old new (Err f)

-- a call of a side that makes no moment: its cells stay, and what a crash may leave of them
pub record Rests (old new : DiskState) : Type 0 where
  pub disk : IsSameDisk old new
  pub past : KeepsPast old new
  pub cells : KeepsCells old new
  pub spare : old.spare ≤ new.spare

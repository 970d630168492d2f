-- What a mirror holds, and what a crash may leave of it.
use Rattle.std.specs.Prelude.{◌≡◌, ◌⊎◌, ℕ, ◌+◌, ◌*◌, ◌<◌, ◌≤◌, ◌==◌, nat_lt, if◌then◌else◌, Bool, true, false, ◌&&◌}
use Rattle.std.specs.Prelude.{◌||◌, List, [], ◌∷◌, ◌++◌, length, take}
use Rattle.std.specs.Prelude.{slice_index_or, Contains, Result, OnOk, OnErr, IsTrue, IsFalse, ⊤}
use Rattle.nofs_disk.specs.declared.Failed.{Failed}
use Rattle.nofs_disk.specs.declared.tag.Cell.{Cell}
use Rattle.nofs_disk.specs.Disk.{DiskState, IsSameDisk, KeepsCells, KeepsPast, Rose, StaysButFaults, cell_at}
use Rattle.nofs_disk.specs.Held.{IsWithin}
use Rattle.nofs_mirror.specs.declared.sides.log.Sides.{Sides}
use Rattle.nofs_mirror.specs.declared.sides.choices.MirrorCause.{MirrorCause}
use Rattle.nofs_mirror.specs.declared.sides.choices.MirrorCause.TheVariants.{TooSmall, ReadFault, OutOfMemory}
use Rattle.nofs_mirror.specs.declared.sides.choices.MirrorStart.{MirrorStart}
use Rattle.nofs_mirror.specs.declared.sides.past.MirrorCall.{MirrorCall}
use Rattle.nofs_mirror.specs.declared.sides.past.Effect.{Effect}
use Rattle.nofs_mirror.specs.declared.sides.past.Effect.TheVariants.{Write, Settle, Nothing}
use Rattle.nofs_mirror.specs.declared.sides.past.Span.{Span}
use Rattle.nofs_mirror.specs.Copying.{EndsAtRead, IsPartCopy}
use Rattle.nofs_mirror.specs.Sides.Calls.{counted}

-- a side's part in the last call, or in the opening
abbrev pub last_span : (MirrorCall → Span) → Span → List MirrorCall → Span
last_span side opened [] = opened
last_span side opened (call ∷ past) = side call

-- an image that a side that is in may have left at a moment of its own between two, cut to the blocks of the mirror
pub record LeftBy (leaves : ℕ → List Cell → Type 0) (blocks : ℕ) (is_in : Bool) (from to : ℕ)
    (image : List Cell) : Type 0 where
  pub in_then : IsTrue is_in
  pub at : ℕ
  pub low : from ≤ at
  pub high : at ≤ to
  pub whole : List Cell
  pub left : leaves at whole
  pub first : image ≡ take blocks whole

-- what a side may leave at a moment of the mirror
abbrev pub SideLeft : (MirrorCall → Span) → (ℕ → List Cell → Type 0) → ℕ → Span → List MirrorCall
    → ℕ → ℕ → List Cell → Type 0
SideLeft side leaves blocks opened [] to m image = (m ≡ 0) × LeftBy leaves blocks opened.is_in opened.ended to image
SideLeft side leaves blocks opened (call ∷ past) to m image =
    ((m ≡ 2 * length (call ∷ past)) × LeftBy leaves blocks (side call).is_in (side call).ended to image)
    ⊎ (((m ≡ 2 * length past + 1)
    × LeftBy leaves blocks (last_span side opened past).is_in (side call).began (side call).ended image)
    ⊎ SideLeft side leaves blocks opened past (side call).began m image)

-- the cells at the end of a flush that succeeded on a side that is in after it
abbrev pub flushed_cells : (ℕ → List Cell) → (ℕ → List Cell) → MirrorCall → List Cell
flushed_cells lead other call = if call.lead.is_in then lead call.lead.ended else other call.other.ended

-- what a read gave at a moment at which a flush ended
abbrev pub was_after : (ℕ → List Cell) → (ℕ → List Cell) → ℕ → List MirrorCall → ℕ → List Cell
was_after lead other blocks [] m = []
was_after lead other blocks (call ∷ past) m = if m == 2 * length (call ∷ past)
    then take blocks (flushed_cells lead other call)
    else was_after lead other blocks past m

-- this cell, where the block is there
abbrev pub only_below : ℕ → List Cell → ℕ → List Cell
only_below blocks cells block = if nat_lt block blocks then cell_at cells block ∷ [] else []

-- the cells that may be held after a call
abbrev pub may_step : ℕ → List Cell → (ℕ → List Cell) → Effect → ℕ → List Cell
may_step blocks flushed may (Write block cell) b = if b == block then may b ++ cell.value ∷ [] else may b
may_step blocks flushed may Settle b = only_below blocks flushed b
may_step blocks flushed may Nothing b = may b

-- for each block the cells that it may hold: those of the lead at first
abbrev pub may_after : (ℕ → List Cell) → (ℕ → List Cell) → ℕ → (ℕ → List Cell) → List MirrorCall → ℕ → List Cell
may_after lead other blocks first [] b = if nat_lt b blocks then first b else []
may_after lead other blocks first (call ∷ past) b =
    may_step blocks (flushed_cells lead other call) (may_after lead other blocks first past) call.effect b

-- the present cells, which a side that is in has
abbrev pub now_of : Bool → ℕ → List Cell → List Cell → List Cell
now_of lead_in blocks lead other = take blocks (if lead_in then lead else other)

-- these, where the mirror tells
abbrev pub if_told : {A : Type 0} → Bool → List A → List A
if_told true xs = xs
if_told false xs = []

-- whether the mirror tells: where both sides do
abbrev pub both_tell : DiskState → DiskState → Bool
both_tell lead other = lead.tells && other.tells

-- what contracts see of a mirror
abbrev pub mirror_state : DiskState → DiskState → DiskState → MirrorStart → List MirrorCall → ℕ → ℕ → DiskState
mirror_state lead other first opening past spare faults = record {
  blocks = opening.blocks;
  moment = 2 * length past;
  spare = spare;
  faults = faults;
  tells = both_tell lead other;
  now = if_told (both_tell lead other)
      (now_of (last_span (λ c. c.lead) opening.lead past).is_in opening.blocks lead.now other.now);
  may = λ b. if_told (both_tell lead other) (may_after lead.was other.was opening.blocks first.may past b);
  was = λ m. if_told (both_tell lead other) (was_after lead.was other.was opening.blocks past m);
  left = λ m image. IsTrue (both_tell lead other)
      × (SideLeft (λ c. c.lead) lead.left opening.blocks opening.lead past lead.moment m image ⊎ SideLeft (λ c. c.other)
      other.left opening.blocks opening.other past other.moment m image);
  dirty = [];
  holds_back = false;
}

-- a side that is in holds the mirror's cells, and may hold no cell that the mirror may not
pub record IsMirrorSide (blocks : ℕ) (may : ℕ → List Cell) (cells : List Cell) (side : DiskState) : Type 0 where
  pub now : take blocks side.now ≡ cells
  pub covers : (b : ℕ) (c : Cell) → b < blocks → Contains (side.may b) c → Contains (may b) c

-- what holds of a mirror's cells
pub record IsMirrored (blocks : ℕ) (may : ℕ → List Cell) (now : List Cell) (lead_in other_in : Bool)
    (lead_disk other_disk : DiskState) : Type 0 where
  pub lead : IsTrue lead_in → IsMirrorSide blocks may now lead_disk
  pub other : IsTrue other_in → IsMirrorSide blocks may now other_disk
  pub within : IsWithin may blocks

abbrev pub no_span : Span
no_span = record { began = 0; ended = 0; is_in = false }

abbrev pub no_call : MirrorCall
no_call = record { effect = Nothing; lead = no_span; other = no_span }

-- each call began and ended up to this moment of a side
pub record IsMarkedBySide (side : MirrorCall → Span) (opened : Span) (past : List MirrorCall)
    (moment : ℕ) : Type 0 where
  pub start : opened.ended ≤ moment
  pub begins : (k : ℕ) → k < length past → (side (slice_index_or past k no_call)).began ≤ moment
  pub ends : (k : ℕ) → k < length past → (side (slice_index_or past k no_call)).ended ≤ moment

-- what holds of one side, in or out
pub record IsSide (blocks spare : ℕ) (side : MirrorCall → Span) (opened : Span) (past : List MirrorCall)
    (disk : DiskState) : Type 0 where
  pub fits : blocks ≤ disk.blocks
  pub room : spare ≤ disk.spare
  pub marked : IsMarkedBySide side opened past disk.moment
  pub last : (last_span side opened past).ended ≡ disk.moment

-- what a write or flush does to which sides are in: a side goes out only where its count rose, and none comes back
pub record ChangesSides (old new : Sides) (lead_old lead_new other_old other_new : DiskState)
    (result : Result (Unit {0}) Failed) : Type 0 where
  pub lead : IsTrue old.lead_in → IsTrue new.lead_in ⊎ Rose lead_old.faults lead_new.faults
  pub other : IsTrue old.other_in → IsTrue new.other_in ⊎ Rose other_old.faults other_new.faults
  pub no_lead_back : IsTrue new.lead_in → IsTrue old.lead_in
  pub no_other_back : IsTrue new.other_in → IsTrue old.other_in
  pub some_in : IsTrue (new.lead_in || new.other_in)
  pub lead_failed : OnErr result (IsTrue old.lead_in → Rose lead_old.faults lead_new.faults)
  pub other_failed : OnErr result (IsTrue old.other_in → Rose other_old.faults other_new.faults)
  pub lead_left : OnErr result (new.lead_in ≡ old.lead_in)
  pub one_left : OnErr result (IsTrue new.lead_in → IsFalse new.other_in)

-- the mirror's own count of faults: it rises at a call that failed, and at no other
abbrev pub Counts : ℕ → ℕ → Result (Unit {0}) Failed → Type 0
Counts before after result = OnOk result (after ≡ before) × OnErr result (after ≡ counted before)

-- a read asked each side that is in, where it failed
pub record ReadFails (sides : Sides) (lead_old lead_new other_old other_new : DiskState)
    (result : Result (Unit {0}) Failed) : Type 0 where
  pub lead : OnErr result (IsTrue sides.lead_in → Rose lead_old.faults lead_new.faults)
  pub other : OnErr result (IsTrue sides.other_in → Rose other_old.faults other_new.faults)

-- a side that is in holds the mirror's cells, and what a crash leaves of it is what one may leave of the mirror
pub record SideServes (is_in : Bool) (mirror side : DiskState) : Type 0 where
  pub now : IsTrue is_in → IsTrue mirror.tells → take mirror.blocks side.now ≡ mirror.now
  pub left : IsTrue is_in → IsTrue mirror.tells → (image : List Cell) → side.left side.moment image
      → mirror.left mirror.moment (take mirror.blocks image)

-- what a crash may leave of a side that was in, at each of its moments from one on, it may leave of the mirror at this
-- moment, cut to the mirror's blocks
pub record SideLeaves (was_in : Bool) (from : ℕ) (mirror side : DiskState) (m : ℕ) : Type 0 where
  pub each : IsTrue was_in → IsTrue mirror.tells
      → (at : ℕ) (image : List Cell) → from ≤ at → at ≤ side.moment → side.left at image
      → mirror.left m (take mirror.blocks image)

-- a side that is out is not called
pub record LeavesOut {A B : Type 0} (sides : Sides) (lead_old lead_new : A) (other_old other_new : B) : Type 0 where
  pub lead : IsFalse sides.lead_in → lead_new ≡ lead_old
  pub other : IsFalse sides.other_in → other_new ≡ other_old

-- the cell of a side that is in
abbrev pub IsFrom : Bool → DiskState → ℕ → Cell → Type 0
IsFrom is_in disk block into = IsTrue is_in × (IsTrue disk.tells → into ≡ cell_at disk.now block)

-- a read gives the cell of a side that is in, and changes no side
pub record EitherReads (lead_old lead_new other_old other_new : DiskState) (sides : Sides) (block : ℕ) (into : Cell)
    (result : Result (Unit {0}) Failed)
    : Type 0 where
  pub lead : StaysButFaults lead_old lead_new
  pub other : StaysButFaults other_old other_new
  pub cell : OnOk result (IsFrom sides.lead_in lead_old block into ⊎ IsFrom sides.other_in other_old block into)
  pub fails : ReadFails sides lead_old lead_new other_old other_new result

-- the mirror's content is that of its lead, and the other is in where the copy succeeded
pub record OpensMirror (lead_old other_old lead_new other_new mirror : DiskState) (n : ℕ) (sides : Sides) : Type 0 where
  pub fits : (n ≤ lead_old.blocks) × (n ≤ other_old.blocks)
  pub blocks : mirror.blocks ≡ n
  pub moment : mirror.moment ≡ 0
  pub faults : mirror.faults ≡ 0
  pub tells : mirror.tells ≡ both_tell lead_old other_old
  pub now : IsTrue mirror.tells → mirror.now ≡ take n lead_old.now
  pub may : (b : ℕ) → IsTrue mirror.tells → b < n → mirror.may b ≡ lead_old.may b
  pub lead_in : IsTrue sides.lead_in
  pub other_in : IsTrue sides.other_in ⊎ Rose other_old.faults other_new.faults
  pub lead : StaysButFaults lead_old lead_new
  pub other : IsSameDisk other_old other_new
  pub other_past : KeepsPast other_old other_new
  pub other_cells : IsPartCopy n lead_old other_old other_new

-- what a refused opening leaves, and why it comes
abbrev pub Refuses : MirrorCause → ℕ → DiskState → DiskState → DiskState → DiskState → Type 0
Refuses (TooSmall a b) blocks lead other lead_new other_new = (a ≡ lead.blocks) × (b ≡ other.blocks)
    × ((lead.blocks < blocks) ⊎ (other.blocks < blocks))
Refuses ReadFault blocks lead other lead_new other_new = (blocks ≤ lead.blocks) × (blocks ≤ other.blocks)
    × StaysButFaults lead lead_new × Rose lead.faults lead_new.faults × IsSameDisk other other_new
    × KeepsPast other other_new × EndsAtRead blocks lead other other_new
Refuses OutOfMemory blocks lead other lead_new other_new = (blocks ≤ lead.blocks) × (blocks ≤ other.blocks)
    × IsSameDisk other other_new × KeepsPast other other_new × KeepsCells other other_new

-- a disk is handed back as it was given, where the cause is not one that touches it
abbrev pub LeadBack : {D : Type 0} → MirrorCause → D → D → Type 0
LeadBack (TooSmall a b) given back = back ≡ given
LeadBack ReadFault given back = ⊤
LeadBack OutOfMemory given back = back ≡ given

abbrev pub OtherBack : {D : Type 0} → MirrorCause → D → D → Type 0
OtherBack (TooSmall a b) given back = back ≡ given
OtherBack ReadFault given back = ⊤
OtherBack OutOfMemory given back = ⊤

abbrev pub IsReadFault : MirrorCause → Type 0
IsReadFault (TooSmall a b) = ⊥
IsReadFault ReadFault = ⊤
IsReadFault OutOfMemory = ⊥

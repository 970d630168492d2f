-- The frames of a stream of bytes (docs/FORMAT.md, "Frames").
use Rattle.std.specs.Prelude.{◌≡◌, ℕ, zero, suc, ◌+◌, ◌<◌, ◌≤◌, List, [], ◌∷◌, length, take, drop, ◌&&◌, nat_lt, nat_le}
use Rattle.std.specs.Prelude.{Option, Some, None, if◌then◌else◌}
use Rattle.nofs_disk.specs.Number.{number_at}
use Rattle.nofs_history.specs.declared.machine.steps.Step.{Step}
use Rattle.nofs_wire.specs.declared.frames.split.Front.{Front}
use Rattle.nofs_wire.specs.declared.frames.split.Front.TheVariants as front
use Rattle.nofs_wire.specs.Frames.Requests.{step_of}

-- the length that the first four bytes of a frame spell
abbrev pub length_of : List ℕ → ℕ
length_of bytes = number_at 4 0 bytes

-- what stands in front by the length of its body: a body has 1 to 1,100 bytes
unfoldable pub sized_front : ℕ → ℕ → Front
sized_front size here =
    if nat_le 1 size && nat_le size 1100
    then (if nat_lt here (4 + size) then front.Short (4 + size) else front.Whole size)
    else front.Bad

-- what stands in front of some bytes
unfoldable pub front_of : List ℕ → Front
front_of bytes = if nat_lt (length bytes) 4 then front.Short 4 else sized_front (length_of bytes) (length bytes)

-- so many bytes are here: a whole frame fits in them, and a short one wants more
abbrev pub FitsFront : Front → ℕ → Type 0
FitsFront (front.Whole size) here = 4 + size ≤ here
FitsFront front.Bad here = Unit {0}
FitsFront (front.Short wanted) here = (here < wanted) × (wanted ≤ 1104)

-- this stands in front of some bytes
pub record HasFront (what : Front) (bytes : List ℕ) : Type 0 where
  -- they begin so
  pub is : front_of bytes ≡ what
  -- a whole frame is all here; of a short one less is here than is wanted, and no more is wanted than a frame has
  pub fits : FitsFront what (length bytes)

-- the body of a whole frame in front, and what stands behind that frame
abbrev pub body_of : ℕ → List ℕ → List ℕ
body_of size bytes = take size (drop 4 bytes)

abbrev pub behind : ℕ → List ℕ → List ℕ
behind size bytes = drop (4 + size) bytes

-- the step of a whole frame in front
abbrev pub step_in : Front → List ℕ → Option Step
step_in (front.Whole size) bytes = step_of (body_of size bytes)
step_in front.Bad bytes = None
step_in (front.Short wanted) bytes = None

-- what stands behind what is in front
abbrev pub behind_in : Front → List ℕ → List ℕ
behind_in (front.Whole size) bytes = behind size bytes
behind_in front.Bad bytes = bytes
behind_in (front.Short wanted) bytes = bytes

-- a step before the steps of the bytes behind it
abbrev pub joined : Option Step → List ℕ → List Step × List ℕ → List Step × List ℕ
joined None bytes more = ([], bytes)
joined (Some s) bytes more = (s ∷ more.0, more.1)

-- the steps of at most n whole frames from the front, and what stands behind them
abbrev pub split_in : ℕ → List ℕ → List Step × List ℕ
split_in zero bytes = ([], bytes)
split_in (suc n) bytes = joined (step_in (front_of bytes) bytes) bytes (split_in n (behind_in (front_of bytes) bytes))

-- no more frames than bytes
unfoldable pub split_of : List ℕ → List Step × List ℕ
split_of bytes = split_in (length bytes) bytes

-- the steps of the whole frames from the front, up to the end, to a cut frame or to the first bad one
abbrev pub frames_of : List ℕ → List Step
frames_of bytes = (split_of bytes).0

-- what stands behind these frames
abbrev pub rest_of : List ℕ → List ℕ
rest_of bytes = (split_of bytes).1

-- the frame in front is bad: its length is out of range, or its body is whole and no spelling of a step
abbrev pub IsBadBy : Front → List ℕ → Type 0
IsBadBy (front.Whole size) bytes = step_of (body_of size bytes) ≡ None
IsBadBy front.Bad bytes = Unit {0}
IsBadBy (front.Short wanted) bytes = ⊥

abbrev pub IsBad : List ℕ → Type 0
IsBad bytes = IsBadBy (front_of bytes) bytes

-- the frame in front has begun and isn't whole: its length isn't there, or is in range
abbrev pub IsCutBy : Front → List ℕ → Type 0
IsCutBy (front.Whole size) bytes = ⊥
IsCutBy front.Bad bytes = ⊥
IsCutBy (front.Short wanted) bytes = 0 < length bytes

abbrev pub IsCut : List ℕ → Type 0
IsCut bytes = IsCutBy (front_of bytes) bytes

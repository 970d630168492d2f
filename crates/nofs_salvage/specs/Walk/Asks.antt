-- What a walk asks: of the first two files, and of what it was told itself.
use Rattle.std.specs.Prelude.{◌≡◌, ℕ, ◌<◌, Bool, true, false, List, ◌∷◌, ◌++◌, All, Contains}
use Rattle.nofs_history.specs.Machine.{slots_in, is_refused}
use Rattle.nofs_history.specs.Steps.{Made}
use Rattle.nofs_history.specs.declared.machine.steps.Step.{Step}
use Rattle.nofs_history.specs.declared.machine.steps.Step.TheVariants as step
use Rattle.nofs_history.specs.declared.machine.replies.Reply.TheVariants as reply
use Rattle.nofs_history.specs.declared.machine.replies.NameLine.{NameLine}
use Rattle.nofs_history.specs.declared.machine.replies.Found.{Found}
use Rattle.nofs_history.specs.declared.machine.replies.Stat.{Stat}
use Rattle.nofs_salvage.specs.declared.report.answers.InodeHandle.{InodeHandle}
use Rattle.nofs_salvage.specs.declared.report.answers.SlotState.{SlotState}
use Rattle.nofs_salvage.specs.declared.report.answers.SlotState.TheVariants as got
use Rattle.nofs_salvage.specs.declared.report.answers.NextSlot.{NextSlot}
use Rattle.nofs_salvage.specs.declared.report.answers.NextSlot.TheVariants as listed
use Rattle.nofs_salvage.specs.declared.report.tree.Tree.{Tree}
use Rattle.nofs_salvage.specs.Report.InHand.{handles_in}

-- one of these steps listed directory (d, g), and gave this name as not dead
pub record IsGiven (before : List Made) (d g : ℕ) (name : List ℕ) : Type 0 where
  pub from : ℕ
  pub slot : ℕ
  pub lines : List NameLine
  pub line : NameLine
  pub list : Contains before (step.List d g from, reply.Names slot lines)
  pub has : Contains lines line
  pub live : line.dead ≡ false
  pub is : line.name ≡ name

-- inode i of generation g is the root, the label file, or what one of these steps looked up
pub data IsReached (before : List Made) (i g : ℕ) : Type 0 where
  Root : i ≡ 1 → g ≡ 1 → IsReached before i g
  Label : i ≡ 2 → g ≡ 2 → IsReached before i g
  Looked : (d of : ℕ) (name : List ℕ) (found : Found) → Contains before (step.Look d of name, reply.Found found)
      → found.inode ≡ i → found.generation ≡ g → IsReached before i g

-- a get of (i, g) that was not refused
abbrev pub IsGotten : ℕ → ℕ → Made → Type 0
IsGotten i g (step.Get j of k, r) = (j ≡ i) × (of ≡ g) × (is_refused r ≡ false)
IsGotten i g _ = ⊥

-- slot k lies below the size that a stat of (i, g) told, and since then these steps just got slots of it
pub record IsBelowSize (before : List Made) (i g k : ℕ) : Type 0 where
  pub first : List Made
  pub told : Stat
  pub gets : List Made
  pub steps : before ≡ first ++ (step.Stat i g, reply.Stat told) ∷ gets
  pub gotten : All (IsGotten i g) gets
  pub below : k < slots_in told.size

-- what a walk may ask behind these steps
abbrev pub MayBeAsked : List Made → Step → Type 0
MayBeAsked before (step.Look d g name) = IsGiven before d g name
MayBeAsked before (step.List d g k) = IsReached before d g
MayBeAsked before (step.Stat i g) = IsReached before i g
MayBeAsked before (step.Get i g k) = IsReached before i g × IsBelowSize before i g k
MayBeAsked before _ = ⊥

-- each step that was made from old to new was so asked, behind those before it
pub record Asks (old new : List Made) : Type 0 where
  pub made : List Made
  pub more : new ≡ old ++ made
  pub each : (before after : List Made) (m : Made) → made ≡ before ++ m ∷ after → MayBeAsked before m.0

-- Among the steps from old to now

-- this inode was reached
pub record HasReached (old now : List Made) (at : InodeHandle) : Type 0 where
  pub made : List Made
  pub more : now ≡ old ++ made
  pub met : IsReached made at.inode at.generation

-- where it was, these steps ask on as a walk may
abbrev pub AsksOn : List Made → List Made → InodeHandle → Type 0
AsksOn old new at = (first : List Made) → Asks first old → HasReached first old at → Asks first new

-- this name of a directory was given
pub record HasGiven (old now : List Made) (at : InodeHandle) (name : List ℕ) : Type 0 where
  pub made : List Made
  pub more : now ≡ old ++ made
  pub given : IsGiven made at.inode at.generation name

-- the slots of this file below a size may be got
pub record HasTold (old now : List Made) (at : InodeHandle) (size : ℕ) : Type 0 where
  pub made : List Made
  pub more : now ≡ old ++ made
  pub below : (k : ℕ) → k < slots_in size → IsBelowSize made at.inode at.generation k

-- the lines that aren't dead were given
abbrev pub AreGiven : List Made → List Made → InodeHandle → List NameLine → Type 0
AreGiven old now at lines = All (λ line. line.dead ≡ false → HasGiven old now at line.name) lines

-- the names of a list were
abbrev pub ListGives : List Made → List Made → InodeHandle → NextSlot → Type 0
ListGives old now at (listed.Names l lines) = AreGiven old now at lines
ListGives old now at (listed.LostNames l) = Unit {0}
ListGives old now at listed.NoMore = Unit {0}

-- files have such a slot
abbrev pub has_slot : SlotState → Bool
has_slot got.Kept = true
has_slot got.Lost = true
has_slot got.NoSlot = false

-- all of these directories were
abbrev pub AreReached : List Made → List Made → Tree → Type 0
AreReached old now tree = All (HasReached old now) (handles_in tree)

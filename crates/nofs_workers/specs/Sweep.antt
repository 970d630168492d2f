-- The steps of a sweep over the items of an order.
use Rattle.std.specs.Prelude.{ℕ, ◌≡◌, ◌+◌, ◌^◌, ◌<◌, ◌≤◌, ◌++◌, List, length, get_or, take, map, All, Bool, false}
use Rattle.nofs_history.specs.Callers.{made_step}
use Rattle.nofs_history.specs.Steps.{Made}
use Rattle.nofs_history.specs.declared.machine.steps.ElementKind.{ElementKind}
use Rattle.nofs_history.specs.declared.machine.steps.ElementKind.TheVariants as kind
use Rattle.nofs_history.specs.declared.machine.steps.Step.{Step}
use Rattle.nofs_history.specs.declared.machine.steps.Step.TheVariants as step

-- what contracts see of the evidence of a batch: its kind, its items, and the verdict at each place
pub record Looked : Type 0 where
  pub kind : ElementKind
  pub items : List ℕ
  pub verdict : ℕ → Bool

-- the step that examines an element
abbrev pub see_of : ElementKind → ℕ → Step
see_of kind.Inode item = step.SeeInode item
see_of kind.Block item = step.SeeBlock item

-- the element that an item of an order stands for: inodes are counted from 1, blocks from 0
abbrev pub element_number : ElementKind → ℕ → ℕ
element_number kind.Inode item = item + 1
element_number kind.Block item = item

-- the items can be numbers of such elements
abbrev pub AreInRange : ElementKind → List ℕ → Type 0
AreInRange examined items = examined ≡ kind.Inode → All (λ item. item < 2 ^ 32) items

-- from old to new just the steps that examine these elements were made, in order
pub record Makes (kind : ElementKind) (elements : List ℕ) (old new : List Made) : Type 0 where
  pub made : List Made
  pub more : new ≡ old ++ made
  pub steps : map made_step made ≡ map (see_of kind) elements

-- just the steps that examine the first of these elements were made, and all where none found no memory
pub record MakesFirst (kind : ElementKind) (elements : List ℕ) (out_of_memory : Bool)
    (old new : List Made) : Type 0 where
  pub count : ℕ
  pub at_most : count ≤ length elements
  pub whole : out_of_memory ≡ false → count ≡ length elements
  pub makes : Makes kind (take count elements) old new

-- the element is that of the place of an order
abbrev pub IsOrdered : (ℕ → ℕ → Type 0) → ElementKind → ℕ → ℕ → Type 0
IsOrdered Item kind place element = (item : ℕ) × Item place item × (element ≡ element_number kind item)

-- the elements are those of the places of an order from `place` on
abbrev pub AreOrdered : (ℕ → ℕ → Type 0) → ElementKind → ℕ → List ℕ → Type 0
AreOrdered Item kind place elements = (k : ℕ) → k < length elements
    → IsOrdered Item kind (place + k) (get_or elements k 0)

-- from old to new one step was made for each of `count` places of an order, from `place` on, and for
-- fewer of them where memory was wanting
pub record Sweeps (Item : ℕ → ℕ → Type 0) (kind : ElementKind) (place count : ℕ) (out_of_memory : Bool)
    (old new : List Made) : Type 0 where
  pub elements : List ℕ
  pub at_most : length elements ≤ count
  pub whole : out_of_memory ≡ false → length elements ≡ count
  pub ordered : AreOrdered Item kind place elements
  pub makes : Makes kind elements old new

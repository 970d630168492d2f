-- What a read gave before each entry of a history, and what the machine says of it.
use Rattle.std.specs.Prelude.{◌≡◌, ℕ, ◌+◌, ◌*◌, ◌<◌, true, false, List, [], ◌∷◌, ◌++◌, length, None}
use Rattle.std.specs.Prelude.{Contains}
use Rattle.nofs_disk.specs.Order.{IsTried, image_after}
use Rattle.nofs_disk.specs.declared.tag.Cell.{Cell}
use Rattle.nofs_disk.specs.declared.tag.Pointer.{Pointer}
use Rattle.nofs_model.specs.Geometry.{Image}
use Rattle.nofs_model.specs.Owners.{owner}
use Rattle.nofs_history.specs.Claims.{claimed_blocks}
use Rattle.nofs_history.specs.Good.{MatchesSuper}
use Rattle.nofs_history.specs.History.{FilesMatch}
use Rattle.nofs_history.specs.Machine.{is_write_fault}
use Rattle.nofs_history.specs.Next.{Next}
use Rattle.nofs_history.specs.World.{World}
use Rattle.nofs_history.specs.declared.machine.history.Entry1.{Entry1}
use Rattle.nofs_history.specs.declared.machine.steps.Step.TheVariants as step

-- what a read gives before an entry and after it: the same, but where the step wrote cells, one call of 2 moments each
pub data ReadsAfter (X : Image) (e : Entry1) (Y : Image) : Type 0 where
  NothingWritten : e.to ≡ e.from → Y ≡ X → ReadsAfter X e Y
  OnlyFlushed : (i g : ℕ) → e.step ≡ step.Flush i g → Y ≡ X → ReadsAfter X e Y
  CellsWritten : (calls : List (ℕ × Cell)) → e.to ≡ e.from + 2 * length calls
      → (is_write_fault e.reply ≡ false → Y ≡ image_after calls X)
      → (is_write_fault e.reply ≡ true → IsTried calls X Y) → ReadsAfter X e Y

-- no block that an entry claims has an owner in this image
abbrev pub ClaimsUnowned : Image → Entry1 → Type 0
ClaimsUnowned X e = (x : Pointer) → Contains (claimed_blocks e.claims) x → owner X x.block ≡ None

-- each fault of writing is that of a Flush
abbrev pub OnlyFlushesFailed : List Entry1 → Type 0
OnlyFlushesFailed [] = Unit {0}
OnlyFlushesFailed (e ∷ es) = (is_write_fault e.reply ≡ true → (i : ℕ) × (g : ℕ) × (e.step ≡ step.Flush i g))
    × OnlyFlushesFailed es

-- the machine's world has the numbers, the files and the owners of the image
pub record IsOfImage (W : World) (X : Image) : Type 0 where
  pub numbers : MatchesSuper W X
  pub files : FilesMatch W.files X
  pub homes : (b : ℕ) → b < W.blocks → W.homes b ≡ owner X b

-- what a read gave before an entry, behind those that were done: what it claims had no owner, and all was as the
-- machine's world W says
pub record IsBefore (done : List Entry1) (W : World) (X : Image) (e : Entry1) : Type 0 where
  pub unowned : ClaimsUnowned X e
  pub machine : OnlyFlushesFailed done → IsOfImage W X

-- What a read gave before each of these entries and after the last one, from X to Y, beside the machine's world, which
-- goes from W to V
abbrev pub ImagesAlong : List Entry1 → World → Image → List Entry1 → World → Image → Type 0
ImagesAlong done W X [] V Y = (V ≡ W) × (Y ≡ X)
ImagesAlong done W X (e ∷ es) V Y = IsBefore done W X e × ((U : World) × (Z : Image) × Next W e U × ReadsAfter X e Z
    × ImagesAlong (done ++ e ∷ []) U Z es V Y)

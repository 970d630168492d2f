-- What goes on from moment to moment of a step.
use Rattle.std.specs.Prelude.{◌≡◌, ℕ, ◌⊎◌, Bool, true, false, ◌&&◌, not, List, ◌++◌, length, Option, Some, None}
use Rattle.std.specs.Prelude.{option_to_list, Contains}
use Rattle.nofs_disk.specs.Disk.{Picks, cell_at}
use Rattle.nofs_crashlaw.specs.Images.Reasons.{Fine, Solid, IsMark, ReadsSince, KeepsSure, KeepsPointers}
use Rattle.nofs_crashlaw.specs.Images.Proper.{Proper}
use Rattle.nofs_history.specs.Meta.{Meta, Gone, Is}
use Rattle.nofs_history.specs.Marks.{Mark}
use Rattle.nofs_history.specs.Machine.{Given}
use Rattle.nofs_disk.specs.declared.tag.Cell.{Cell}
use Rattle.nofs_model.specs.Geometry.{Image}
use Rattle.nofs_model.specs.Files.{files_in, agreed}

abbrev pub is_removal : Option Meta → Bool
is_removal None = false
is_removal (Some Gone) = true
is_removal (Some (Is kind size links)) = false

-- the mark, with what the step under way gives
abbrev pub during : Mark → Given → Mark
during L given = record {
  image = L.image;
  stamps = L.stamps;
  since = λ i g k. L.since i g k ++ option_to_list (given.slots i g k);
  metas = λ i g. L.metas i g ++ option_to_list (given.metas i g);
  stands = λ i g. L.stands i g && not (is_removal (given.metas i g));
}

-- each cell that a crash may leave has its reason
abbrev pub AllExplained : Mark → (ℕ → List Cell) → Type 0
AllExplained L may = (b : ℕ) (c : Cell) → Contains (may b) c → Fine L b c × Solid L b c

-- may has nothing but what it had before the step, and proper writes of it
abbrev pub OnlyProper : Mark → Image → (ℕ → List Cell) → (ℕ → List Cell) → Type 0
OnlyProper L X before after = (b : ℕ) (c : Cell) → Contains (after b) c → Contains (before b) c ⊎ Proper L X b c

-- a generation that stands is agreed now
abbrev pub IsTracked : Mark → Image → Type 0
IsTracked L X = (i g : ℕ) → L.stands i g ≡ true → agreed (files_in X) i ≡ true

abbrev pub LawMoment : Type 0
LawMoment = (L : Mark) (given : Given) (X : Image) (before after : ℕ → List Cell) → IsMark L
    → Picks before (length L.image) X → IsTracked L X
    → AllExplained L before → OnlyProper (during L given) X before after
    → IsMark (during L given) × AllExplained (during L given) after

-- what a flush that succeeded leaves
abbrev pub LawFlush : Type 0
LawFlush = (L : Mark) (may : ℕ → List Cell) → IsMark L
    → ((b : ℕ) (c : Cell) → Contains (may b) c → c ≡ cell_at L.image b) → AllExplained L may

-- what each image that picks from explained cells says
pub record Survives (L : Mark) (X : Image) : Type 0 where
  pub reads : ReadsSince L X
  pub keeps : KeepsSure L X
  pub pointers : KeepsPointers L X

abbrev pub LawImages : Type 0
LawImages = (L : Mark) (may : ℕ → List Cell) (X : Image) → IsMark L → AllExplained L may
    → Picks may (length L.image) X → Survives L X

-- Laws of the machine's step: it is total, and but for what is left to choice a function.
use Rattle.std.specs.Prelude.{◌≡◌, ℕ, ◌≤◌, false, List, [], ◌∷◌, length, Some}
use Rattle.nofs_model.specs.declared.image.value.Value.TheVariants.{Bytes}
use Rattle.nofs_history.specs.Machine.{value_of}
use Rattle.nofs_history.specs.Faults.{is_fault}
use Rattle.nofs_history.specs.Steps.{Fits}
use Rattle.nofs_model.specs.Geometry.{Image}
use Rattle.nofs_model.specs.Files.{FileState}
use Rattle.nofs_history.specs.Meta.{Is}
use Rattle.nofs_history.specs.Since.{agreed_files, files_along, accepted_of, accepted_meta_of, last_in}
use Rattle.nofs_history.specs.History.{NoWriteFault}
use Rattle.nofs_history.specs.World.{World}
use Rattle.nofs_history.specs.Next.{Next}
use Rattle.nofs_history.specs.declared.machine.history.Entry1.{Entry1}
use Rattle.nofs_history.specs.declared.machine.steps.Step.{Step}

-- in every world each step can be answered, also where no call of the device fails
abbrev pub LawTotal : Type 0
LawTotal = (W : World) (step : Step) → (e : Entry1) × (V : World) × (e.step ≡ step)
    × (is_fault e.reply ≡ false) × Next W e V

-- the world and the step decide all but claims, faults and what becomes known
abbrev pub LawFunction : Type 0
LawFunction = (W : World) (e f : Entry1) (V U : World) → Next W e V → Next W f U
    → e.step ≡ f.step → e.claims ≡ f.claims → is_fault e.reply ≡ false → is_fault f.reply ≡ false
    → V.known_inodes ≡ U.known_inodes → V.known_blocks ≡ U.known_blocks
    → (e.reply ≡ f.reply) × (V ≡ U)

-- while no write failed, each file is what was accepted last: slot by slot, and in its kind, size and links
abbrev pub LawAccepted : Type 0
LawAccepted = (B : Image) (H : List Entry1) → NoWriteFault H
    → (i : ℕ) (f : FileState) → files_along (agreed_files B) H i ≡ Some f
    → ((k : ℕ) → last_in (accepted_of B H i f.generation k) ≡ f.values k ∷ [])
    × (last_in (accepted_meta_of B H i f.generation) ≡ Is f.kind f.size f.links ∷ [])

-- each slot with bytes has 1,024 of them, and the numbers are those of a disk
pub record IsSizedWorld (W : World) : Type 0 where
  pub blocks : W.blocks ≤ 1048576
  pub inodes : W.inodes ≤ 65536
  pub values : (i k : ℕ) (content : List ℕ) → value_of W.files i k ≡ Bytes content → length content ≡ 1024

-- what the machine answers fits the step
abbrev pub LawFits : Type 0
LawFits = (W : World) (e : Entry1) (V : World) → IsSizedWorld W → Next W e V → Fits e.step e.reply

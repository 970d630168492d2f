-- Instances of the laws of the machine.
use Rattle.std.specs.Prelude.{◌≡◌, [], ◌∷◌, Some}
use Rattle.nofs_model.specs.Files.{FileState}
use Rattle.nofs_history.specs.Since.{agreed_files, files_along}
use Rattle.nofs_history.specs.History.{NoWriteFault}
use Rattle.nofs_history.specs.Next.{Next}
use Rattle.nofs_crashlaw.specs.Machine.Laws.{IsSizedWorld}
use Rattle.nofs_cases.specs.Disks.Images.{first_image}
use Rattle.nofs_cases.specs.Disks.Worlds.{first_world}
use Rattle.nofs_cases.specs.Steps.Maps.{put_entry, put_world}

-- The Put in a world whose contents have their sizes.
abbrev pub FitsCase : Type 0
FitsCase = IsSizedWorld first_world × Next first_world put_entry put_world

-- A history without a write fault, and the label file after it.
abbrev pub AcceptedCase : Type 0
AcceptedCase = NoWriteFault (put_entry ∷ [])
    × (f : FileState) × (files_along (agreed_files first_image) (put_entry ∷ []) 2 ≡ Some f)

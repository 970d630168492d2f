-- A look at several elements of a mount.
use Rattle.std.specs.Prelude.{List, ℕ, All}
use Rattle.nofs_disk.specs.Disk.{DiskState}
use Rattle.nofs_history.specs.declared.machine.replies.Refusal.{Refusal}
use Rattle.nofs_history.specs.declared.machine.replies.Refusal.TheVariants as refusal
use Rattle.nofs_history.specs.declared.machine.steps.ElementKind.{ElementKind}
use Rattle.nofs_scan.specs.Steps.Elements.{HasElement}
use Rattle.nofs_state.specs.declared.books.maps.Books.{Books}
use Rattle.nofs_scan.specs.Steps.Looks.{LookFails}

-- why it was refused: some element is not on the disk, or else as the look itself says
abbrev pub BatchFails : DiskState → Books → DiskState → ElementKind → List ℕ → Refusal → Type 0
BatchFails old k new kind items refusal.BadRange = All (HasElement kind k.at) items → ⊥
BatchFails old k new kind items why = LookFails old k new why

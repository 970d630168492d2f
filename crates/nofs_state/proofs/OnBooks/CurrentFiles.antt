-- A file that is current is agreed.
use Rattle.std.proofs.Common.{◌≡◌, ℕ, true, eqb}
use Rattle.nofs_model.specs.Geometry.{Image, inode}
use Rattle.nofs_model.specs.Files.{files_in, agreed}
use Rattle.nofs_model.proofs.OnSlots.Find.{and-both}
use Rattle.nofs_state.specs.Inodes.Opened.{is_current}

pub current-agreed : (X : Image) (i g : ℕ) → is_current X i g ≡ true → agreed (files_in X) i ≡ true
current-agreed X i g c = (and-both (agreed (files_in X) i) (eqb (inode X i).generation g) c).0

-- When the index of a mount is true, and what it tells of a step.
use Rattle.std.specs.Prelude.{◌≡◌, ℕ, true, false, List}
use Rattle.nofs_disk.specs.Disk.{DiskState}
use Rattle.nofs_dirent.specs.Names.{is_name}
use Rattle.nofs_model.specs.Files.{Files}
use Rattle.nofs_history.specs.Since.{agreed_files, files_along}
use Rattle.nofs_history.specs.declared.machine.replies.Found.{Found}
use Rattle.nofs_history.specs.declared.machine.steps.Step.{Step}
use Rattle.nofs_history.specs.declared.machine.steps.Step.TheVariants as step
use Rattle.nofs_state.specs.declared.books.maps.Books.{Books}
use Rattle.nofs_shared.specs.declared.index.Index.{Index}
use Rattle.nofs_shared.specs.Index.Lines.{AllTrue}
use Rattle.nofs_shared.specs.Index.Names.{Finds}
use Rattle.nofs_shared.specs.Mount.Invariant.{IsSoundDisk}

-- the machine's files, by the base of the mount and its history
abbrev pub files_of : DiskState → Books → Files
files_of d k = files_along (agreed_files (d.was k.history.start)) k.history.entries

-- over a disk that tells and was found sound, while no write has failed: each line is true of them
abbrev pub IsTrueIndex : DiskState → DiskState → Books → Index → Type 0
IsTrueIndex found d k index = IsSoundDisk found → k.stopped ≡ false → AllTrue (files_of d k) index

-- the step is a Look of a name that the index has, which a file can have, and this is the file
pub record IsTold (index : Index) (s : Step) (it : Found) : Type 0 where
  pub directory : ℕ
  pub generation : ℕ
  pub name : List ℕ
  pub is : s ≡ step.Look directory generation name
  pub good : is_name name ≡ true
  pub finds : (F : Files) → AllTrue F index → Finds F directory generation name it

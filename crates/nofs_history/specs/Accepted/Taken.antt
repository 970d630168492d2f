-- What files become by what is given to them.
use Rattle.std.specs.Prelude.{◌≡◌, ℕ, [], ◌∷◌, Option}
use Rattle.nofs_model.specs.Files.{Absent, FileState}
use Rattle.nofs_model.specs.declared.image.value.Value.TheVariants as value
use Rattle.nofs_history.specs.Meta.{Meta}
use Rattle.nofs_history.specs.Machine.{Given, nothing, files_after, link_to}
use Rattle.nofs_inode.specs.declared.inode.FileKind.{FileKind}
use Rattle.nofs_inode.specs.declared.inode.BackLink.{BackLink}
use Rattle.nofs_history.specs.Accepted.Files.{kept_files, kept_files_of}
use Rattle.nofs_history.specs.declared.accepted.files.file.FilesNow.{FilesNow}

-- files have become what is given to them
abbrev pub HasTaken : FilesNow → FilesNow → Given → Type 0
HasTaken old new given = kept_files (kept_files_of new) ≡ kept_files (files_after (kept_files_of old) given)

-- what gives these metas alone
abbrev pub metas_alone : (ℕ → ℕ → Option Meta) → Given
metas_alone metas = record nothing { metas = metas }

-- a file without content, with one back link
abbrev pub made_file : ℕ → FileKind → BackLink → FileState
made_file g kind link = record {
  generation = g;
  kind = kind;
  size = 0;
  links = link ∷ link_to 0 0 0 ∷ link_to 0 0 0 ∷ link_to 0 0 0 ∷ [];
  values = λ k. value.Hole;
  nodes = λ path. Absent;
}

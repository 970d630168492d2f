-- What has been read of the files of a base image.
use Rattle.std.specs.Prelude.{◌≡◌, ℕ, ◌+◌, ◌<◌, List, length, Option, slice_get}
use Rattle.nofs_model.specs.Geometry.{Image}
use Rattle.nofs_model.specs.Slots.{value}
use Rattle.nofs_history.specs.Since.{agreed_files}
use Rattle.nofs_history.specs.Accepted.Files.{file_at, value_at, kept_file, kept_files}
use Rattle.nofs_history.specs.declared.accepted.files.file.ValueNow.{ValueNow}
use Rattle.nofs_history.specs.declared.accepted.files.file.FileNow.{FileNow}

-- the values of the first n slots of an inode
pub record AreValues (X : Image) (i n : ℕ) (values : List ValueNow) : Type 0 where
  pub len : length values ≡ n
  pub each : (k : ℕ) → k < n → value_at (slice_get values k) ≡ value X i k

-- the agreed files among the first n inodes
pub record AreFiles (X : Image) (n : ℕ) (files : List (Option FileNow)) : Type 0 where
  pub len : length files ≡ n
  pub each : (k : ℕ) → k < n → kept_file (file_at (slice_get files k)) ≡ kept_files (agreed_files X) (k + 1)

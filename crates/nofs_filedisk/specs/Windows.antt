-- Windows show what the file holds.
use Rattle.std.specs.Prelude.{◌≡◌, ℕ, ◌*◌, ◌<◌, IsTrue, Some, All, List, length, slice_index_or}
use Rattle.nofs_filedisk.specs.Bytes.{HostFileState, IsPart}
use Rattle.nofs_filedisk.specs.declared.windows.Window.{Window}
use Rattle.nofs_filedisk.specs.declared.windows.Windows.{Windows}

-- a window that has a number shows the bytes from there on
abbrev pub IsShown : List ℕ → Window → Type 0
IsShown bytes window = (n : ℕ) → window.number ≡ Some n → IsPart bytes (69696 * n) window.bytes.items

-- each window does, where the file tells its bytes
abbrev pub ShowsFile : HostFileState → Windows → Type 0
ShowsFile file windows = IsTrue file.tells → All (IsShown file.bytes) windows.windows.items

-- at this place stands a window with this number
pub record HasNumber (windows : List Window) (at number : ℕ) : Type 0 where
  pub inside : at < length windows
  pub has : (d : Window) → (slice_index_or windows at d).number ≡ Some number

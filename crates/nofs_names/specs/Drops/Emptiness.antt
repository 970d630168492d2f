-- Whether a directory has a name of a file.
use Rattle.std.specs.Prelude.{◌≡◌, ℕ, ◌<◌, Bool, true, false, List, Option, Some, None, is_some, IsTrue, Result, IfOk}
use Rattle.std.specs.Prelude.{OnOk, OnErr}
use Rattle.nofs_dirent.specs.Entries.{entry_limit, entry_in}
use Rattle.nofs_disk.specs.declared.Failed.{Failed}
use Rattle.nofs_disk.specs.Disk.{DiskState, StaysButFaults, Rose}
use Rattle.nofs_inode.specs.declared.inode.BackLink.{BackLink}
use Rattle.nofs_model.specs.Geometry.{Image, inode}
use Rattle.nofs_model.specs.Files.{Files}
use Rattle.nofs_history.specs.Machine.{is_paired}
use Rattle.nofs_history.specs.History.{FilesMatch}
use Rattle.nofs_agree.specs.Reads.{IsLast}
use Rattle.nofs_agree.specs.declared.reads.LastRead.{LastRead}
use Rattle.nofs_names.specs.Searches.Slots.{named_in, paired_kind}
use Rattle.nofs_names.specs.Searches.Refusals.{IsThere}
use Rattle.nofs_names.specs.declared.searches.entries.Named.{Named}

-- whether what an entry names is its other half
abbrev pub pair_in : Image → BackLink → Option Named → Bool
pair_in X link None = false
pair_in X link (Some named) = is_some (paired_kind (inode X named.inode) named link)

pub record TellsPair (old new : DiskState) (link : BackLink) (payload : List ℕ) (place : ℕ) (last : LastRead)
    (result : Result Bool Failed) : Type 0 where
  pub stays : StaysButFaults old new
  pub no_fault : OnOk result (new.faults ≡ old.faults)
  pub found : IfOk result (λ b. IsTrue old.tells → b ≡ pair_in old.now link (named_in (entry_in payload place)))
  pub kept : OnOk result (IsLast new last)
  pub cause : OnErr result (Rose old.faults new.faults)

-- no entry below this one is a pair
abbrev pub NoPairs : Files → ℕ → ℕ → Type 0
NoPairs F d n = (place : ℕ) → place < n → is_paired F d place ≡ false

-- some entry is, or none below this one
abbrev pub NamesAre : Files → ℕ → ℕ → Bool → Type 0
NamesAre F d n true = (place : ℕ) × (place < entry_limit) × (is_paired F d place ≡ true)
NamesAre F d n false = NoPairs F d n

pub record NamesOn (old new : DiskState) (d n m : ℕ) (last : LastRead) (result : Result Bool Failed) : Type 0 where
  pub stays : StaysButFaults old new
  pub no_fault : OnOk result (new.faults ≡ old.faults)
  pub names : IfOk result (λ b. IsTrue old.tells → IsThere d old.now → (F : Files) → FilesMatch F old.now
      → NoPairs F d n → NamesAre F d m b)
  pub kept : OnOk result (IsLast new last)
  pub cause : OnErr result (Rose old.faults new.faults)

-- Whether an inode keeps a name.
use Rattle.std.specs.Prelude.{◌≡◌, ℕ, Bool, ◌||◌, List, IsTrue, Result, IfOk, OnOk, OnErr, Option}
use Rattle.std.specs.List.{list_any}
use Rattle.nofs_disk.specs.declared.Failed.{Failed}
use Rattle.nofs_disk.specs.Disk.{DiskState, StaysButFaults, Rose}
use Rattle.nofs_inode.specs.declared.inode.BackLink.{BackLink}
use Rattle.nofs_model.specs.Files.{files_in, is_special}
use Rattle.nofs_agree.specs.Chain.{AreTrue, is_agreed_link}
use Rattle.nofs_agree.specs.Reads.{IsLast}
use Rattle.nofs_agree.specs.declared.reads.LastRead.{LastRead}

pub record TellsKept (old new : DiskState) (known : List (Option Bool)) (i : ℕ) (links : List BackLink)
    (last : LastRead) (result : Result Bool Failed)
    : Type 0 where
  pub stays : StaysButFaults old new
  pub no_fault : OnOk result (new.faults ≡ old.faults)
  pub found : IfOk result (λ b. IsTrue old.tells → AreTrue old.now known
      → b ≡ (is_special i || list_any (is_agreed_link (files_in old.now) i) links))
  pub kept : OnOk result (IsLast new last)
  pub cause : OnErr result (Rose old.faults new.faults)

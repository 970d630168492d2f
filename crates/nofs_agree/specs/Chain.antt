-- What the check of a chain answers, over any disk.
use Rattle.std.specs.Prelude.{◌≡◌, ◌⊎◌, ℕ, ◌-◌, ◌<◌, ◌≤◌, Bool, false, ◌&&◌, not, IsTrue, List, length, get_or, nat_le}
use Rattle.std.specs.Prelude.{Option, Some, None, is_some, if◌then◌else◌, Result, IfOk, IfSome, IsNone, OnOk, OnErr}
use Rattle.std.specs.List.{position_or_len}
use Rattle.nofs_disk.specs.declared.Failed.{Failed}
use Rattle.nofs_disk.specs.Disk.{DiskState, StaysButFaults, Rose}
use Rattle.nofs_inode.specs.declared.inode.FileKind.TheVariants as kind
use Rattle.nofs_inode.specs.declared.inode.BackLink.{BackLink}
use Rattle.nofs_inode.specs.declared.inode.Record.{Record}
use Rattle.nofs_super.specs.declared.superblock.SuperBlock.{SuperBlock}
use Rattle.nofs_inode.specs.InodeRecords.{is_empty_link, no_link}
use Rattle.nofs_model.specs.Files.{Files, agreed, files_in, has_agreed_link, is_pair}
use Rattle.nofs_model.specs.Geometry.{Image}
use Rattle.nofs_agree.specs.Reads.{IsLast, KnowsDirectory}
use Rattle.nofs_agree.specs.declared.chain.Directory.{Directory}
use Rattle.nofs_agree.specs.declared.reads.LastRead.{LastRead}

-- what is known of an inode, whose place is the one before its number: whether it is agreed. Past the end nothing is
-- known
abbrev pub known_agreement : List (Option Bool) → ℕ → Option Bool
known_agreement known i = if nat_le 1 i then get_or known (i - 1) None else None

-- what is known is true of the image
abbrev pub AreTrue : Image → List (Option Bool) → Type 0
AreTrue X known = (i : ℕ) → IfSome (known_agreement known i) (λ a. agreed (files_in X) i ≡ a)

-- more is known than before, and it is true where what was known is
pub record LearnsAgreement (d : DiskState) (old new : List (Option Bool)) : Type 0 where
  pub len : length new ≡ length old
  pub still : IsTrue d.tells → AreTrue d.now old → AreTrue d.now new

-- the first back link that isn't empty, or an empty one
abbrev pub first_link : List BackLink → BackLink
first_link links = get_or links (position_or_len (λ link. not (is_empty_link link)) links) no_link

-- a back link is a pair with an agreed directory
abbrev pub is_agreed_link : Files → ℕ → BackLink → Bool
is_agreed_link F i link = is_pair F i link && agreed F link.directory

-- the answer is this one of the image, where the disk tells
pub record TellsAnswer (old new : DiskState) (answer : Image → Bool) (last : LastRead)
    (result : Result Bool Failed) : Type 0 where
  pub stays : StaysButFaults old new
  pub found : IfOk result (λ a. IsTrue old.tells → a ≡ answer old.now)
  pub kept : OnOk result (IsLast new last)
  pub cause : OnErr result (Rose old.faults new.faults)
  pub no_fault : OnOk result (new.faults ≡ old.faults)

-- so it is where what is known is true
pub record TellsAgreed (old new : DiskState) (known : List (Option Bool)) (answer : Image → Bool) (last : LastRead)
    (result : Result Bool Failed) : Type 0 where
  pub stays : StaysButFaults old new
  pub found : IfOk result (λ a. IsTrue old.tells → AreTrue old.now known → a ≡ answer old.now)
  pub kept : OnOk result (IsLast new last)
  pub cause : OnErr result (Rose old.faults new.faults)
  pub no_fault : OnOk result (new.faults ≡ old.faults)

-- the record of a directory that may name an inode with this record
pub record IsPartner (d : DiskState) (at : SuperBlock) (it : Record) (link : BackLink) (r : Record) : Type 0 where
  pub directory : KnowsDirectory d at link.directory link.generation r
  pub older : it.kind ≡ Some kind.Directory → link.generation < it.generation

-- the record of the directory to which a back link leads, where the link is a pair
pub record ReadsPair (old new : DiskState) (at : SuperBlock) (i : ℕ) (it : Record) (link : BackLink) (last : LastRead)
    (result : Result (Option Record) Failed) : Type 0 where
  pub stays : StaysButFaults old new
  pub pair : IfOk result (λ found. IsTrue old.tells → is_some found ≡ is_pair (files_in old.now) i link)
  pub directory : IfOk result (λ found. IfSome found (IsPartner new at it link))
  pub kept : OnOk result (IsLast new last)
  pub cause : OnErr result (Rose old.faults new.faults)
  pub no_fault : OnOk result (new.faults ≡ old.faults)

-- a directory above this one: it is older, and agreed exactly where this one has an agreed back link
pub record IsDirectoryAbove (old new : DiskState) (at : SuperBlock) (it parent : Directory) : Type 0 where
  pub known : KnowsDirectory new at parent.inode parent.record.generation parent.record
  pub older : parent.record.generation < it.record.generation
  pub same : IsTrue old.tells → has_agreed_link (files_in old.now) it.inode ≡ agreed (files_in old.now) parent.inode

-- the directory that names this one, where there is one
pub record ReadsParent (old new : DiskState) (at : SuperBlock) (it : Directory) (last : LastRead)
    (result : Result (Option Directory) Failed) : Type 0 where
  pub stays : StaysButFaults old new
  pub parent : IfOk result (λ found. IfSome found (IsDirectoryAbove old new at it))
  pub none : IfOk result
      (λ found. IsTrue old.tells → IsNone found → has_agreed_link (files_in old.now) it.inode ≡ false)
  pub kept : OnOk result (IsLast new last)
  pub cause : OnErr result (Rose old.faults new.faults)
  pub no_fault : OnOk result (new.faults ≡ old.faults)

-- so it is of one inode: what is known of the others was known before
pub record LearnsOne (old new : List (Option Bool)) (i : ℕ) (agreed : Bool) : Type 0 where
  pub len : length new ≡ length old
  pub here : 1 ≤ i → i ≤ length old → known_agreement new i ≡ Some agreed
  pub each : (j : ℕ) (a : Bool) → known_agreement new j ≡ Some a
      → ((j ≡ i) × (a ≡ agreed)) ⊎ (known_agreement old j ≡ Some a)

-- the way up from a directory was walked: what is known after it is true where what was known before is
pub record LearnsChain (old new : DiskState) (known more : List (Option Bool)) (last : LastRead)
    (result : Result (Unit {0}) Failed) : Type 0 where
  pub stays : StaysButFaults old new
  pub learns : LearnsAgreement old known more
  pub kept : OnOk result (IsLast new last)
  pub cause : OnErr result (Rose old.faults new.faults)
  pub no_fault : OnOk result (new.faults ≡ old.faults)

-- so were all ways up from an inode
pub record LearnsAbove (old new : DiskState) (known more : List (Option Bool))
    (result : Result (Unit {0}) Failed) : Type 0 where
  pub stays : StaysButFaults old new
  pub learns : LearnsAgreement old known more
  pub cause : OnErr result (Rose old.faults new.faults)
  pub no_fault : OnOk result (new.faults ≡ old.faults)

-- What a look at elements finds.
use Rattle.std.specs.Prelude.{◌≡◌, ◌≤◌, ℕ, Bool, true, List, length, Option, All, IsTrue, map}
use Rattle.std.specs.Prelude.{Result, IfOk, IfErr, OnOk}
use Rattle.nofs_disk.specs.declared.Failed.{Failed}
use Rattle.nofs_disk.specs.Disk.{DiskState, StaysButFaults, Rose}
use Rattle.nofs_super.specs.declared.superblock.SuperBlock.{SuperBlock}
use Rattle.nofs_history.specs.declared.machine.steps.ElementKind.{ElementKind}
use Rattle.nofs_history.specs.declared.machine.replies.Refusal.{Refusal}
use Rattle.nofs_history.specs.declared.machine.replies.Refusal.TheVariants as refusal
use Rattle.nofs_state.specs.Books.Agreement.{with_agreement}
use Rattle.nofs_state.specs.declared.books.maps.Books.{Books}
use Rattle.nofs_agree.specs.Chain.{AreTrue, LearnsAgreement}
use Rattle.nofs_scan.specs.Steps.Elements.{HasElement, IsScanVerdict, items_of}
use Rattle.nofs_scan.specs.Sights.Reads.{Sees}
use Rattle.nofs_scan.specs.Sights.Verdicts.{item_of, sight_in, verdict_by}
use Rattle.nofs_scan.specs.declared.sights.sights.Sight.{Sight}

-- one element: what was read of it is what the disk has, where it tells, and its verdict is right
pub record LooksAt (old : DiskState) (at : SuperBlock) (known more : List (Option Bool)) (new : DiskState)
    (kind : ElementKind) (item : ℕ)
    (result : Result Sight Failed) : Type 0 where
  pub sees : Sees old new known more (λ X. sight_in kind X item) result
  pub number : IfOk result (λ s. item_of s ≡ item)
  pub right : IfOk result (λ s. IsScanVerdict old at known kind (verdict_by s))

-- 1 to 64 elements of the disk
pub record IsBatch (kind : ElementKind) (at : SuperBlock) (items : List ℕ) : Type 0 where
  pub some : 1 ≤ length items
  pub most : length items ≤ 64
  pub range : All (HasElement kind at) items

-- a look changes nothing but the device's count of faults, and what is known of inodes
pub record OnlyLearns (old : DiskState) (k : Books) (new : DiskState) (l : Books) : Type 0 where
  pub books : l ≡ with_agreement k l.agreement
  pub learns : LearnsAgreement old k.agreement l.agreement
  pub stays : StaysButFaults old new

-- why a look is refused. A refusal but ReadFault leaves the device's count of faults
abbrev pub LookFails : DiskState → Books → DiskState → Refusal → Type 0
LookFails old k new refusal.Stopped = (k.stopped ≡ true) × (new.faults ≡ old.faults)
LookFails old k new refusal.ReadFault = Rose old.faults new.faults
LookFails old k new refusal.OutOfMemory = new.faults ≡ old.faults
LookFails old k new _ = ⊥

-- why looking at several ends early
abbrev pub LooksFail : DiskState → DiskState → Refusal → Type 0
LooksFail old new refusal.ReadFault = Rose old.faults new.faults
LooksFail old new refusal.OutOfMemory = new.faults ≡ old.faults
LooksFail old new _ = ⊥

-- these elements
pub record LooksAll (old : DiskState) (at : SuperBlock) (known more : List (Option Bool)) (new : DiskState)
    (kind : ElementKind) (asked : List ℕ)
    (result : Result (List Sight) Refusal) : Type 0 where
  pub stays : StaysButFaults old new
  pub learns : LearnsAgreement old known more
  pub sees : IfOk result (λ ss. IsTrue old.tells → AreTrue old.now known → ss ≡ map (sight_in kind old.now) asked)
  pub items : IfOk result (λ ss. items_of (map verdict_by ss) ≡ asked)
  pub right : IfOk result (λ ss. All (IsScanVerdict old at known kind) (map verdict_by ss))
  pub no_fault : OnOk result (new.faults ≡ old.faults)
  pub refused : IfErr result (LooksFail old new)

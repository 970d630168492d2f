-- One read after another.
use Rattle.std.proofs.Common.{◌≡◌, ℕ, Bool, false, List, Option, None, Result, Ok, Err, IsTrue, refl, sym, ap, ◌∙◌}
use Rattle.std.proofs.Common.{le_refl, subst}
use Rattle.nofs_disk.specs.Disk.{DiskState, StaysButFaults, Rose}
use Rattle.nofs_disk.specs.Chains.{Rose-within, StaysButFaults-trans}
use Rattle.nofs_disk.specs.declared.Failed.{Failed}
use Rattle.nofs_inode.specs.InodeRecords.{free_record}
use Rattle.nofs_inode.specs.declared.inode.BackLink.{BackLink}
use Rattle.nofs_inode.specs.declared.inode.Record.{Record}
use Rattle.nofs_model.specs.Geometry.{Image, inode}
use Rattle.nofs_model.specs.Files.{agreed, files_in}
use Rattle.nofs_agree.specs.Chain.{AreTrue, LearnsAgreement}
use Rattle.nofs_agree.proofs.OnChain.{told-on}
use Rattle.nofs_agree.proofs.OnKnown.{learns-more, learns-none}
use Rattle.nofs_state.proofs.OnInodes.Opened.{IsLast-on}
use Rattle.nofs_scan.specs.Sights.Reads.{AreLast, KeepsRecord, ReadsAnswer, Sees}
use Rattle.nofs_scan.specs.Sights.Verdicts.{entry_linked}
use Rattle.nofs_scan.specs.declared.sights.last_reads.LastReads.{LastReads}

-- what a disk has after it stayed it had before
same-on : {T : Type 0} (old mid : DiskState) (f : Image → T) → StaysButFaults old mid → f mid.now ≡ f old.now
same-on old mid f s = ap f s.cells.now

-- so the cells that were kept are those of their blocks still
pub AreLast-on : (old new : DiskState) (reads : LastReads) → StaysButFaults old new → AreLast old reads
    → AreLast new reads
AreLast-on old new reads s last = record {
  own = IsLast-on old new reads.own s last.own;
  table = IsLast-on old new reads.table s last.table;
  in_table = λ tells. last.in_table (subst (λ (b : Bool). IsTrue b) s.disk.tells tells)
      ∙ sym (same-on old new (λ X. inode X reads.inode) s);
  upper = IsLast-on old new reads.upper s last.upper;
  lower = IsLast-on old new reads.lower s last.lower;
}

-- no inode has the number 0
inode-none : (X : Image) → free_record ≡ inode X 0
unfolding inode
inode-none X = refl

-- so it is not agreed
pub none-agreed : (X : Image) → false ≡ agreed (files_in X) 0
unfolding agreed inode
none-agreed X = refl

-- and a back link to it leads to no entry
pub none-linked : (X : Image) (l : BackLink) → l.directory ≡ 0 → None ≡ entry_linked (files_in X) l
unfolding inode
none-linked X l e = rw e refl

-- nothing was read yet
pub AreLast-none : (d : DiskState) (none : LastReads) → none.own.block ≡ None → none.table.block ≡ None
    → none.upper.block ≡ None → none.lower.block ≡ None → none.inode ≡ 0 → none.in_table ≡ free_record
    → AreLast d none
AreLast-none d none own table upper lower number free = record {
  own = λ tells. rw own tt;
  table = λ tells. rw table tt;
  in_table = λ tells. rw (number, free) (inode-none d.now);
  upper = λ tells. rw upper tt;
  lower = λ tells. rw lower tt;
}

pub failed-on : (old mid new : DiskState) → StaysButFaults old mid → Rose mid.faults new.faults
    → Rose old.faults new.faults
failed-on old mid new s r = Rose-within old.faults mid.faults new.faults new.faults s.disk.faults r (le_refl new.faults)

-- what is computed from the record of an inode
pub reads-record : {T : Type 0} (old new : DiskState) (i : ℕ) (reads : LastReads) (f : Record → T) (a : T)
    → KeepsRecord old new i reads (Ok tt) → a ≡ f reads.in_table
    → ReadsAnswer old new (λ X. f (inode X i)) (Ok a)
reads-record old new i reads f a r e =
    record { stays = r.stays; found = λ tells. e ∙ ap f (r.found tells); cause = tt; no_fault = r.no_fault }

pub reads-sees : {T : Type 0} (old new : DiskState) (known : List (Option Bool)) (f : Image → T)
    (result : Result T Failed) → ReadsAnswer old new f result
    → Sees old new known known f result
reads-sees old new known f (Ok a) r =
    record {
      stays = r.stays;
      learns = learns-none old known;
      found = λ tells agreed. r.found tells;
      cause = tt;
      no_fault = r.no_fault;
    }
reads-sees old new known f (Err e) r =
    record { stays = r.stays; learns = learns-none old known; found = tt; cause = r.cause; no_fault = tt }

-- whether an inode is agreed, as the check of its chain learns it
pub agreed-sees : (old new : DiskState) (known more : List (Option Bool)) (i : ℕ) (a : Bool) → StaysButFaults old new
    → LearnsAgreement old known more
    → (IsTrue old.tells → AreTrue old.now known → a ≡ agreed (files_in old.now) i) → new.faults ≡ old.faults
    → Sees old new known more (λ X. agreed (files_in X) i) (Ok a)
agreed-sees old new known more i a stays learns found quiet =
    record { stays = stays; learns = learns; found = found; cause = tt; no_fault = quiet }

pub agreed-fails : (old new : DiskState) (known more : List (Option Bool)) (i : ℕ) (e : Failed) → StaysButFaults old new
    → LearnsAgreement old known more
    → Rose old.faults new.faults → Sees old new known more (λ X. agreed (files_in X) i) (Err e)
agreed-fails old new known more i e stays learns rose =
    record { stays = stays; learns = learns; found = tt; cause = rose; no_fault = tt }

-- the first read failed
pub reads-none : {A C : Type 0} (old mid : DiskState) (f : Image → A) (whole : Image → C) (e : Failed)
    → ReadsAnswer old mid f (Err e)
    → ReadsAnswer old mid whole (Err e)
reads-none old mid f whole e r = record { stays = r.stays; found = tt; cause = r.cause; no_fault = tt }

pub sees-none : {A C : Type 0} (old mid : DiskState) (known more : List (Option Bool)) (f : Image → A)
    (whole : Image → C) (e : Failed)
    → Sees old mid known more f (Err e) → Sees old mid known more whole (Err e)
sees-none old mid known more f whole e r =
    record { stays = r.stays; learns = r.learns; found = tt; cause = r.cause; no_fault = tt }

module _ {A B C : Type 0} (old mid new : DiskState) (f : Image → A) (g : A → Image → B) (h : A → B → C)
    (whole : Image → C) (a : A) where
  -- the second one did
  pub reads-half : (e : Failed) → ReadsAnswer old mid f (Ok a) → ReadsAnswer mid new (g a) (Err e)
      → ReadsAnswer old new whole (Err e)
  reads-half e r q = record {
    stays = StaysButFaults-trans old mid new r.stays q.stays;
    found = tt;
    cause = failed-on old mid new r.stays q.cause;
    no_fault = tt;
  }

  pub sees-half : (known more most : List (Option Bool)) (e : Failed) → Sees old mid known more f (Ok a)
      → Sees mid new more most (g a) (Err e)
      → Sees old new known most whole (Err e)
  sees-half known more most e r q = record {
    stays = StaysButFaults-trans old mid new r.stays q.stays;
    learns = learns-more old mid known more most r.stays r.learns q.learns;
    found = tt;
    cause = failed-on old mid new r.stays q.cause;
    no_fault = tt;
  }

  -- both found what they read
  pub reads-both : (b : B) → ReadsAnswer old mid f (Ok a) → ReadsAnswer mid new (g a) (Ok b)
      → ((X : Image) → h (f X) (g (f X) X) ≡ whole X)
      → ReadsAnswer old new whole (Ok (h a b))
  reads-both b r q is = record {
    stays = StaysButFaults-trans old mid new r.stays q.stays;
    found = λ tells.
        let first = r.found tells in
        let second : b ≡ g a old.now = q.found (told-on old mid r.stays tells) ∙ same-on old mid (g a) r.stays in
        (λ j. h (first j) ((second ∙ ap (λ (x : A). g x old.now) first) j)) ∙ is old.now;
    cause = tt;
    no_fault = q.no_fault ∙ r.no_fault;
  }

  pub sees-both : (known more most : List (Option Bool)) (b : B) → Sees old mid known more f (Ok a)
      → Sees mid new more most (g a) (Ok b)
      → ((X : Image) → h (f X) (g (f X) X) ≡ whole X)
      → Sees old new known most whole (Ok (h a b))
  sees-both known more most b r q is = record {
    stays = StaysButFaults-trans old mid new r.stays q.stays;
    learns = learns-more old mid known more most r.stays r.learns q.learns;
    found = λ tells agreed.
        let first = r.found tells agreed in
        let now : AreTrue mid.now more =
        subst (λ (X : Image). AreTrue X more) (sym r.stays.cells.now) (r.learns.still tells agreed) in
        let second : b ≡ g a old.now = q.found (told-on old mid r.stays tells) now ∙ same-on old mid (g a) r.stays in
        (λ j. h (first j) ((second ∙ ap (λ (x : A). g x old.now) first) j)) ∙ is old.now;
    cause = tt;
    no_fault = q.no_fault ∙ r.no_fault;
  }

-- Opening a file that is agreed.
use Rattle.std.proofs.Common.{◌≡◌, ℕ, Bool, true, false, Some, None, IsTrue, IfOk, IfErr, IfSome, Result, Ok, Err, refl}
use Rattle.std.proofs.Common.{sym, ap, ◌∙◌, subst, eq-eqb}
use Rattle.nofs_disk.specs.Disk.{DiskState, StaysButFaults, cell_at}
use Rattle.nofs_disk.specs.Chains.{StaysButFaults-trans}
use Rattle.nofs_inode.specs.declared.inode.Record.{Record}
use Rattle.nofs_inode.specs.InodeRecords.{is_live}
use Rattle.nofs_model.specs.Geometry.{Image, inode}
use Rattle.nofs_model.specs.Files.{files_in, agreed}
use Rattle.nofs_agree.specs.Reads.{IsLast, KnowsInode}
use Rattle.nofs_agree.specs.Chain.{AreTrue}
use Rattle.nofs_agree.specs.declared.reads.LastRead.{LastRead}
use Rattle.nofs_agree.proofs.OnChain.{KnowsInode-on, told-on, record-of}
use Rattle.nofs_history.specs.declared.machine.replies.Refusal.{Refusal}
use Rattle.nofs_history.specs.declared.machine.replies.Refusal.TheVariants as refusal
use Rattle.nofs_state.specs.Inodes.Opened.{Opens, OpenFails, is_current}
use Rattle.nofs_state.specs.declared.books.maps.Books.{Books}
use Rattle.nofs_state.specs.declared.inodes.opened.Opened.{Opened}
use Rattle.nofs_state.proofs.OnBooks.Machine.{agreed-live}

pub IsLast-on : (old new : DiskState) (last : LastRead) → StaysButFaults old new → IsLast old last → IsLast new last
IsLast-on old new last s is tells =
    subst (λ (X : Image). IfSome last.block (λ block. last.cell ≡ cell_at X block)) (sym s.cells.now)
    (is (subst (λ (b : Bool). IsTrue b) s.disk.tells tells))

same-current : (X : Image) (i g : ℕ)
    → agreed (files_in X) i ≡ true → (inode X i).generation ≡ g → is_current X i g ≡ true
same-current X i g a e = rw (a, eq-eqb (inode X i).generation g e) refl

dead : (X : Image) (i : ℕ) → agreed (files_in X) i ≡ true → (inode X i).kind ≡ None → ⊥
dead X i a e = let l = agreed-live X i a in let z : is_live (inode X i) ≡ false = rw e refl in cc (l, z)

pub opened : (old mid new : DiskState) (k : Books) (i g : ℕ) (r : Record) (last : LastRead)
    (res : Result Opened Refusal) → StaysButFaults old mid
    → StaysButFaults mid new → KnowsInode mid k.at i r → IsLast mid last → r.generation ≡ g
    → IfOk res (λ it. (it.found ≡ r) × (r.kind ≡ Some it.kind))
    → IfErr res (λ why. (why ≡ refusal.Stale) × (r.kind ≡ None))
    → (IsTrue mid.tells → AreTrue mid.now k.agreement → true ≡ agreed (files_in mid.now) i)
    → new.faults ≡ old.faults
    → Opens old new k i g last res
opened old mid new k i g r last res a b knows kept gen ok err agrees quiet = by-result res ok err
  where
    agreed-old : IsTrue old.tells → AreTrue old.now k.agreement → agreed (files_in old.now) i ≡ true
    agreed-old t all = sym (subst (λ (X : Image). true ≡ agreed (files_in X) i) a.cells.now
        (agrees (told-on old mid a t) (subst (λ (X : Image). AreTrue X k.agreement) (sym a.cells.now) all)))

    by-result : (q : Result Opened Refusal) → IfOk q (λ it. (it.found ≡ r) × (r.kind ≡ Some it.kind))
        → IfErr q (λ why. (why ≡ refusal.Stale) × (r.kind ≡ None)) → Opens old new k i g last q
    by-result (Ok it) ok err = record {
      stays = StaysButFaults-trans old mid new a b;
      known = record {
        known = subst (λ (q : Record). KnowsInode new k.at i q) (sym ok.0) (KnowsInode-on mid new k.at i r b knows);
        kind = subst (λ (q : Record). q.kind ≡ Some it.kind) (sym ok.0) ok.1;
        generation = subst (λ (q : Record). q.generation ≡ g) (sym ok.0) gen;
      };
      current = λ t all. same-current old.now i g (agreed-old t all)
          (ap (λ (q : Record). q.generation) (record-of old mid k.at i r a knows t) ∙ gen);
      kept = IsLast-on mid new last b kept;
      no_fault = λ e. quiet;
      refused = tt;
    }
    by-result (Err why) ok err = record {
      stays = StaysButFaults-trans old mid new a b;
      known = tt;
      current = tt;
      kept = tt;
      no_fault = λ e. quiet;
      refused = subst (λ (w : Refusal). OpenFails old new k i g w) (sym err.0)
          (λ t all. absurd (dead old.now i (agreed-old t all)
          (ap (λ (q : Record). q.kind) (record-of old mid k.at i r a knows t) ∙ err.1)));
    }

-- an inode that is not agreed is no file
pub opened-not : (old mid new : DiskState) (k : Books) (i g : ℕ) (last : LastRead) (b : Bool) → StaysButFaults old mid
    → StaysButFaults mid new → b ≡ false
    → (IsTrue mid.tells → AreTrue mid.now k.agreement → b ≡ agreed (files_in mid.now) i)
    → new.faults ≡ old.faults
    → Opens old new k i g last (Err refusal.Stale)
opened-not old mid new k i g last b a c fails agrees quiet = record {
  stays = StaysButFaults-trans old mid new a c;
  known = tt;
  current = tt;
  kept = tt;
  no_fault = λ e. quiet;
  refused = λ t all.
      let is : agreed (files_in old.now) i ≡ false =
      sym (subst (λ (X : Image). b ≡ agreed (files_in X) i) a.cells.now
      (agrees (told-on old mid a t) (subst (λ (X : Image). AreTrue X k.agreement) (sym a.cells.now) all))) ∙ fails in
      rw is refl;
}

-- The owner of a block is found by its tag.
use Rattle.std.proofs.Common.{◌≡◌, ℕ, Bool, false, List, Option, Some, None, is_some, IsTrue, Result, Ok, Err, IfOk}
use Rattle.std.proofs.Common.{OnErr, OnOk, sym, ap, ◌∙◌, subst, le_refl}
use Rattle.nofs_disk.specs.Disk.{DiskState, Rose, cell_at}
use Rattle.nofs_disk.specs.Chains.{Rose-within, StaysButFaults-trans}
use Rattle.nofs_disk.specs.declared.Failed.{Failed}
use Rattle.nofs_disk.specs.declared.tag.Cell.{Cell}
use Rattle.nofs_disk.specs.declared.tag.Tag.{Tag}
use Rattle.nofs_disk.specs.Tag.{tag_of}
use Rattle.nofs_model.specs.Geometry.{Image}
use Rattle.nofs_model.specs.Owners.{owner, owner_by}
use Rattle.nofs_agree.specs.Chain.{AreTrue}
use Rattle.nofs_agree.specs.Reads.{ReadsBlock}
use Rattle.nofs_agree.specs.declared.reads.LastRead.{LastRead}
use Rattle.nofs_agree.proofs.OnChain.{told-on}
use Rattle.nofs_state.specs.Books.Verdicts.{Judges}

owner-is : (X : Image) (p : ℕ) (c : Cell) (t : Option Tag) → c ≡ cell_at X p → t ≡ tag_of c.tag
    → owner X p ≡ owner_by X p t
unfolding owner
owner-is X p c t cell tag = ap (λ (q : Option Tag). owner_by X p q) (sym (tag ∙ ap (λ (q : Cell). tag_of q.tag) cell))

module _ (old mid : DiskState) (known : List (Option Bool)) (p : ℕ) (last : LastRead)
    (reads : ReadsBlock old mid p last (Ok tt)) where
  pub owner-untagged : (t : Option Tag) → t ≡ tag_of last.cell.tag
      → t ≡ None → Judges old mid known (λ X. is_some (owner X p)) (Ok false)
  owner-untagged t tag none = record {
    stays = reads.stays;
    found = λ tells agreed. sym (ap is_some (owner-is old.now p last.cell None (reads.cell tells) (sym none ∙ tag)));
    cause = tt;
    no_fault = reads.no_fault;
  }

  pub owner-tagged : (new : DiskState) (t : Option Tag) (tag : Tag) (result : Result Bool Failed)
      → t ≡ tag_of last.cell.tag → t ≡ Some tag
      → Judges mid new known (λ X. is_some (owner_by X p (Some tag))) result
      → Judges old new known (λ X. is_some (owner X p)) result
  owner-tagged new t tag result is some judged = record {
    stays = StaysButFaults-trans old mid new reads.stays judged.stays;
    found = ok result judged.found;
    cause = err result judged.cause;
    no_fault = quiet result judged.no_fault;
  }
    where
      ok : (q : Result Bool Failed)
          → IfOk q (λ a. IsTrue mid.tells → AreTrue mid.now known → a ≡ is_some (owner_by mid.now p (Some tag)))
          → IfOk q (λ a. IsTrue old.tells → AreTrue old.now known → a ≡ is_some (owner old.now p))
      ok (Ok a) f = λ tells agreed.
          subst (λ (X : Image). AreTrue X known → a ≡ is_some (owner_by X p (Some tag))) reads.stays.cells.now
          (f (told-on old mid reads.stays tells)) agreed
          ∙ sym (ap is_some (owner-is old.now p last.cell (Some tag) (reads.cell tells) (sym some ∙ is)))
      ok (Err x) f = tt

      quiet : (q : Result Bool Failed) → OnOk q (new.faults ≡ mid.faults) → OnOk q (new.faults ≡ old.faults)
      quiet (Ok a) e = e ∙ reads.no_fault
      quiet (Err x) e = tt

      err : (q : Result Bool Failed) → OnErr q (Rose mid.faults new.faults) → OnErr q (Rose old.faults new.faults)
      err (Ok a) r = tt
      err (Err x) r =
          Rose-within old.faults mid.faults new.faults new.faults reads.stays.disk.faults r (le_refl new.faults)

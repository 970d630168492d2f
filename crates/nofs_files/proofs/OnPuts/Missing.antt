-- How many blocks a Put asks for, by what is missing above its slot.
use Rattle.std.proofs.Common.{◌≡◌, ℕ, suc, ◌<◌, inl, inr, IsTrue, refl, sym, ◌∙◌, subst}
use Rattle.nofs_disk.specs.Disk.{DiskState, IsDisk}
use Rattle.nofs_disk.specs.declared.tag.Pointer.{Pointer}
use Rattle.nofs_inode.specs.declared.inode.Record.{Record}
use Rattle.nofs_ptrs.specs.Paths.{Path, InRecord, Under, path_of}
use Rattle.nofs_model.specs.Slots.{find, pointer, IsAbove}
use Rattle.nofs_model.specs.declared.image.path.PathAnswer.TheVariants as answer
use Rattle.nofs_model.proofs.OnSlots.Paths.{above-refl, below-null}
use Rattle.nofs_ptrs.specs.PathLaws.{path-direct}
use Rattle.nofs_agree.specs.declared.reads.LastRead.{LastRead}
use Rattle.nofs_state.specs.declared.books.maps.Books.{Books}
use Rattle.nofs_state.proofs.OnBooks.Machine.{are-agreed}
use Rattle.nofs_state.proofs.OnCores.Replies.{open-files}
use Rattle.nofs_state.proofs.OnBooks.CurrentFiles.{current-agreed}
use Rattle.nofs_crashlaw.proofs.OnFiles.PutHeld.{above-held}
use Rattle.nofs_files.proofs.OnPuts.Claims.{Fits, needs-are}
use Rattle.nofs_files.proofs.OnPuts.Ways.{IsNew, IsOld, each-next, no-loop}
use Rattle.nofs_files.specs.Puts.{HeldAt, IsEmptySlot, IsFar, IsHole, IsUnder, MayPut, RowsLead, step_of_put}
use Rattle.nofs_files.specs.declared.puts.put.Put.{Put}
use Rattle.nofs_files.proofs.OnPuts.Rooms.{IsAsked}

module _ {d : DiskState} {k : Books} {p : Put} {r : Record} {last : LastRead} {writes : ℕ} (is : IsDisk d)
    (may : MayPut d k p r last writes)
    (empty : IsEmptySlot d p) (lead : RowsLead d k (step_of_put p)) where
  asked : (m : ℕ) (way : Path) → path_of p.slot ≡ way → Fits (suc m) way
      → (IsTrue d.tells → (a : Path) → IsOld (suc m) way a → (y : Pointer) × (find d.now p.inode a ≡ answer.Holds y))
      → (IsTrue d.tells → (a : Path) (n : ℕ) → IsNew (suc m) way (Under a n) → IsNew (suc m) way a
      → find d.now p.inode a ≡ answer.Hole)
      → IsAsked d k p r (suc m)
  asked m way path fits old hole = record {
    disk = is;
    safe = may.safe;
    going = may.going;
    needs = λ t H q o. needs-are q.world.files d.now p.inode (open-files d k H q o)
        (current-agreed d.now p.inode p.generation (may.current t (are-agreed d k H q may.safe o))) m p.slot way path
        empty.slot (empty.empty t) fits
        (old t) (hole t);
    file = may.file;
    current = may.current;
    slot = empty.slot;
    empty = empty.empty;
    lead = lead;
  }

  -- a direct slot
  pub direct-asked : p.slot < 8 → IsAsked d k p r 1
  direct-asked low = asked 0 (InRecord p.slot) (path-direct p.slot low) refl (λ t a u. absurd u)
      (λ t a n u v. absurd (let e : Under a n ≡ InRecord p.slot = u in cc e))

  -- one below a block of pointers that holds
  pub below-asked : {a : Path} {y : Pointer} {n : ℕ} → HeldAt d k p.inode a y → IsUnder p.slot a n → IsAsked d k p r 1
  below-asked {a} {y} {n} upper path = asked 0 (Under a n) path.path tt
      (λ t q v. (pointer d.now p.inode q, above-held d.now p.inode q a y v (upper.held t)))
      (λ t q j u w. absurd (not-both q j u w))
    where
      not-both : (q : Path) (j : ℕ) → IsNew 1 (Under a n) (Under q j) → IsNew 1 (Under a n) q → ⊥
      not-both q j (inl e) (inl s) = let z : q ≡ a = cc e in
          no-loop a n (subst (λ (w : Path). IsAbove w a) (sym z ∙ s) (above-refl a))
      not-both q j (inr none) v = absurd none
      not-both q j (inl e) (inr none) = absurd none

  -- one without a leaf
  pub leaf-asked : {n : ℕ} → IsUnder p.slot (InRecord 8) n → IsHole d p.inode (InRecord 8) → IsAsked d k p r 2
  leaf-asked {n} path hole = asked 1 (Under (InRecord 8) n) path.path refl (λ t q v. absurd v)
      (λ t q j u. each-next (λ q j. IsNew 2 (Under (InRecord 8) n) q → find d.now p.inode q ≡ answer.Hole) 2
      (Under (InRecord 8) n) ((λ v. hole t), tt) q j u)

  -- one without a child below a top that holds
  pub child-asked : {child n : ℕ} {y : Pointer} → HeldAt d k p.inode (InRecord 9) y → IsFar p.slot child n
      → IsHole d p.inode (Under (InRecord 9) child) → IsAsked d k p r 2
  child-asked {child} {n} {y} top path hole = asked 1 (Under (Under (InRecord 9) child) n) path.path tt
      (λ t q v. (y, subst (λ (w : Path). find d.now p.inode w ≡ answer.Holds y) (sym v) (top.held t)))
      (λ t q s u. each-next (λ q s. IsNew 2 (Under (Under (InRecord 9) child) n) q
      → find d.now p.inode q ≡ answer.Hole) 2
      (Under (Under (InRecord 9) child) n) ((λ v. hole t), ((λ v. absurd (top-old v)), tt)) q s u)
    where
      top-old : IsNew 2 (Under (Under (InRecord 9) child) n) (InRecord 9) → ⊥
      top-old (inl e) = cc e
      top-old (inr (inl e)) = cc e
      top-old (inr (inr w)) = w

  -- one without a top
  pub top-asked : {child n : ℕ} → IsFar p.slot child n → IsHole d p.inode (InRecord 9) → IsAsked d k p r 3
  top-asked {child} {n} path hole = asked 2 (Under (Under (InRecord 9) child) n) path.path refl (λ t q v. absurd v)
      (λ t q s u. each-next (λ q s. IsNew 3 (Under (Under (InRecord 9) child) n) q
      → find d.now p.inode q ≡ answer.Hole) 3
      (Under (Under (InRecord 9) child) n)
      ((λ v. below-null d.now p.inode (InRecord 9) (Under (InRecord 9) child) (inr refl) (hole t)), ((λ v. hole t), tt))
      q s u)

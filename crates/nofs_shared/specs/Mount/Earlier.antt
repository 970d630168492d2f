-- An earlier state of a mount.
use Rattle.std.proofs.Common.{◌≡◌, ℕ, false, List, ◌++◌, append_assoc, sym, ap, ◌∙◌}
use mathlib.Core.List.{IsPrefix}
use Rattle.nofs_disk.specs.Disk.{DiskState}
use Rattle.nofs_super.specs.declared.superblock.SuperBlock.{SuperBlock}
use Rattle.nofs_history.specs.declared.machine.history.Entry1.{Entry1}
use Rattle.nofs_state.specs.declared.books.maps.Books.{Books}
use Rattle.nofs_turn.proofs.OnLists.Words.{prefix_trans}
use Rattle.nofs_shared.specs.Mount.Invariant.{IsMount}

-- the mount of these numbers stood open in this state, which came before the entries H or between them
pub record IsEarlier (found early : DiskState) (k : Books) (first start : ℕ) (at : SuperBlock)
    (H : List Entry1) : Type 0 where
  pub stood : ∥ IsMount found early first k ∥₁
  pub going : k.stopped ≡ false
  pub begun : k.history.start ≡ start
  pub numbers : k.at ≡ at
  pub begins : IsPrefix k.history.entries H

-- these books came before those of the same mount
pub record IsOfBooks (early k : Books) : Type 0 where
  pub going : early.stopped ≡ false
  pub begun : early.history.start ≡ k.history.start
  pub numbers : early.at ≡ k.at
  pub begins : IsPrefix early.history.entries k.history.entries

-- so it is when more entries came
pub earlier-more : {found early : DiskState} {k : Books} {first start : ℕ} {at : SuperBlock} {H : List Entry1}
    → IsEarlier found early k first start at H
    → (K : List Entry1) → IsEarlier found early k first start at (H ++ K)
earlier-more {k = k} {H = H} e K = record {
  stood = e.stood;
  going = e.going;
  begun = e.begun;
  numbers = e.numbers;
  begins = (
    e.begins.0 ++ K,
    sym (append_assoc k.history.entries e.begins.0 K) ∙ ap (λ (L : List Entry1). L ++ K) e.begins.1,
  );
}

-- in a later state of the same mount
pub earlier-on : {found early : DiskState} {k : Books} {first start : ℕ} {at : SuperBlock} {H : List Entry1}
    → IsEarlier found early k first start at H
    → (from : ℕ) (numbers : SuperBlock) (K : List Entry1) → from ≡ start → numbers ≡ at → IsPrefix H K
    → IsEarlier found early k first from numbers K
earlier-on {k = k} e from numbers K begun same longer = record {
  stood = e.stood;
  going = e.going;
  begun = e.begun ∙ sym begun;
  numbers = e.numbers ∙ sym same;
  begins = prefix_trans k.history.entries _ K e.begins longer;
}

-- A mount for which memory was taken: only its history is another one, with the same entries.
use Rattle.std.proofs.Common.{◌≡◌, ℕ, ◌+◌, ◌^◌, ◌≤◌, List, length, sym, subst}
use Rattle.std.proofs.Math.Logic.{∥∥₁_elim, ∥∥₁_prop}
use Rattle.nofs_disk.specs.Disk.{DiskState}
use Rattle.nofs_history.specs.HistoryState.{HistoryState}
use Rattle.nofs_history.specs.declared.machine.history.Entry1.{Entry1}
use Rattle.nofs_state.specs.Books.Maps.{IsSafe, with_history}
use Rattle.nofs_state.specs.declared.books.maps.Books.{Books}
use Rattle.nofs_shared.specs.declared.index.Index.{Index}
use Rattle.nofs_shared.specs.Acts.Sees.{sweep_entries}
use Rattle.nofs_shared.specs.Index.Truths.{IsTrueIndex}
use Rattle.nofs_shared.specs.Mount.Invariant.{IsMount}
use Rattle.nofs_shared.proofs.OnActs.Room.{taken-same}
use Rattle.nofs_shared.proofs.OnIndex.Mounts.{index-history}
use Rattle.nofs_shared.proofs.OnMount.Histories.{mount-history, safe-history}

-- what holds of such a mount and its index holds, where there is one
pub with-room : (found d : DiskState) (first : ℕ) (k : Books) (h : HistoryState) (index : Index) (T : Type 0)
    → (h.entries ≡ k.history.entries) × (h.start ≡ k.history.start) → ∥ IsMount found d first k ∥₁
    → ∥ IsTrueIndex found d k index ∥₁
    → (IsMount found d first (with_history k h) → IsTrueIndex found d (with_history k h) index → T) → ∥ T ∥₁
with-room found d first k h index T (same, begun) stands indexed to =
    ∥∥₁_elim stands ∥∥₁_prop (λ m. ∥∥₁_elim indexed ∥∥₁_prop (λ t.
    ∣ to (mount-history found d first k h begun same m) (index-history found d first k h index begun same m t) ∣₁))

-- what a mount keeps of its invariant
pub record IsRoomed (found d : DiskState) (first : ℕ) (k : Books) (h : HistoryState) (kept : ℕ) (index : Index)
    : Type 0 where
  pub few : length h.entries + kept ≤ 2 ^ 62
  pub room : kept ≤ h.spare
  pub taken : k.at.inodes + k.at.blocks ≤ kept + sweep_entries h.entries
  pub safe : IsSafe d (with_history k h)
  pub stands : ∥ IsMount found d first (with_history k h) ∥₁
  pub indexed : ∥ IsTrueIndex found d (with_history k h) index ∥₁

pub roomed : (found d : DiskState) (first : ℕ) (k : Books) (h : HistoryState) (kept : ℕ) (index : Index)
    → (h.entries ≡ k.history.entries) × (h.start ≡ k.history.start) → kept ≤ h.spare
    → length k.history.entries + kept ≤ 2 ^ 62
    → k.at.inodes + k.at.blocks ≤ kept + sweep_entries k.history.entries
    → IsSafe d k → ∥ IsMount found d first k ∥₁ → ∥ IsTrueIndex found d k index ∥₁
    → IsRoomed found d first k h kept index
roomed found d first k h kept index (same, begun) room few taken safe stands indexed = record {
  few = subst (λ (H : List Entry1). length H + kept ≤ 2 ^ 62) (sym same) few;
  room = room;
  taken = taken-same _ _ h.entries same taken;
  safe = safe-history k h d safe;
  stands = with-room found d first k h index (IsMount found d first (with_history k h)) (same, begun) stands indexed
      (λ m t. m);
  indexed = with-room found d first k h index (IsTrueIndex found d (with_history k h) index) (same, begun) stands
      indexed (λ m t. t);
}

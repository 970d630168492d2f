-- A disk in what a crash leaves of a sound one is sound.
use Rattle.std.proofs.Common.{◌≡◌, ◌<◌, List, IsTrue, length, sym, ◌∙◌, subst}
use Rattle.std.proofs.lemmas.List.{ext_get_or}
use Rattle.nofs_disk.specs.declared.tag.Cell.{Cell}
use Rattle.nofs_disk.specs.Disk.{DiskState, IsDisk, IsSettled, Picks, cell_at, no_cell}
use Rattle.nofs_model.specs.Geometry.{Image}
use Rattle.nofs_model.specs.Sound.{IsSound}
use Rattle.nofs_shared.specs.Mount.Invariant.{IsSoundDisk}
use Rattle.nofs_cases.specs.Mounts.Open.{LeavesSound}

pub leaves-sound : (d : DiskState) → IsDisk d → IsSoundDisk d → LeavesSound d
leaves-sound d is sound X left = sound.sound X (is.at_rest X left)

-- a disk that holds a sound image, and may hold no other
pub settled-sound : (d : DiskState) (cells : List Cell) → IsTrue d.tells
    → length cells ≡ d.blocks → d.now ≡ cells → IsSettled d → IsSound cells
    → IsSoundDisk d
settled-sound d cells tells size now settled sound = record {
  tells = tells;
  sound = λ X picks.
      let F : Image → Type 0 = λ Y. IsSound Y in
      subst F (same X picks) sound;
}
  where
    same : (X : List Cell) → Picks d.may d.blocks X → cells ≡ X
    same X picks =
        let len : length cells ≡ length X = size ∙ sym picks.len in
        ext_get_or no_cell cells X len (λ k low.
        let there = subst (λ n. k < n) size low in
        let F : List Cell → Type 0 = λ l. cell_at X k ≡ cell_at l k in
        sym (subst F now (settled k (cell_at X k) there (picks.each k there))))

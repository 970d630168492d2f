-- Sound images stay so over calls that write nothing.
use Rattle.std.proofs.Common.{ℕ, Result, ◌∙◌, subst₂, arith, List}
use Rattle.nofs_disk.specs.Disk.{DiskState, IsDisk, IsSameDisk, KeepsCells, KeepsPast, Flushes, Picks, cell_at}
use Rattle.nofs_disk.specs.Moments.{AtEach-stays, AtEach-flushes}
use Rattle.nofs_disk.specs.declared.Failed.{Failed}
use Rattle.nofs_disk.specs.declared.tag.Cell.{Cell}
use Rattle.nofs_model.specs.Geometry.{Image}
use Rattle.nofs_model.specs.Sound.{IsSound}
use Rattle.nofs_state.specs.Cores.Invariant.{Sounds}

pub sounds-keep : (from : ℕ) (old new : DiskState) → IsSameDisk old new → KeepsPast old new → KeepsCells old new
    → Sounds from old → Sounds from new
sounds-keep from old new disk past cells s = record {
  picks = λ X p. s.picks X (subst₂ (λ (may : ℕ → List Cell) (n : ℕ). Picks may n X) cells.may disk.blocks p);
  images = AtEach-stays (λ m X. IsSound X) from old new past cells.moment s.images;
}

pub sounds-flush : (from : ℕ) (old new : DiskState) {result : Result (Unit {0}) Failed} → IsDisk new
    → Flushes old new result → Sounds from old
    → Sounds from new
sounds-flush from old new is f s = record {
  picks = picks;
  images = AtEach-flushes (λ m X. IsSound X) from old new is f s.picks picks s.images;
}
  where
    picks : (X : Image) → Picks new.may new.blocks X → IsSound X
    picks X p = s.picks X (record {
      len = p.len ∙ f.disk.blocks;
      each = λ b low. f.may b (cell_at X b) low (p.each b (let e = f.disk.blocks in omega (arith, low, e)));
    })

-- The books of a mount over another disk, and with other maps of the same sizes.
use Rattle.std.proofs.Common.{◌≡◌, ℕ, ◌+◌, ◌/◌, ◌^◌, ◌<◌, ◌≤◌, Bool, true, IsTrue, Result, length, refl, sym, ap, ◌∙◌}
use Rattle.std.proofs.Common.{subst}
use Rattle.nofs_bits.specs.Bits.{is_set}
use Rattle.nofs_disk.specs.Disk.{DiskState, IsSameDisk, KeepsCells, KeepsPast, MakesReady, StaysButFaults}
use Rattle.nofs_super.specs.Geometry.{IsGeometry}
use Rattle.nofs_super.specs.declared.superblock.SuperBlock.{SuperBlock}
use Rattle.nofs_model.specs.Geometry.{super_at}
use Rattle.nofs_history.specs.HistoryState.{HistoryState}
use Rattle.nofs_agree.specs.Reads.{IsAt}
use Rattle.nofs_state.specs.Books.Maps.{IsSafe}
use Rattle.nofs_state.specs.declared.books.maps.Books.{Books}

-- the same numbers, and maps of the same sizes
pub record SameSizes (k l : Books) : Type 0 where
  pub at : l.at ≡ k.at
  pub serial : l.serial ≡ k.serial
  pub unknown_inodes : length l.unknown_inodes ≡ length k.unknown_inodes
  pub free_inodes : length l.free_inodes ≡ length k.free_inodes
  pub agreement : length l.agreement ≡ length k.agreement
  pub unknown_blocks : length l.unknown_blocks ≡ length k.unknown_blocks
  pub free_blocks : length l.free_blocks ≡ length k.free_blocks

-- such books are safe, too, where their free blocks lie in the data area
pub safe-sizes : (old new : DiskState) (k l : Books) → IsSafe old k → IsAt new k.at → SameSizes k l
    → ((p : ℕ) → is_set l.free_blocks p ≡ true → 1 + k.at.inodes / 4 ≤ p) → IsSafe new l
safe-sizes old new k l s at same area =
    let back : k.at ≡ l.at = sym same.at in
    let inodes : k.at.inodes ≡ l.at.inodes = ap (λ (a : SuperBlock). a.inodes) back in
    let blocks : k.at.blocks ≡ l.at.blocks = ap (λ (a : SuperBlock). a.blocks) back in
    record {
      at = subst (λ (a : SuperBlock). IsAt new a) back at;
      mount = subst (λ (a : SuperBlock). a.mount < 2 ^ 24) back s.mount;
      serial = subst (λ (n : ℕ). n ≤ 2 ^ 40) (sym same.serial) s.serial;
      unknown_inodes = same.unknown_inodes ∙ s.unknown_inodes ∙ inodes;
      free_inodes = same.free_inodes ∙ s.free_inodes ∙ inodes;
      agreement = same.agreement ∙ s.agreement ∙ inodes;
      unknown_blocks = same.unknown_blocks ∙ s.unknown_blocks ∙ blocks;
      free_blocks = same.free_blocks ∙ s.free_blocks ∙ blocks;
      in_area = λ p set. subst (λ (a : SuperBlock). 1 + a.inodes / 4 ≤ p) back (area p set);
    }

-- over a disk with the same superblock, stopped or not, and with any history
pub safe-over : (old new : DiskState) (k : Books) (stop : Bool) (h : HistoryState) → IsSameDisk old new
    → super_at new.now ≡ super_at old.now → IsSafe old k
    → IsSafe new (record k { stopped = stop; history = h })
safe-over old new k stop h disk super s =
    let at : IsAt new k.at = record {
      geometry = subst (λ (n : ℕ). IsGeometry n k.at.blocks k.at.inodes) (sym disk.blocks) s.at.geometry;
      same = λ t. super ∙ s.at.same (subst (λ (b : Bool). IsTrue b) disk.tells t);
    } in
    let same : SameSizes k (record k { stopped = stop; history = h }) = record {
      at = refl;
      serial = refl;
      unknown_inodes = refl;
      free_inodes = refl;
      agreement = refl;
      unknown_blocks = refl;
      free_blocks = refl;
    } in
    safe-sizes old new k (record k { stopped = stop; history = h }) s at same s.in_area

-- Where cells, past and moment stay, and what is dirty

pub record Keeping (old new : DiskState) : Type 0 where
  pub disk : IsSameDisk old new
  pub past : KeepsPast old new
  pub cells : KeepsCells old new
  pub dirty : new.dirty ≡ old.dirty

pub reads-keep : (old new : DiskState) → StaysButFaults old new → Keeping old new
reads-keep old new s = record { disk = s.disk; past = s.past; cells = s.cells; dirty = s.dirty }

pub ready-keeps : {E : Type 0} (old new : DiskState) (calls : ℕ) (result : Result (Unit {0}) E)
    → MakesReady old new calls result → Keeping old new
ready-keeps old new calls result m = record { disk = m.disk; past = m.past; cells = m.cells; dirty = m.dirty }

pub safe-keeps : (old new : DiskState) (keep : Keeping old new) (k : Books) → IsSafe old k → IsSafe new k
safe-keeps old new keep k = safe-over old new k k.stopped k.history keep.disk (ap super_at keep.cells.now)

-- What a format leaves is sound.
use Rattle.std.proofs.Common.{◌≡◌, ℕ, ◌<◌, length, None, IsTrue, sym, ap, ◌∙◌, subst, arith}
use Rattle.std.specs.Prelude.{is_none}
use Rattle.nofs_disk.specs.Disk.{DiskState, IsSameDisk, cell_at}
use Rattle.nofs_super.specs.Geometry.{IsGeometry, is_geometry, is_geometry-parts, format_fault}
use Rattle.nofs_super.specs.Format.{IsFormatted, formatted_cell}
use Rattle.nofs_model.specs.Sound.{LawFormatted}
use Rattle.nofs_shared.specs.Mount.Invariant.{IsSoundDisk}

accepted-geometry : (device blocks inodes : ℕ) → format_fault device blocks inodes ≡ None
    → IsGeometry device blocks inodes
unfolding is_geometry
accepted-geometry device blocks inodes e = is_geometry-parts device blocks inodes (ap is_none e)

pub sound-formatted : LawFormatted → (blocks inodes : ℕ) (old new : DiskState) → IsSameDisk old new
    → IsFormatted blocks inodes old new → IsTrue old.tells
    → ((b : ℕ) → b < blocks → cell_at new.now b ≡ formatted_cell blocks inodes b) → IsSoundDisk new
sound-formatted law blocks inodes old new same ends tells cells = record {
  tells = subst (λ b. IsTrue b) (sym same.tells) tells;
  sound = λ X picks.
      let size : old.blocks ≡ length X = sym (picks.len ∙ same.blocks) in
      let fits : IsGeometry old.blocks blocks inodes = accepted-geometry old.blocks blocks inodes ends.accepted in
      let few = fits.fits in
      let same_blocks = same.blocks in
      law X blocks inodes (subst (λ (n : ℕ). IsGeometry n blocks inodes) size fits)
      (λ b low.
      let there : b < new.blocks = omega (arith, low, few, same_blocks) in
      ends.settled b (cell_at X b) there (picks.each b there) ∙ cells b low);
}

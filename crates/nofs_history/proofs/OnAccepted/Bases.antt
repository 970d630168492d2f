-- A number that is no inode of a base has no generation there.
use Rattle.std.proofs.Common.{◌≡◌, ℕ, ◌<◌, Bool, true, false, ◌&&◌, leb, refl, arith}
use Rattle.nofs_model.specs.Geometry.{Image, inode, is_inode, inodes_of}
use Rattle.nofs_history.specs.Since.{is_generation}

pub no_inode : (B : Image) (i g : ℕ) → is_inode B i ≡ false → is_generation B i g ≡ false
unfolding inode
no_inode B i g e = rw e refl

pub not_zero : (B : Image) (i : ℕ) → i ≡ 0 → is_inode B i ≡ false
not_zero B i e = rw e refl

pub not_past : (B : Image) (i : ℕ) → inodes_of B < i → is_inode B i ≡ false
not_past B i lt = go (leb 1 i) (leb i (inodes_of B)) (over i (inodes_of B) lt)
  where
    over : (x y : ℕ) → y < x → leb x y ≡ false
    over x y less = grind (arith, less)

    go : (a b : Bool) → b ≡ false → (a && b) ≡ false
    go true b e = e
    go false b e = refl

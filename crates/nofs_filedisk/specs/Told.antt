-- A disk that tells where another fact says so.
use Rattle.std.specs.Prelude.{◌≡◌, ℕ, Bool, IsTrue}
use Rattle.std.proofs.Common.{subst, arith, ◌∙◌}
use Rattle.nofs_disk.specs.Disk.{DiskState, IsDisk, Picks}

-- a disk of so many blocks, that tells or not, and is else this one
abbrev pub telling_disk : Bool → ℕ → DiskState → DiskState
telling_disk tells blocks d = record d { tells = tells; blocks = blocks }

-- it is a disk where that one is, has so many blocks, and tells
pub telling_disk-is : (tells : Bool) (blocks : ℕ) (d : DiskState) → d.blocks ≡ blocks → IsTrue d.tells → IsDisk d
    → IsDisk (telling_disk tells blocks d)
telling_disk-is tells blocks d same telling is = record {
  room = is.room;
  counted = is.counted;
  whole = λ t. is.whole telling ∙ same;
  has_now = λ b t low. is.has_now b telling (omega arith);
  beyond = λ b c past has. is.beyond b c (omega arith) has;
  sized = is.sized;
  at_rest = λ image left.
      let F : ℕ → Type 0 = λ n. Picks d.may n image in
      subst F same (is.at_rest image left);
}

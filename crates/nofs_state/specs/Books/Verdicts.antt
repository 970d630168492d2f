-- Which elements are used, by the disk and by the maps, and what a map learns of one.
use Rattle.std.specs.Prelude.{◌≡◌, ℕ, ◌+◌, ◌-◌, ◌/◌, ◌≤◌, Bool, false, not, List, Option, Some, None, if◌then◌else◌}
use Rattle.std.specs.Prelude.{◌==◌, nat_lt, IsTrue, Result, Ok, Err, IfOk, OnErr, OnOk, length, slice_set}
use Rattle.nofs_bits.specs.Bits.{is_set}
use Rattle.nofs_disk.specs.declared.Failed.{Failed}
use Rattle.nofs_disk.specs.Disk.{DiskState, StaysButFaults, Rose}
use Rattle.nofs_model.specs.Geometry.{Image}
use Rattle.nofs_model.specs.Owners.{is_used_inode, is_used_block}
use Rattle.nofs_model.specs.declared.image.path.PathAnswer.{PathAnswer}
use Rattle.nofs_model.specs.declared.image.path.PathAnswer.TheVariants as answer
use Rattle.nofs_agree.specs.Chain.{AreTrue}
use Rattle.nofs_agree.specs.Reads.{IsAt}
use Rattle.nofs_state.specs.declared.books.maps.Books.{Books}

-- the books have the numbers of the disk, and a place for each inode
pub record CanCheck (d : DiskState) (k : Books) : Type 0 where
  pub numbers : IsAt d k.at
  pub known : length k.agreement ≡ k.at.inodes

-- the answer is this one of the image, where the disk tells and what is known is true
pub record Judges (old new : DiskState) (known : List (Option Bool)) (answer : Image → Bool)
    (result : Result Bool Failed) : Type 0 where
  pub stays : StaysButFaults old new
  pub found : IfOk result (λ a. IsTrue old.tells → AreTrue old.now known → a ≡ answer old.now)
  pub cause : OnErr result (Rose old.faults new.faults)
  pub no_fault : OnOk result (new.faults ≡ old.faults)

-- a slot holds this block
abbrev pub names_block : PathAnswer → ℕ → Bool
names_block answer.Hole p = false
names_block (answer.Holds x) p = x.block == p
names_block answer.Lost p = false

-- the verdict that stands of a block; none where it was not examined
abbrev pub verdict_of_block : Books → ℕ → Option Bool
verdict_of_block k p = if is_set k.unknown_blocks p then None else Some (not (is_set k.free_blocks p))

-- so of an inode
abbrev pub verdict_of_inode : Books → ℕ → Option Bool
verdict_of_inode k i = if is_set k.unknown_inodes (i - 1) then None else Some (not (is_set k.free_inodes (i - 1)))

-- the books after a block is found to be used or not
abbrev pub learned_block : Books → ℕ → Bool → Books
learned_block k p used =
    record k { unknown_blocks = slice_set k.unknown_blocks p false; free_blocks = slice_set k.free_blocks p (not used) }

-- so for an inode: one above 2 is used where it is agreed
abbrev pub learned_inode : Books → ℕ → Bool → Books
learned_inode k i used = record k {
  unknown_inodes = slice_set k.unknown_inodes (i - 1) false;
  free_inodes = slice_set k.free_inodes (i - 1) (not used);
  agreement = if nat_lt 2 i then slice_set k.agreement (i - 1) (Some used) else k.agreement;
}

-- a block that is not used lies in the data area
abbrev pub InData : Books → ℕ → Bool → Type 0
InData k p used = used ≡ false → 1 + k.at.inodes / 4 ≤ p

-- an element is verified: its verdict stood, is learned from the disk, or could not be read
pub data Verifies (old : DiskState) (k : Books) (new : DiskState) (l : Books) (stood : Option Bool)
    (learned : Bool → Books) (answer : Image → Bool)
    (Fits : Bool → Type 0) (result : Result Bool Failed) : Type 0 where
  Stood : (used : Bool) → stood ≡ Some used → StaysButFaults old new → new.faults ≡ old.faults → l ≡ k
      → result ≡ Ok used
      → Verifies old k new l stood learned answer Fits result
  Learned : (used : Bool) → stood ≡ None → Judges old new k.agreement answer (Ok used) → Fits used → l ≡ learned used
      → result ≡ Ok used
      → Verifies old k new l stood learned answer Fits result
  Unread : (x : Failed) → Judges old new k.agreement answer (Err x) → l ≡ k → result ≡ Err x
      → Verifies old k new l stood learned answer Fits result

-- that a block is
abbrev pub VerifiesBlock : DiskState → Books → DiskState → Books → ℕ → Result Bool Failed → Type 0
VerifiesBlock old k new l p =
    Verifies old k new l (verdict_of_block k p) (learned_block k p) (λ X. is_used_block X p) (InData k p)

-- that an inode is
abbrev pub VerifiesInode : DiskState → Books → DiskState → Books → ℕ → Result Bool Failed → Type 0
VerifiesInode old k new l i =
    Verifies old k new l (verdict_of_inode k i) (learned_inode k i) (λ X. is_used_inode X i) (λ used. Unit {0})

-- a verdict is offered: the one that stood stays, and else it is learned
pub data OffersVerdict (k l : Books) (stood : Option Bool) (learned : Bool → Books) (used result : Bool) : Type 0 where
  StaysSo : stood ≡ Some result → l ≡ k → OffersVerdict k l stood learned used result
  LearnsIt : stood ≡ None → l ≡ learned used → result ≡ used → OffersVerdict k l stood learned used result

-- that of a block is
abbrev pub OffersBlock : Books → Books → ℕ → Bool → Bool → Type 0
OffersBlock k l p = OffersVerdict k l (verdict_of_block k p) (learned_block k p)

-- that of an inode is
abbrev pub OffersInode : Books → Books → ℕ → Bool → Bool → Type 0
OffersInode k l i = OffersVerdict k l (verdict_of_inode k i) (learned_inode k i)

-- A mount finds the premises met on what a format leaves, and has the numbers that it read.
use Rattle.std.proofs.Common.{◌≡◌, ℕ, ◌<◌, Option, Result, Ok, Err, IsTrue, sym, ap, ◌∙◌, subst, arith}
use Rattle.std.specs.Prelude.{IfErr, IfOk, is_none}
use Rattle.nofs_disk.specs.Adds.{Adds}
use Rattle.nofs_disk.specs.Disk.{DiskState, cell_at}
use Rattle.nofs_super.specs.Format.{IsFormatted, IsFreshCell, formatted_cell}
use Rattle.nofs_super.specs.Geometry.{IsGeometry, is_geometry, is_geometry-parts}
use Rattle.nofs_super.specs.declared.geometry.FormatFault.{FormatFault}
use Rattle.nofs_model.proofs.OnSound.Formats.{formatted-law}
use Rattle.nofs_state.specs.declared.books.maps.Books.{Books}
use Rattle.nofs_shared.specs.Mount.Begin.{BeginsMount, MountsBy}
use Rattle.nofs_tool.specs.Begin.Mounts.{IsRaisedFrom}
use Rattle.nofs_tool.specs.Session.Whole.{IsMet}

-- a format leaves a disk on which the premises are met, where it tells
pub formatted_met : (blocks inodes : ℕ) (old new : DiskState) → IsFormatted blocks inodes old new
    → Adds (IsFreshCell blocks inodes) old new
    → (IsTrue old.tells → (b : ℕ) → b < blocks → cell_at new.now b ≡ formatted_cell blocks inodes b)
    → IsTrue old.tells → IsMet new
unfolding is_geometry
formatted_met blocks inodes old new f adds cells tells = record {
  tells = subst IsTrue (sym adds.disk.tells) tells;
  sound = λ X picks. formatted-law X blocks inodes
      (subst (λ n. IsGeometry n blocks inodes) (sym (picks.len ∙ adds.disk.blocks)) numbers)
      (λ b low. (f.settled b (cell_at X b) (in_disk b low) (picks.each b (in_disk b low))) ∙ cells tells b low);
}
  where
    numbers : IsGeometry old.blocks blocks inodes
    numbers = is_geometry-parts old.blocks blocks inodes (ap (λ (o : Option FormatFault). is_none o) f.accepted)

    in_disk : (b : ℕ) → b < blocks → b < new.blocks
    in_disk b low = let e = adds.disk.blocks in let n = numbers.fits in omega (arith, low, e, n)

-- a mount that began has the superblock that it read, raised
pub raised-from : {D : Type 0} (state : D → DiskState) (disk found : D) (new : DiskState) (k : Books) → found ≡ disk
    → BeginsMount (state disk) new k → IsRaisedFrom (state found) k.at
raised-from {D} state disk found new k same b = record {
  before = b.before;
  mounts = subst (λ (d : D). MountsBy (state d) b.before) (sym same) b.mounts;
  is = b.at;
}

-- what follows of a result's value
pub if-ok : {T E : Type 0} (r : Result T E) (P Q : T → Type 0) → IfOk r P → ((t : T) → P t → Q t) → IfOk r Q
if-ok (Ok t) P Q p f = f t p
if-ok (Err e) P Q p f = tt

pub if-err : {T E : Type 0} (r : Result T E) (P Q : E → Type 0) → IfErr r P → ((e : E) → P e → Q e) → IfErr r Q
if-err (Ok t) P Q p f = tt
if-err (Err e) P Q p f = f e p

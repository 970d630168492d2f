-- The superblock of an image.
use Rattle.std.proofs.Common.{◌≡◌, ◌+◌, ◌<◌, ◌≤◌, Bool, true, false, IsTrue, List, ℕ, Some, Result, Ok, Err, IfOk}
use Rattle.std.proofs.Common.{arith, ap, get_or, length, refl, sym, take, ◌∙◌}
use Rattle.std.specs.Prelude.{count_by, if◌then◌else◌}
use Rattle.std.proofs.lemmas.List.{take_all}
use Rattle.std.proofs.lemmas.List.Sums.{count_by_more_no, count_by_more_yes}
use mir.Val.{bool_byte}
use Rattle.nofs_inode.specs.declared.inode.BackLink.{BackLink}
use Rattle.nofs_inode.specs.declared.inode.Record.{Record}
use Rattle.nofs_disk.specs.Disk.{cell_at}
use Rattle.nofs_super.specs.declared.superblock.MountFault.{MountFault}
use Rattle.nofs_super.specs.declared.superblock.SuperBlock.{SuperBlock}
use Rattle.nofs_super.specs.Super.{CanMount, super_of}
use Rattle.nofs_model.proofs.OnGeometry.Super.{spells}
use Rattle.nofs_model.specs.Files.{agreed, files_in}
use Rattle.nofs_model.specs.Geometry.{Image, inode, super_at}
use Rattle.nofs_agree.specs.Reads.{IsAt, KnowsInode}
use Rattle.nofs_agree.proofs.OnPair.{four-of}
use Rattle.nofs_reader.specs.Answers.{agreed_unread, kind_unread}
use Rattle.nofs_reader.specs.Image.{disk_of, image_of}
use Rattle.nofs_reader.specs.declared.opened.Unread.TheVariants.{NoInode}
use Rattle.nofs_reader.specs.declared.opened.Wanted.{Wanted}

-- its numbers are those in block 0
super-is : (X : Image) (it : SuperBlock) → super_of (cell_at X 0).payload ≡ Some it → super_at X ≡ it
unfolding super_at
super-is X it e = (spells (cell_at X 0).payload it e).numbers

pub superblock-at : (bytes : List ℕ) (res : Result SuperBlock MountFault) → IfOk res (CanMount 1048576)
    → IfOk res (λ it. IsTrue true → super_of (cell_at (image_of bytes) 0).payload ≡ Some it)
    → IfOk res (λ at. IsAt (disk_of bytes) at)
superblock-at bytes (Err e) can spelled = tt
superblock-at bytes (Ok at) can spelled =
    record { geometry = can.geometry; same = λ t. super-is (image_of bytes) at (spelled t) }

-- why an agreed inode is not read, by its record
pub unread-as : (bytes : List ℕ) (w : Wanted) (i : ℕ) (at : SuperBlock) (r : Record) → KnowsInode (disk_of bytes) at i r
    → agreed (files_in (image_of bytes)) i ≡ true → agreed_unread w (image_of bytes) i ≡ kind_unread w r.kind
unread-as bytes w i at r known a =
    ap (λ (b : Bool). if b then kind_unread w (inode (image_of bytes) i).kind else Some NoInode) a
    ∙ ap (λ (q : Record). kind_unread w q.kind) (known.same refl)

-- So many of the first back links are pairs with agreed directories

pub record Tallied (P : BackLink → Bool) (xs : List BackLink) (k n : ℕ) : Type 0 where
  pub value : n ≡ count_by P (take k xs)
  pub few : n ≤ k

pub tally-goes : (P : BackLink → Bool) (xs : List BackLink) (d : BackLink) (k n : ℕ) (b : Bool) (one : ℕ)
    → Tallied P xs k n
    → k < length xs → b ≡ P (get_or xs k d) → one ≡ bool_byte b → Tallied P xs (k + 1) (n + one)
tally-goes P xs d k n true one t low is byte =
    let v = t.value in
    let f = t.few in
    let more = count_by_more_yes P xs k d low (sym is) in
    record { value = omega (arith, v, more, byte); few = omega (arith, f, byte) }
tally-goes P xs d k n false one t low is byte =
    let v = t.value in
    let f = t.few in
    let more = count_by_more_no P xs k d low (sym is) in
    record { value = omega (arith, v, more, byte); few = omega (arith, f, byte) }

pub tally-ends : (P : BackLink → Bool) (bytes : List ℕ) (at : SuperBlock) (i : ℕ) (r : Record) (k n : ℕ)
    → KnowsInode (disk_of bytes) at i r → Tallied P r.links k n → 4 ≤ k → n ≡ count_by P r.links
tally-ends P bytes at i r k n known t whole =
    let four = four-of (disk_of bytes) at i r known refl in
    t.value ∙ ap (count_by P) (take_all k r.links (omega (arith, four, whole)))

pub tally-length : (bytes : List ℕ) (at : SuperBlock) (i : ℕ) (r : Record) → KnowsInode (disk_of bytes) at i r
    → length r.links ≡ 4
tally-length bytes at i r known = four-of (disk_of bytes) at i r known refl

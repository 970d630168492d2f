-- A mount that stands: its disk, its books and its history, as the proof of a step that writes takes them.
use Rattle.std.proofs.Common.{◌≡◌, ℕ, true, List, length, IsTrue, arith}
use Rattle.nofs_disk.specs.Disk.{DiskState, IsDisk, cell_at}
use Rattle.nofs_inode.specs.InodeRecords.{is_live}
use Rattle.nofs_super.specs.Geometry.{IsGeometry}
use Rattle.nofs_model.specs.Geometry.{super_at, inode}
use Rattle.nofs_model.specs.Sound.{IsBelow}
use Rattle.nofs_model.proofs.OnSound.Writes.{mountable-law}
use Rattle.nofs_history.specs.Claims.{next_stamp}
use Rattle.nofs_history.specs.declared.machine.history.Entry1.{Entry1}
use Rattle.nofs_crashlaw.specs.Untouched.Frames.{OldPointers}
use Rattle.nofs_crashlaw.specs.Numbers.Cells.{OldNumbers}
use Rattle.nofs_crashlaw.proofs.OnMaps.Fresh.{law-old}
use Rattle.nofs_state.specs.Cores.Invariant.{IsOpen, Past}
use Rattle.nofs_state.specs.declared.books.maps.Books.{Books}

pub record Standing : Type 1 where
  pub old : DiskState
  pub k : Books
  pub H : List Entry1
  pub p : Past
  pub is_old : IsDisk old
  pub tells : IsTrue old.tells
  pub o : IsOpen old k H p

module _ (standing : Standing) where
  open standing use {old, p, is_old, tells, o}

  pub geometry-of : IsGeometry (length old.now) (super_at old.now).blocks (super_at old.now).inodes
  geometry-of = let q = (mountable-law old.now).1 o.mountable in q.fits

  all-below : IsBelow (next_stamp p.world) old.now
  all-below n lt = o.stage.ready.fresh n (cell_at old.now n) lt (is_old.has_now n tells
      (let w = is_old.whole tells in let g = geometry-of in let q = g.fits in omega (arith, lt, w, q)))

  -- what it has written has lower numbers than what comes
  pub numbers-before : OldNumbers p.world old.now
  numbers-before = record { positive = o.stage.ready.positive; mountable = o.mountable; below = all-below }

  pub pointers-before : (j : ℕ) → is_live (inode old.now j) ≡ true → OldPointers (next_stamp p.world) old.now j
  pointers-before j live = law-old (next_stamp p.world) old.now j o.stage.ready.positive o.mountable all-below live

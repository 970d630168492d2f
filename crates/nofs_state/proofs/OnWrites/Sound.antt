-- Between two steps each image that a crash may leave is sound.
use Rattle.std.proofs.Common.{◌≡◌, ℕ, ◌+◌, ◌*◌, ◌^◌, ◌<◌, ◌≤◌, List, length, Contains, sym, ap, subst, arith}
use Rattle.nofs_disk.specs.Disk.{DiskState, cell_at}
use Rattle.nofs_super.specs.declared.superblock.SuperBlock.{SuperBlock}
use Rattle.nofs_model.specs.Geometry.{Image, super_at}
use Rattle.nofs_model.specs.Sound.{IsSound}
use Rattle.nofs_model.proofs.OnSound.Writes.{law-sound}
use Rattle.nofs_history.specs.Claims.{next_stamp}
use Rattle.nofs_history.specs.declared.machine.history.Entry1.{Entry1}
use Rattle.nofs_state.specs.Books.Maps.{IsSafe}
use Rattle.nofs_state.specs.Cores.Invariant.{IsOpen, Past}
use Rattle.nofs_state.specs.declared.books.maps.Books.{Books}

module _ (d : DiskState) (k : Books) (H : List Entry1) (p : Past) (safe : IsSafe d k) (o : IsOpen d k H p) where
  mount : (super_at d.now).mount ≡ k.at.mount
  mount = ap (λ (q : SuperBlock). q.mount) o.at

  bound : next_stamp p.world ≤ ((super_at d.now).mount + 1) * 2 ^ 40
  bound = let m = mount in let a = o.says.mount in let s = o.says.serial in let h = safe.serial in
      omega (arith, m, a, s, h)

  pub open-sound : (Y : Image) → length Y ≡ length d.now → cell_at Y 0 ≡ cell_at d.now 0
      → ((b : ℕ) → b < length Y → Contains (d.may b) (cell_at Y b))
      → IsSound Y
  open-sound Y size super picks = law-sound (next_stamp p.world) d.now Y d.may o.mountable
      (subst (λ (n : ℕ). n < 2 ^ 24) (sym mount) safe.mount) bound
      (λ b low c held. o.stage.ready.fresh b c low held) size super picks

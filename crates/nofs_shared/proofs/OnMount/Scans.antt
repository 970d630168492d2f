-- The maps of a mount are the full scan once each element was examined.
use Rattle.std.proofs.Common.{◌≡◌, ℕ, false, ◌⊎◌, inl, inr}
use Rattle.nofs_disk.specs.Disk.{DiskState, IsDisk}
use Rattle.nofs_state.specs.Cores.Invariant.{IsOpen, IsStopped, Past}
use Rattle.nofs_state.specs.declared.books.maps.Books.{Books}
use Rattle.nofs_scan.specs.Laws.{AreExamined, IsFullScan}
use Rattle.nofs_scan.proofs.OnLaws.{scanned}
use Rattle.nofs_shared.specs.Mount.Invariant.{IsMount, IsSoundDisk}

pub mount-scanned : (found d : DiskState) (first : ℕ) (k : Books) → IsDisk d → IsMount found d first k
    → IsSoundDisk found → k.stopped ≡ false
    → AreExamined k.history.entries k.at → IsFullScan d.now k
mount-scanned found d first k is m q running all = go (m.stands q).past (m.stands q).now
  where
    go : (p : Past) → IsOpen d k k.history.entries p ⊎ IsStopped d k k.history.entries p → IsFullScan d.now k
    go p (inl o) = scanned d k is m.safe running k.history.entries p o all
    go p (inr s) = absurd (let t = s.stopped in cc (t, running))

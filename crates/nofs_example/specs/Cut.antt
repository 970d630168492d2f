-- What a power cut leaves of a mount that found a sound disk.
use Rattle.nofs_disk.specs.Disk.{DiskState}
use Rattle.nofs_history.specs.Allowed.{IsAllowed}
use Rattle.nofs_history.specs.HistoryState.{HistoryState}
use Rattle.nofs_shared.specs.Mount.Invariant.{IsSoundDisk}

-- `last` is the disk at the end of the mount, and `left` what the cut leaves: a sound disk again, whose contents the
-- promise allows of the history so far
pub record LeavesAllowed (last : DiskState) (history : HistoryState) (left : DiskState) : Type 0 where
  pub sound : IsSoundDisk left
  pub allowed : IsAllowed (last.was history.start) history.entries last.moment left.now

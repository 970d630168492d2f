-- A mount after one Put, what a crash of it may leave, and the mount of that.
use Rattle.std.specs.Prelude.{◌≡◌, [], ◌∷◌, codes}
use Rattle.nofs_memdisk.specs.Parts.{memory_state}
use Rattle.nofs_memdisk.specs.declared.memory.MemDisk.{MemDisk}
use Rattle.nofs_history.specs.HistoryState.{HistoryState}
use Rattle.nofs_shared.specs.Laws.{ComesAfter, Mount, Mounts}
use Rattle.nofs_cases.specs.Mounts.Replies.{SeesAndPuts}

-- a mount of a formatted disk in memory, in which two bytes were put
pub record IsPutMount (mount : Mount memory_state) : Type 0 where
  pub steps : SeesAndPuts 5 (codes "ab") mount.history.entries
  pub first : Mounts (mount ∷ [])

-- the disk comes after such a mount
abbrev pub Crashed : MemDisk → Type 0
Crashed disk = (mount : Mount memory_state) × IsPutMount mount × ComesAfter mount (memory_state disk)

-- a mount that ended so, after such a mount and a crash
abbrev pub TwoMounts : MemDisk → HistoryState → Type 0
TwoMounts last history = (mount before : Mount memory_state) × (mount.last ≡ last) × (mount.history ≡ history)
    × IsPutMount before × Mounts
    (mount ∷ before ∷ [])

use Rattle.std.proofs.Common.{◌≡◌, ◌+◌, ◌*◌, ◌<◌, ℕ}
use Rattle.std.specs.Prelude.{slice_index_or}
use Rattle.nofs_inode.specs.Beside.{SameBeside}
use Rattle.nofs_inode.specs.InodeRecords.{link_in, no_link}
use Rattle.nofs_inode.proofs.inode.write_links.Given as goal

abbrev pub invariant-loop-j : goal.invariant-loop-j
invariant-loop-j l = SameBeside l.at 64 l.initial.bytes l.bytes
    × ((k : ℕ) → k < l.j → link_in (l.at + 16 * k) l.bytes ≡ slice_index_or l.links k no_link)

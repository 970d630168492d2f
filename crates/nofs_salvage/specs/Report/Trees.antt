-- The inodes of a list of directories, and the names that were seen in one.
use Rattle.std.specs.Prelude.{◌≡◌, ℕ, Bool, List, ◌++◌, map, bytes_eq}
use Rattle.std.specs.List.{list_any}
use Rattle.nofs_history.specs.declared.machine.replies.NameLine.{NameLine}
use Rattle.nofs_history.specs.World.{World}
use Rattle.nofs_salvage.specs.Report.Losses.{is_doubled, with_directories, lines_below, losses_below, folders_below}
use Rattle.nofs_salvage.specs.declared.report.report.Loss.{Loss}
use Rattle.nofs_salvage.specs.declared.report.findings.Findings.{Findings}
use Rattle.nofs_salvage.specs.Report.Inodes.{inode_of}
use Rattle.nofs_salvage.specs.declared.report.tree.Tree.{Tree}
use Rattle.nofs_salvage.specs.declared.report.seen.SeenNames.{SeenNames}

-- the inodes of a list of directories
abbrev pub inodes_in : Tree → List ℕ
inodes_in tree = map inode_of tree.list.items

-- whether a name was seen
abbrev pub is_seen : SeenNames → List ℕ → Bool
is_seen seen name = list_any (λ key. bytes_eq name key.items) seen.names.keys

-- what was seen are the names of the pairs among these lines
abbrev pub AreSeen : SeenNames → List NameLine → Type 0
AreSeen seen lines = (name : List ℕ) → is_seen seen name ≡ is_doubled lines name

-- new is old with these losses, and with the directories of these that weren't there yet
pub record AddsFindings (losses : List Loss) (folders : List ℕ) (old new : Findings) : Type 0 where
  pub report : new.report ≡ old.report ++ losses
  pub tree : inodes_in new.tree ≡ with_directories (inodes_in old.tree) folders

-- so far as the first k slots of directory d go
pub record IsWalked (W : World) (picks : List ℕ → Bool) (d k : ℕ) (old new : Findings) (seen : SeenNames) : Type 0 where
  pub adds : AddsFindings (losses_below W picks d k) (folders_below W.files d k) old new
  pub names : AreSeen seen (lines_below W.files d k)

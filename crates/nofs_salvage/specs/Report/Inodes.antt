-- The inodes of directories, and lists of them.
use Rattle.std.specs.Prelude.{ℕ, List, [], ◌∷◌, ◌++◌, map, if◌then◌else◌, ◌==◌}
use Rattle.std.specs.List.{list_any}
use Rattle.nofs_salvage.specs.declared.report.answers.InodeHandle.{InodeHandle}

abbrev pub inode_of : InodeHandle → ℕ
inode_of directory = directory.inode

-- the root of a disk, and its label file
abbrev pub root_handle : InodeHandle
root_handle = record { inode = 1; generation = 1 }

abbrev pub label_handle : InodeHandle
label_handle = record { inode = 2; generation = 2 }

-- one more, where its inode isn't there yet
abbrev pub with_handle : List InodeHandle → InodeHandle → List InodeHandle
with_handle handles at = if list_any (λ x. x == at.inode) (map inode_of handles) then handles else handles ++ at ∷ []

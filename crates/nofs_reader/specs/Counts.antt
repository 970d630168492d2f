-- How many inodes and blocks of an image are used.
use Rattle.std.specs.Prelude.{◌≡◌, ℕ, ◌+◌, Bool, Option, Some, None, if◌then◌else◌, nat_lt}
use Rattle.nofs_history.specs.Search.{count_below}
use Rattle.nofs_model.specs.Geometry.{Image, blocks_of, inodes_of}
use Rattle.nofs_model.specs.Owners.{is_used_block, is_used_inode}
use Rattle.nofs_reader.specs.Answers.{image_unread, superblock_of}
use Rattle.nofs_reader.specs.declared.opened.Unread.{Unread}
use Rattle.nofs_reader.specs.declared.opened.Unread.TheVariants.{NoRoom}
use Rattle.nofs_reader.specs.declared.usage.Used.{Used}

-- whether the inode is used whose place in the table is this one: inodes are counted from 1
abbrev pub is_used_place : Image → ℕ → Bool
is_used_place X n = is_used_inode X (n + 1)

-- what the scan of the image counts
pub record IsUsed (X : Image) (it : Used) : Type 0 where
  pub inodes : it.inodes ≡ inodes_of X
  pub used_inodes : it.used_inodes ≡ count_below (is_used_place X) (inodes_of X)
  pub blocks : it.blocks ≡ blocks_of X
  pub used_blocks : it.used_blocks ≡ count_below (is_used_block X) (blocks_of X)

-- why there is no count with room for so many marks: there is one for each inode
abbrev pub marks_unread : Image → ℕ → Option Unread
marks_unread X room = if nat_lt room (inodes_of X) then Some NoRoom else None

abbrev pub counts_unread : Image → ℕ → Option Unread
counts_unread X room = image_unread (superblock_of X) (marks_unread X room)

-- The machine's state: files, the blocks that are used, and what is known of both.
use Rattle.std.specs.Prelude.{ℕ, suc, ◌+◌, ◌/◌, Bool, true, false, ◌&&◌, ◌||◌, not, Option, Some, None, is_some}
use Rattle.std.specs.Prelude.{if◌then◌else◌, nat_le, unwrap_or}
use Rattle.nofs_model.specs.Geometry.{Image, super_at}
use Rattle.nofs_ptrs.specs.Paths.{Path, InRecord, Under, path_of}
use Rattle.nofs_model.specs.Files.{Absent, Present, Damaged, Files, is_special}
use Rattle.nofs_model.specs.Owners.{Home, owner}
use Rattle.nofs_history.specs.Meta.{is_bytes}
use Rattle.nofs_history.specs.Search.{count_below, least_from}
use Rattle.nofs_history.specs.Machine.{value_of, node_of, place_for}
use Rattle.nofs_history.specs.Since.{agreed_files}
use Rattle.nofs_history.specs.declared.machine.steps.Step.{Step}
use Rattle.nofs_history.specs.declared.machine.steps.Step.TheVariants as step

-- the state of the machine: files, homes, what is known, and the numbers of the mount
pub record World : Type 0 where
  pub version : ℕ
  pub blocks : ℕ
  pub inodes : ℕ
  pub mount : ℕ
  pub serial : ℕ
  pub stopped : Bool
  pub files : Files
  -- block by block, the slot that has it
  pub homes : ℕ → Option Home
  pub known_inodes : ℕ → Bool
  pub known_blocks : ℕ → Bool

-- an inode is used where it has a file; the root and the label file always are
abbrev pub uses_inode : World → ℕ → Bool
uses_inode W i = is_special i || is_some (W.files i)

-- the superblock and the inode table
abbrev pub is_fixed : World → ℕ → Bool
is_fixed W p = nat_le p (W.inodes / 4)

-- a block is used where it is fixed or has a home
abbrev pub uses_block : World → ℕ → Bool
uses_block W p = is_fixed W p || is_some (W.homes p)

-- known, and not used
abbrev pub is_free_inode : World → ℕ → Bool
is_free_inode W i = W.known_inodes i && not (uses_inode W i)

-- known, and not used
abbrev pub is_free_block : World → ℕ → Bool
is_free_block W p = W.known_blocks p && not (uses_block W p)

-- how many inodes are known to be free
abbrev pub free_inodes : World → ℕ
free_inodes W = count_below (λ n. is_free_inode W (suc n)) W.inodes

-- how many blocks are
abbrev pub free_blocks : World → ℕ
free_blocks W = count_below (λ p. is_free_block W p) W.blocks

-- how many inodes are not known
abbrev pub unverified_inodes : World → ℕ
unverified_inodes W = count_below (λ n. not (W.known_inodes (suc n))) W.inodes

-- how many blocks are not
abbrev pub unverified_blocks : World → ℕ
unverified_blocks W = count_below (λ p. not (W.known_blocks p)) W.blocks

-- the least inode that is not known, 0 where all are
abbrev pub next_inode : World → ℕ
next_inode W = unwrap_or (least_from (λ i. not (W.known_inodes i)) 1 W.inodes) 0

-- the least block that is not known, 0 where all are
abbrev pub next_block : World → ℕ
next_block W = unwrap_or (least_from (λ p. not (W.known_blocks p)) 0 W.blocks) 0

-- The world of a base

unfoldable pub world_of : Image → ℕ → World
world_of B first = record {
  version = (super_at B).version;
  blocks = (super_at B).blocks;
  inodes = (super_at B).inodes;
  mount = (super_at B).mount;
  serial = first;
  stopped = false;
  files = agreed_files B;
  homes = owner B;
  known_inodes = λ i. is_special i;
  known_blocks = λ p. nat_le p ((super_at B).inodes / 4);
}

-- What a step needs

abbrev pub absent_above : Files → ℕ → Path → ℕ
absent_above F i (InRecord n) = 0
absent_above F i (Under above n) =
    absent_above F i above + elim (node_of F i above) [ Absent ↦ 1 | Present ↦ 0 | Damaged ↦ 0 ]

-- whether one of them is damaged
abbrev pub damaged_above : Files → ℕ → Path → Bool
damaged_above F i (InRecord n) = false
damaged_above F i (Under above n) =
    damaged_above F i above || elim (node_of F i above) [ Absent ↦ false | Present ↦ false | Damaged ↦ true ]

-- the blocks that a cell in slot k asks for
abbrev pub blocks_for : Files → ℕ → ℕ → ℕ
blocks_for F i k = if is_bytes (value_of F i k) then 0 else 1 + absent_above F i (path_of k)

-- the blocks that a cell for entry e asks for
abbrev pub blocks_at : Files → ℕ → Option ℕ → ℕ
blocks_at F d None = 0
blocks_at F d (Some e) = blocks_for F d (e / 16)

-- the blocks that a step claims
abbrev pub blocks_needed : Files → Step → ℕ
blocks_needed F (step.Put i g k at bytes) = blocks_for F i k
blocks_needed F (step.Make d g name kind) = blocks_at F d (place_for F d name)
blocks_needed F (step.Link d g name i of) = blocks_at F d (place_for F d name)
blocks_needed F (step.Look _ _ _) = 0
blocks_needed F (step.Drop _ _ _) = 0
blocks_needed F (step.Rename _ _ _ _) = 0
blocks_needed F (step.List _ _ _) = 0
blocks_needed F (step.Get _ _ _) = 0
blocks_needed F (step.Resize _ _ _) = 0
blocks_needed F (step.Stat _ _) = 0
blocks_needed F (step.Flush _ _) = 0
blocks_needed F (step.SeeInode _) = 0
blocks_needed F (step.SeeBlock _) = 0

-- the inodes that a step claims
abbrev pub inodes_needed : Step → ℕ
inodes_needed (step.Make d g name kind) = 1
inodes_needed (step.Look _ _ _) = 0
inodes_needed (step.Link _ _ _ _ _) = 0
inodes_needed (step.Drop _ _ _) = 0
inodes_needed (step.Rename _ _ _ _) = 0
inodes_needed (step.List _ _ _) = 0
inodes_needed (step.Get _ _ _) = 0
inodes_needed (step.Put _ _ _ _ _) = 0
inodes_needed (step.Resize _ _ _) = 0
inodes_needed (step.Stat _ _) = 0
inodes_needed (step.Flush _ _) = 0
inodes_needed (step.SeeInode _) = 0
inodes_needed (step.SeeBlock _) = 0

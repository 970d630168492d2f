-- What a step claims, and where each used block belongs after it.
use Rattle.std.specs.Prelude.{◌≡◌, ◌≢◌, ℕ, ◌+◌, ◌*◌, ◌/◌, ◌^◌, ◌<◌, ◌≤◌, Bool, true, false, ◌&&◌, not, List, [], ◌∷◌}
use Rattle.std.specs.Prelude.{◌++◌, Option, Some, None, option_map, if◌then◌else◌, nat_lt, ◌==◌, Contains}
use Rattle.nofs_disk.specs.declared.tag.Pointer.{Pointer}
use Rattle.nofs_disk.specs.Pointer.{null}
use Rattle.nofs_ptrs.specs.Paths.{slot_limit, Path, InRecord, Under, path_of, slot_of}
use Rattle.nofs_model.specs.Files.{NodeState, Absent, Present, Damaged, Files}
use Rattle.nofs_model.specs.Owners.{Home, home_at}
use Rattle.nofs_history.specs.Meta.{is_bytes}
use Rattle.nofs_history.specs.Search.{first_of}
use Rattle.nofs_history.specs.Machine.{value_of, node_of, place_for}
use Rattle.nofs_history.specs.World.{World, is_free_inode, is_free_block, inodes_needed, blocks_needed}
use Rattle.nofs_history.specs.declared.machine.history.Claims.{Claims}
use Rattle.nofs_history.specs.declared.machine.steps.Step.{Step}
use Rattle.nofs_history.specs.declared.machine.steps.Step.TheVariants as step

-- Claims

abbrev pub no_claims : Claims
no_claims = record { inode = 0; generation = 0; cell = null; leaf = null; top = null }

-- whether a part names a block
abbrev pub is_claimed : Pointer → Bool
is_claimed x = not (x.block == 0)

-- the blocks that a claim names
abbrev pub claimed_blocks : Claims → List Pointer
claimed_blocks c = (if is_claimed c.cell then c.cell ∷ [] else []) ++ (if is_claimed c.leaf then c.leaf ∷ [] else []) ++
    (if is_claimed c.top then c.top ∷ [] else [])

-- blocks that differ
abbrev pub Apart : List Pointer → Type 0
Apart [] = Unit {0}
Apart (x ∷ xs) = ((y : Pointer) → Contains xs y → x.block ≢ y.block) × Apart xs

-- where a block is wanted, one that is known and free is claimed with this stamp
pub data IsBlockClaim (W : World) (stamp : ℕ) (x : Pointer) : Bool → Type 0 where
  Claimed : is_free_block W x.block ≡ true → x.block < W.blocks → x.stamp ≡ stamp → IsBlockClaim W stamp x true
  Unclaimed : x ≡ null → IsBlockClaim W stamp x false

-- where an inode is wanted, one that is known and free is claimed with this generation
pub data IsInodeClaim (W : World) (generation : ℕ) (c : Claims) : Bool → Type 0 where
  ClaimedInode : is_free_inode W c.inode ≡ true → 1 ≤ c.inode → c.inode ≤ W.inodes → c.generation ≡ generation
      → IsInodeClaim W generation c true
  NoInode : c.inode ≡ 0 → c.generation ≡ 0 → IsInodeClaim W generation c false

-- the next generation or stamp
abbrev pub next_stamp : World → ℕ
next_stamp W = W.mount * 2 ^ 40 + W.serial

-- a step claims what it needs, part by part: an inode; the cell where one block is needed at least, the leaf or child
-- above it where two, and the top where three. The stamps count up in this order
pub record IsClaim (W : World) (step : Step) (c : Claims) : Type 0 where
  pub inode : IsInodeClaim W (next_stamp W) c (nat_lt 0 (inodes_needed step))
  pub cell : IsBlockClaim W (next_stamp W + inodes_needed step) c.cell (nat_lt 0 (blocks_needed W.files step))
  pub leaf : IsBlockClaim W (next_stamp W + inodes_needed step + 1) c.leaf (nat_lt 1 (blocks_needed W.files step))
  pub top : IsBlockClaim W (next_stamp W + inodes_needed step + 2) c.top (nat_lt 2 (blocks_needed W.files step))
  pub apart : Apart (claimed_blocks c)

-- Homes after a step

-- the slot of a cell that a step may claim
abbrev pub cell_slot : Files → Step → Option Home
cell_slot F (step.Put i g k at bytes) = Some (home_at i k)
cell_slot F (step.Make d g name kind) = option_map (λ e. home_at d (e / 16)) (place_for F d name)
cell_slot F (step.Link d g name i of) = option_map (λ e. home_at d (e / 16)) (place_for F d name)
cell_slot F (step.Look _ _ _) = None
cell_slot F (step.Drop _ _ _) = None
cell_slot F (step.Rename _ _ _ _) = None
cell_slot F (step.List _ _ _) = None
cell_slot F (step.Get _ _ _) = None
cell_slot F (step.Resize _ _ _) = None
cell_slot F (step.Stat _ _) = None
cell_slot F (step.Flush _ _) = None
cell_slot F (step.SeeInode _) = None
cell_slot F (step.SeeBlock _) = None

-- the slot of the block of pointers above
abbrev pub slot_above : Path → Path
slot_above (InRecord n) = InRecord n
slot_above (Under above n) = above

-- the home that the claims of this step make of block p
abbrev pub claimed_home : Files → Step → Claims → ℕ → Option Home
claimed_home F step c p = elim (cell_slot F step) [
  | None ↦ None
  | Some at ↦ first_of (
      (if is_claimed c.cell && (p == c.cell.block) then Some at else None)
      ∷ (if is_claimed c.leaf && (p == c.leaf.block)
      then Some (home_at at.inode (slot_of (slot_above (path_of at.slot)))) else None)
      ∷ (if is_claimed c.top && (p == c.top.block)
      then Some (home_at at.inode (slot_of (slot_above (slot_above (path_of at.slot))))) else None)
      ∷ [])
]

-- whether a block of pointers is there
abbrev pub is_present : NodeState → Bool
is_present Absent = false
is_present Present = true
is_present Damaged = false

-- the slot still has its block
abbrev pub has_block : Files → Home → Bool
has_block F home = if nat_lt home.slot slot_limit then is_bytes (value_of F home.inode home.slot)
    else is_present (node_of F home.inode (path_of home.slot))

-- claimed blocks get their home, others keep theirs where the slot still has its block
abbrev pub homes_after : World → Step → Claims → Files → ℕ → Option Home
homes_after W step c files p = elim (claimed_home W.files step c p) [
  | Some home ↦ Some home
  | None ↦ elim (W.homes p) [ None ↦ None | Some home ↦ if has_block files home then Some home else None ]
]

-- The steps of the machine, and its runs.
use Rattle.std.specs.Prelude.{◌≡◌, ◌≢◌, ℕ, ◌+◌, ◌<◌, ◌≤◌, ◌⊎◌, Bool, true, false, ◌||◌, List, [], ◌∷◌, Some, None, ◌==◌}
use Rattle.nofs_model.specs.Geometry.{Image}
use Rattle.nofs_history.specs.Search.{first_of}
use Rattle.nofs_history.specs.Machine.{gives, files_after}
use Rattle.nofs_history.specs.World.{World, uses_inode, uses_block, inodes_needed, blocks_needed, world_of}
use Rattle.nofs_history.specs.Refusals.{rows, reads_nothing, may_write}
use Rattle.nofs_history.specs.Answers.{reply_of}
use Rattle.nofs_history.specs.Claims.{no_claims, IsClaim, homes_after}
use Rattle.nofs_history.specs.HistoryState.{HistoryState}
use Rattle.nofs_history.specs.declared.machine.history.Entry1.{Entry1}
use Rattle.nofs_history.specs.declared.machine.steps.Step.{Step}
use Rattle.nofs_history.specs.declared.machine.steps.Step.TheVariants as step
use Rattle.nofs_history.specs.declared.machine.replies.Reply.{Reply}
use Rattle.nofs_history.specs.declared.machine.replies.Reply.TheVariants as reply
use Rattle.nofs_history.specs.declared.machine.replies.Refusal.{Refusal}
use Rattle.nofs_history.specs.declared.machine.replies.Refusal.TheVariants as refusal

-- files, homes and serial stay
pub record Keeps (W V : World) : Type 0 where
  pub version : V.version ≡ W.version
  pub blocks : V.blocks ≡ W.blocks
  pub inodes : V.inodes ≡ W.inodes
  pub mount : V.mount ≡ W.mount
  pub serial : V.serial ≡ W.serial
  pub files : V.files ≡ W.files
  pub homes : V.homes ≡ W.homes

-- the inodes that a step names, a See step too
abbrev pub names_inode : Step → ℕ → Bool
names_inode (step.Look d g name) j = j == d
names_inode (step.Make d g name kind) j = j == d
names_inode (step.Link d g name i of) j = (j == d) || (j == i)
names_inode (step.Drop d g name) j = j == d
names_inode (step.Rename d g old new) j = j == d
names_inode (step.List d g slot) j = j == d
names_inode (step.Get i g k) j = j == i
names_inode (step.Put i g k at bytes) j = j == i
names_inode (step.Resize i g size) j = j == i
names_inode (step.Stat i g) j = j == i
names_inode (step.Flush i g) j = j == i
names_inode (step.SeeInode i) j = j == i
names_inode (step.SeeBlock p) j = false

-- the inode that a See step examines
abbrev pub sees_inode : Step → ℕ → Bool
sees_inode (step.SeeInode i) j = j == i
sees_inode _ j = false

-- the block that one examines
abbrev pub sees_block : Step → ℕ → Bool
sees_block (step.SeeBlock p) q = q == p
sees_block _ q = false

-- What becomes known: what changes its verdict, and what a See step that was done examines; at a choice what is used
-- and the inodes that the step names, also where a read failed; and nothing else
pub record Learns (W : World) (step : Step) (seen : Bool) (V : World) : Type 0 where
  pub inodes_stay : (i : ℕ) → W.known_inodes i ≡ true → V.known_inodes i ≡ true
  pub blocks_stay : (p : ℕ) → W.known_blocks p ≡ true → V.known_blocks p ≡ true
  pub inodes_change : (i : ℕ) → uses_inode V i ≢ uses_inode W i → V.known_inodes i ≡ true
  pub blocks_change : (p : ℕ) → uses_block V p ≢ uses_block W p → V.known_blocks p ≡ true
  pub inode_seen : seen ≡ true → (i : ℕ) → sees_inode step i ≡ true → V.known_inodes i ≡ true
  pub block_seen : seen ≡ true → (p : ℕ) → sees_block step p ≡ true → V.known_blocks p ≡ true
  pub inodes_why : (i : ℕ) → V.known_inodes i ≡ true
      → (W.known_inodes i ≡ true)
      ⊎ ((uses_inode V i ≡ true) ⊎ ((uses_inode V i ≢ uses_inode W i) ⊎ (names_inode step i ≡ true)))
  pub blocks_why : (p : ℕ) → V.known_blocks p ≡ true → (W.known_blocks p ≡ true) ⊎
      ((uses_block V p ≡ true) ⊎ ((uses_block V p ≢ uses_block W p) ⊎ ((seen ≡ true) × (sees_block step p ≡ true))))

-- one step of the machine: this entry leads from W to V
pub data Next (W : World) (e : Entry1) (V : World) : Type 0 where
  -- after a write fault nothing is done
  AfterFault : W.stopped ≡ true → e.reply ≡ reply.Refused refusal.Stopped → e.claims ≡ no_claims → V ≡ W → Next W e V
  -- a row comes, or a read failed on the way to it
  ByRow : (why : Refusal) → W.stopped ≡ false → first_of (rows W V e.step) ≡ Some why
      → (e.reply ≡ reply.Refused why) ⊎ ((e.reply ≡ reply.Refused refusal.ReadFault) × (reads_nothing why ≡ false))
      → e.claims ≡ no_claims → Keeps W V
      → V.stopped ≡ false → Learns W e.step false V → Next W e V
  -- no row comes, and the step is done
  Done : W.stopped ≡ false → first_of (rows W V e.step) ≡ None → e.reply ≡ reply_of W e.step e.claims
      → IsClaim W e.step e.claims
      → V.files ≡ files_after W.files (gives W.files e.step e.claims) → V.homes ≡ homes_after W e.step e.claims V.files
      → V.serial ≡ W.serial + inodes_needed e.step + blocks_needed W.files e.step
      → (V.version ≡ W.version) × (V.blocks ≡ W.blocks) × (V.inodes ≡ W.inodes) × (V.mount ≡ W.mount)
      × (V.stopped ≡ false) → Learns W e.step true V
      → Next W e V
  -- no row comes, but a read failed
  ByRead : W.stopped ≡ false → first_of (rows W V e.step) ≡ None → e.reply ≡ reply.Refused refusal.ReadFault
      → e.claims ≡ no_claims → Keeps W V
      → V.stopped ≡ false → Learns W e.step false V → Next W e V
  -- no row comes, but a write or a flush failed
  ByWrite : W.stopped ≡ false → first_of (rows W V e.step) ≡ None → may_write e.step ≡ true
      → e.reply ≡ reply.Refused refusal.WriteFault
      → IsClaim W e.step e.claims → Keeps W V → V.stopped ≡ true → Learns W e.step false V → Next W e V

-- A run, entry by entry, from a moment on

abbrev pub takes_time : Reply → Bool
takes_time reply.Flushed = true
takes_time (reply.Refused refusal.WriteFault) = true
-- no other refusal comes after a write or a flush
takes_time (reply.Refused _) = false
takes_time (reply.Found _) = false
takes_time (reply.Made _ _) = false
takes_time reply.Linked = false
takes_time (reply.Dropped _) = false
takes_time reply.Renamed = false
takes_time (reply.Names _ _) = false
takes_time (reply.LostNames _) = false
takes_time reply.NoMore = false
takes_time (reply.Bytes _) = false
takes_time reply.Hole = false
takes_time reply.Lost = false
takes_time reply.Stored = false
takes_time reply.Resized = false
takes_time (reply.Stat _) = false
takes_time (reply.Seen _) = false

-- these entries lead from W to V; each begins at the moment at which the one before ended
abbrev pub Run : ℕ → World → List Entry1 → World → Type 0
Run start W [] V = V ≡ W
Run start W (e ∷ es) V = (U : World) × (e.from ≡ start) × (e.from ≤ e.to) × (takes_time e.reply ≡ true → e.from < e.to)
    × Next W e U × Run e.to U es V

-- V is the world that a run of this history ends in, from the world of the base with this first serial
abbrev pub IsAfter : Image → ℕ → HistoryState → World → Type 0
IsAfter B first H V = Run H.start (world_of B first) H.entries V

-- The numbers that a step writes: old ones, and those that it claims.
use Rattle.std.specs.Prelude.{◌≡◌, ◌≢◌, ℕ, ◌+◌, ◌-◌, ◌*◌, ◌/◌, ◌%◌, ◌^◌, ◌<◌, ◌≤◌, ◌⊎◌, true, false, Some, List, IfSome}
use Rattle.std.specs.Prelude.{All, Contains}
use Rattle.nofs_crashlaw.specs.Untouched.Frames.{OldPointers}
use Rattle.nofs_history.specs.declared.machine.steps.Step.{Step}
use Rattle.nofs_history.specs.declared.machine.history.Claims.{Claims}
use Rattle.nofs_history.specs.declared.machine.history.Entry1.{Entry1}
use Rattle.nofs_history.specs.Machine.{is_write_fault}
use Rattle.nofs_history.specs.World.{World, inodes_needed, blocks_needed}
use Rattle.nofs_history.specs.Claims.{claimed_blocks, next_stamp}
use Rattle.nofs_history.specs.Next.{Next}
use Rattle.nofs_history.specs.Good.{IsFresh}
use Rattle.nofs_disk.specs.declared.tag.Cell.{Cell}
use Rattle.nofs_disk.specs.declared.tag.Kind.TheVariants.{Content, Directory, Leaf, Table}
use Rattle.nofs_disk.specs.declared.tag.Tag.{Tag}
use Rattle.nofs_disk.specs.declared.tag.Pointer.{Pointer}
use Rattle.nofs_inode.specs.declared.inode.Record.{Record}
use Rattle.nofs_disk.specs.Tag.{tag_of}
use Rattle.nofs_ptrs.specs.Cells.{pointer_at}
use Rattle.nofs_inode.specs.InodeRecords.{record_at, is_live}
use Rattle.nofs_dirent.specs.Entries.{entry_in}
use Rattle.nofs_model.specs.Geometry.{Image, super_at, is_mountable, is_data_block, is_inode, inode}
use Rattle.nofs_disk.specs.Disk.{cell_at}
use Rattle.nofs_model.specs.Slots.{record_pointer}
use Rattle.nofs_model.specs.Sound.{CellBelow, IsBelow}

-- how many a step claims
abbrev pub needed : World → Step → ℕ
needed W step = inodes_needed step + blocks_needed W.files step

-- a number that a step may write
pub data Numbered (W : World) (c : Claims) (n : ℕ) : Type 0 where
  Old : n < next_stamp W → Numbered W c n
  Stamp : (x : Pointer) → Contains (claimed_blocks c) x → n ≡ x.stamp → Numbered W c n
  Generation : c.inode ≢ 0 → n ≡ c.generation → Numbered W c n

pub record RecordNumbers (P : ℕ → Type 0) (r : Record) : Type 0 where
  pub generation : P r.generation
  pub links : All (λ l. P l.generation) r.links
  pub pointers : (n : ℕ) → n < 10 → P (record_pointer r n).stamp

-- why each number in a written cell is one that the step may write
pub data CellNumbers (P : ℕ → Type 0) (X : Image) (b : ℕ) (c : Cell) : Type 0 where
  InContent : is_data_block X b ≡ true → (t : Tag) → tag_of c.tag ≡ Some t → t.kind ≡ Content → P t.generation
      → P t.stamp → CellNumbers P X b c
  InDirectory : is_data_block X b ≡ true → (t : Tag) → tag_of c.tag ≡ Some t
      → t.kind ≡ Directory → P t.generation → P t.stamp
      → ((j : ℕ) → j < 16 → IfSome (entry_in c.payload j) (λ e. P e.generation)) → CellNumbers P X b c
  InPointers : is_data_block X b ≡ true → (t : Tag) → tag_of c.tag ≡ Some t → t.kind ≡ Leaf → P t.generation → P t.stamp
      → ((j : ℕ) → j < 64 → P (pointer_at c.payload j).stamp) → CellNumbers P X b c
  InTable : (t : Tag) → tag_of c.tag ≡ Some t → t.kind ≡ Table → P t.generation → P t.stamp
      → ((i : ℕ) → is_inode X i ≡ true → 1 + (i - 1) / 4 ≡ b → is_live (record_at c.payload ((i - 1) % 4)) ≡ true
      → RecordNumbers P (record_at c.payload ((i - 1) % 4))) → CellNumbers P X b c

-- may has nothing but what it had before the step, and cells with such numbers
abbrev pub OnlyNumbered : World → Claims → Image → (ℕ → List Cell) → (ℕ → List Cell) → Type 0
OnlyNumbered W c X before after = (b : ℕ) → b < W.blocks → (d : Cell) → Contains (after b) d
    → Contains (before b) d ⊎ CellNumbers (Numbered W c) X b d

-- every member of may is below a bound
abbrev pub AllBelow : ℕ → World → Image → (ℕ → List Cell) → Type 0
AllBelow bound W X may = (b : ℕ) → b < W.blocks → (c : Cell) → Contains (may b) c → CellBelow bound X b c

-- Fresh goes on over each step that has no fault of writing; and with one, all stays below what the step claims.
abbrev pub LawFresh : Type 0
LawFresh = (W V : World) (e : Entry1) (X Y : Image) (before after : ℕ → List Cell) → Next W e V
    → (super_at X).inodes % 4 ≡ 0 → cell_at Y 0 ≡ cell_at X 0
    → IsFresh W X before → OnlyNumbered W e.claims X before after
    → (is_write_fault e.reply ≡ false → IsFresh V Y after) × AllBelow (next_stamp W + needed W e.step) W Y after

-- the pointers of what is live are old, as the frame lemmas ask
abbrev pub LawOld : Type 0
LawOld = (s : ℕ) (X : Image) (i : ℕ) → 0 < s → is_mountable X ≡ true → IsBelow s X
    → is_live (inode X i) ≡ true → OldPointers s X i

-- All stays within the stamps of the mount, in each case and with a fault of writing too.
abbrev pub LawMountStamps : Type 0
LawMountStamps = (W V : World) (e : Entry1) (X Y : Image) (before after : ℕ → List Cell) → Next W e V
    → W.serial ≤ 2 ^ 40 → (super_at X).inodes % 4 ≡ 0
    → cell_at Y 0 ≡ cell_at X 0
    → IsFresh W X before → OnlyNumbered W e.claims X before after
    → (V.serial ≤ 2 ^ 40) × AllBelow ((W.mount + 1) * 2 ^ 40) W Y after

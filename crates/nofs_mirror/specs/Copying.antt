-- What copying the lead's cells onto the other does.
use Rattle.std.specs.Prelude.{◌≡◌, ◌⊎◌, ⊤, ℕ, ◌+◌, ◌*◌, ◌<◌, ◌≤◌, List, Contains, IfErr, IsTrue, OnOk, Result}
use Rattle.nofs_disk.specs.Disk.{DiskState, IsSameDisk, KeepsCells, KeepsPast, Rose, StaysButFaults, cell_at}
use Rattle.nofs_disk.specs.declared.tag.Cell.{Cell}
use Rattle.nofs_mirror.specs.declared.copying.CopyFault.{CopyFault}
use Rattle.nofs_mirror.specs.declared.copying.CopyFault.TheVariants.{Read, Write}

-- the lead was only read, and the other may have been written
pub record Copies (lead_old lead_new other_old other_new : DiskState) : Type 0 where
  pub lead : StaysButFaults lead_old lead_new
  pub disk : IsSameDisk other_old other_new
  pub past : KeepsPast other_old other_new
  pub later : other_old.moment ≤ other_new.moment

-- the first cells are those of the lead
abbrev pub HasCopied : DiskState → DiskState → ℕ → Type 0
HasCopied lead other blocks = (b : ℕ) → IsTrue lead.tells → IsTrue other.tells
    → b < blocks → cell_at other.now b ≡ cell_at lead.now b

-- a crash might have left this cell of a block before, or the block is one of the first and the cell is the lead's
abbrev pub IsOwnOrLeads : ℕ → DiskState → DiskState → ℕ → Cell → Type 0
IsOwnOrLeads blocks lead old b c =
    Contains (old.may b) c ⊎ ((b < blocks) × (IsTrue lead.tells → c ≡ cell_at lead.now b))

-- of each of the first blocks a disk has its own cell or the lead's, and of every other its own
pub record IsPartCopy (blocks : ℕ) (lead old new : DiskState) : Type 0 where
  pub first : (b : ℕ) → IsTrue lead.tells → b < blocks
      → (cell_at new.now b ≡ cell_at old.now b) ⊎ (cell_at new.now b ≡ cell_at lead.now b)
  pub rest : (b : ℕ) → blocks ≤ b → cell_at new.now b ≡ cell_at old.now b
  -- so does a crash that comes now
  pub may : (b : ℕ) (c : Cell) → Contains (new.may b) c → IsOwnOrLeads blocks lead old b c
  -- and so did one at each moment since
  pub during : (m : ℕ) (image : List Cell) → old.moment ≤ m → m ≤ new.moment → new.left m image
      → (b : ℕ) → b < old.blocks → IsOwnOrLeads blocks lead old b (cell_at image b)

-- the lead could not be read: the blocks before that one were copied, and nothing else was touched
pub record EndsAtRead (blocks : ℕ) (lead old new : DiskState) : Type 0 where
  -- the block that could not be read
  pub block : ℕ
  pub inside : block < blocks
  pub copied : HasCopied lead new block
  pub part : IsPartCopy block lead old new
  pub moment : new.moment ≡ old.moment + 2 * block
  -- where it was the first one, nothing was touched at all
  pub none : block ≡ 0 → KeepsCells old new

-- how a copy ended that stopped
abbrev pub EndsCopy : CopyFault → ℕ → DiskState → DiskState → DiskState → Type 0
EndsCopy Read blocks lead old new = EndsAtRead blocks lead old new
EndsCopy Write blocks lead old new = ⊤

-- a disk is not touched where the lead could not be read
abbrev pub IsUntouched : {D : Type 0} → CopyFault → D → D → Type 0
IsUntouched Read old new = new ≡ old
IsUntouched Write old new = ⊤

-- why a copy stopped
abbrev pub CopyCause : CopyFault → DiskState → DiskState → DiskState → DiskState → Type 0
CopyCause Read lead lead_new other other_new = Rose lead.faults lead_new.faults
CopyCause Write lead lead_new other other_new = Rose other.faults other_new.faults

-- the first blocks were copied, up to the first call that failed
pub record CopiesBlocks (blocks : ℕ) (lead lead_new other other_new : DiskState)
    (result : Result (Unit {0}) CopyFault) : Type 0 where
  pub copies : Copies lead lead_new other other_new
  pub part : IsPartCopy blocks lead other other_new
  pub copied : OnOk result (HasCopied lead other_new blocks)
  pub ends : IfErr result (λ fault. EndsCopy fault blocks lead other other_new)
  pub cause : IfErr result (λ fault. CopyCause fault lead lead_new other other_new)

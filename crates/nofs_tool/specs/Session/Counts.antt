-- The line of a scan, and the counts of the full scan of a disk.
use Rattle.std.specs.Prelude.{◌≡◌, ◌⊎◌, ℕ, suc, not, Bool, List, [], ◌∷◌, codes, ◌++◌, true, false, ◌||◌, IfSome}
use Rattle.std.specs.Prelude.{Some, None}
use Rattle.std.specs.Fmt.{decimal}
use Rattle.nofs_model.specs.Geometry.{Image, super_at}
use Rattle.nofs_model.specs.Owners.{is_used_block, is_used_inode}
use Rattle.nofs_history.specs.Search.{count_below}
use Rattle.nofs_history.specs.History.{NoWriteFault}
use Rattle.nofs_history.specs.Machine.{is_write_fault}
use Rattle.nofs_history.specs.declared.machine.history.Entry1.{Entry1}
use Rattle.nofs_history.specs.Next.{Run}
use Rattle.nofs_history.specs.World.{World}
use Rattle.nofs_state.specs.Books.Counts.{CountsBlocks, CountsInodes}
use Rattle.nofs_state.specs.declared.books.maps.Counts.{Counts}
use Rattle.std.specs.declared.option.Option.{Option}
use Rattle.nofs_disk.specs.Disk.{DiskState}
use Rattle.nofs_io.specs.Calls.{SinkState}
use Rattle.nofs_io.specs.Texts.{AppendsAll}
use Rattle.nofs_history.specs.HistoryState.{HistoryState}
use Rattle.nofs_history.specs.Faults.{has_fault}
use Rattle.nofs_tool.specs.Session.Whole.{IsMet, found_world}
use Rattle.nofs_tool.specs.Runs.Says.{Prints}

-- so many of one kind are used, free and not examined
abbrev pub kind_text : List ℕ → ℕ → ℕ → ℕ → List ℕ
kind_text kind used free unchecked =
    kind ++ decimal used ++ (codes " free " ++ decimal free) ++ (codes " unchecked " ++ decimal unchecked)

-- the line of a scan
abbrev pub counts_line : Counts → List ℕ
counts_line c =
    kind_text (codes "inodes used ") c.inodes_used c.inodes_free c.inodes_unchecked
    ++ kind_text (codes ", blocks used ") c.blocks_used c.blocks_free c.blocks_unchecked
    ++ codes "\n"

-- these are the counts of the full scan of the disk: all others are free, and none was left out
pub record CountsDisk (X : Image) (c : Counts) : Type 0 where
  pub inodes_used : c.inodes_used ≡ count_below (λ n. is_used_inode X (suc n)) (super_at X).inodes
  pub inodes_free : c.inodes_free ≡ count_below (λ n. not (is_used_inode X (suc n))) (super_at X).inodes
  pub inodes_unchecked : c.inodes_unchecked ≡ 0
  pub blocks_used : c.blocks_used ≡ count_below (λ p. is_used_block X p) (super_at X).blocks
  pub blocks_free : c.blocks_free ≡ count_below (λ p. not (is_used_block X p)) (super_at X).blocks
  pub blocks_unchecked : c.blocks_unchecked ≡ 0

-- these are the counts of the machine's world at the end of the history, which began with the disk that was found
pub record CountsMachine (found : DiskState) (h : HistoryState) (c : Counts) : Type 0 where
  pub world : World
  pub run : Run h.start (found_world found) h.entries world
  pub inodes : CountsInodes world c
  pub blocks : CountsBlocks world c

-- What the line of a scan counts, at each status that has one: where the premises are met and no write failed, the
-- verdicts of the machine; and where no call of the device failed, those of the full scan of the disk handed back
pub record IsCounted (found last : DiskState) (h : HistoryState) (c : Counts) : Type 0 where
  pub machine : ∥ (IsMet found → NoWriteFault h.entries → CountsMachine found h c) ∥₁
  pub disk : ∥ (IsMet found → has_fault h.entries ≡ false → CountsDisk last.now c) ∥₁

-- whether a write of the device or a flush failed in some step
abbrev pub has_write_fault : List Entry1 → Bool
has_write_fault [] = false
has_write_fault (e ∷ es) = is_write_fault e.reply || has_write_fault es

-- The text of a scan: the line of the counts, of which this is known. Where a write or the last flush failed it is
-- empty, since the maps of the mount are not used again
abbrev pub IsScanText : List Entry1 → (Counts → Type 0) → List ℕ → Type 0
IsScanText entries Known text =
    (NoWriteFault entries × ((c : Counts) × (text ≡ counts_line c) × Known c))
    ⊎ ((has_write_fault entries ≡ true) × (text ≡ []))

-- the text of a scan was told
abbrev pub SaysCounts : DiskState → DiskState → Option HistoryState → SinkState → SinkState → Type 0
SaysCounts found last h old new = IfSome h
    (λ x. (text : List ℕ) × IsScanText x.entries (IsCounted found last x) text × Prints old new text)

-- a scan was made: no call of the device failed, and the sink took the line of these counts. Where the premises are
-- met, they are those of the full scan of the disk handed back
abbrev pub IsScanned : DiskState → DiskState → Option HistoryState → SinkState → SinkState → Type 0
IsScanned found last None old new = ⊥
IsScanned found last (Some h) old new = (has_fault h.entries ≡ false) ×
    ((c : Counts) × AppendsAll old new (counts_line c) × ∥ (IsMet found → CountsDisk last.now c) ∥₁)

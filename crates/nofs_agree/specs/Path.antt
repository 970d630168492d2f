-- What a check of a slot answers, over any disk.
use Rattle.std.specs.Prelude.{◌≡◌, IsTrue, Result, IfOk, OnOk, OnErr}
use Rattle.nofs_disk.specs.declared.Failed.{Failed}
use Rattle.nofs_disk.specs.Disk.{DiskState, StaysButFaults, Rose, cell_at}
use Rattle.nofs_disk.specs.declared.tag.Cell.{Cell}
use Rattle.nofs_super.specs.declared.superblock.SuperBlock.{SuperBlock}
use Rattle.nofs_model.specs.Geometry.{Image}
use Rattle.nofs_model.specs.Places.{InArea}
use Rattle.nofs_model.specs.declared.image.path.PathAnswer.{PathAnswer}
use Rattle.nofs_model.specs.declared.image.path.PathAnswer.TheVariants.{Hole, Holds, Lost}
use Rattle.nofs_agree.specs.Reads.{IsLast}
use Rattle.nofs_agree.specs.declared.reads.LastRead.{LastRead}

-- the cell is that of the block that holds
abbrev pub IsCellOf : Image → PathAnswer → Cell → Type 0
IsCellOf X Hole c = Unit {0}
IsCellOf X (Holds x) c = c ≡ cell_at X x.block
IsCellOf X Lost c = Unit {0}

-- the answer is this one of the image, where the disk tells, and the cell of the block that holds is kept
pub record FindsSlot (old new : DiskState) (at : SuperBlock) (answer : Image → PathAnswer) (last : LastRead)
    (result : Result PathAnswer Failed) : Type 0 where
  pub stays : StaysButFaults old new
  pub found : IfOk result (λ a. IsTrue old.tells → a ≡ answer old.now)
  pub area : IfOk result (λ a. InArea at a)
  pub cell : IfOk result (λ a. IsTrue old.tells → IsCellOf old.now a last.cell)
  pub kept : OnOk result (IsLast new last)
  pub cause : OnErr result (Rose old.faults new.faults)
  pub no_fault : OnOk result (new.faults ≡ old.faults)

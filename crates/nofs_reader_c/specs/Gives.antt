-- What C is given: the structs of answers that are those of the image.
use Rattle.std.specs.Prelude.{◌≡◌, ℕ, List, Ok}
use Rattle.nofs_super.specs.declared.superblock.SuperBlock.{SuperBlock}
use Rattle.nofs_model.specs.Geometry.{Image}
use Rattle.nofs_reader.specs.Answers.{IsStat, superblock_of}
use Rattle.nofs_reader.specs.Directories.{IsLooked, IsNext}
use Rattle.nofs_reader.specs.Gets.{IsRun, RestKept}
use Rattle.nofs_reader.specs.declared.gets.Run.{Run}
use Rattle.nofs_reader.specs.declared.lists.NextLine.{NextLine}
use Rattle.nofs_reader.specs.declared.looks.Looked.{Looked}
use Rattle.nofs_reader.specs.declared.stats.InodeStat.{InodeStat}
use Rattle.nofs_reader_c.specs.Outs as outs
use Rattle.nofs_reader_c.specs.declared.outs.CLine.{CLine}
use Rattle.nofs_reader_c.specs.declared.outs.CRun.{CRun}
use Rattle.nofs_reader_c.specs.declared.outs.CStat.{CStat}
use Rattle.nofs_reader_c.specs.declared.outs.CSuperblock.{CSuperblock}

-- the superblock of the image
pub record GivesSuperblock (X : Image) (given : CSuperblock) : Type 0 where
  pub it : SuperBlock
  pub is : superblock_of X ≡ Ok it
  pub out : given ≡ outs.superblock_of it

-- what the inode is
pub record GivesStat (X : Image) (i : ℕ) (given : CStat) : Type 0 where
  pub it : InodeStat
  pub is : IsStat X i it
  pub out : given ≡ outs.stat_of it

-- the run of slots from one on, whose bytes are here
pub record GivesRun (X : Image) (i from : ℕ) (old into : List ℕ) (given : CRun) : Type 0 where
  pub it : Run
  pub is : IsRun X i from into it
  -- only the bytes of its slots were put there
  pub rest : RestKept old into it
  pub out : given ≡ outs.run_of it

-- what the directory has from a place on
pub record GivesNext (X : Image) (d from : ℕ) (given : CLine) : Type 0 where
  pub it : NextLine
  pub is : IsNext X d from it
  pub out : given ≡ outs.next_of it

-- what the name finds in the directory
pub record GivesLooked (X : Image) (d : ℕ) (name : List ℕ) (given : CLine) : Type 0 where
  pub it : Looked
  pub is : IsLooked X d name it
  pub out : given ≡ outs.looked_of it

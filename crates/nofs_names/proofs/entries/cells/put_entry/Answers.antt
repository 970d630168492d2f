use Rattle.std.proofs.Common.{arith}
use Rattle.nofs_dirent.specs.EntryLaws.{spelled_entry-spells}
use Rattle.nofs_names.proofs.entries.cells.put_entry.Goals as goal

pub returns-in_err-from_slice-clause-spells : goal.returns-in_err-from_slice-clause-spells
returns-in_err-from_slice-clause-spells c =
    spelled_entry-spells c.args.inode c.args.generation c.args.name.now c.requires.spelling.inode (let h =
    c.ranges.inode.fits in omega (arith, h)) c.requires.spelling.generation
    (let h = c.ranges.generation.fits in omega (arith, h)) c.requires.spelling.name

pub returns-clause-spells : goal.returns-clause-spells
returns-clause-spells c =
    spelled_entry-spells c.args.inode c.args.generation c.args.name.now c.requires.spelling.inode (let h =
    c.ranges.inode.fits in omega (arith, h)) c.requires.spelling.generation
    (let h = c.ranges.generation.fits in omega (arith, h)) c.requires.spelling.name

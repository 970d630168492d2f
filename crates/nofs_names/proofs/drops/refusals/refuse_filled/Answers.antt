use Rattle.std.proofs.Common.{Bool, Ok, subst}
use Rattle.nofs_dirent.specs.Entries.{entry_limit}
use Rattle.nofs_names.specs.Drops.Emptiness.{NamesOn}
use Rattle.nofs_names.proofs.OnDrops.Refusals.{a-file, is-empty, is-filled}
use Rattle.nofs_names.proofs.drops.refusals.refuse_filled.Goals as goal

pub returns-in-File : goal.returns-in-File
returns-in-File g c =
    a-file (g.D.Disk.state c.args.disk.now) c.args.at.now c.args.found.now c.requires.known c.in-File.is

pub returns-in-Ok-true : goal.returns-in-Ok-true
returns-in-Ok-true g c = is-filled _ _ _ c.requires.known _ _ c.in-Directory.is
    (subst (λ (b : Bool). NamesOn (g.D.Disk.state c.args.disk.now) (g.D.Disk.state c.has_names.new.disk)
    c.args.found.now.inode 0 entry_limit c.has_names.new.records (Ok b)) c.in-Ok-true.field-0-test
    c.in-Ok-true.ensures.search)

pub returns-in-Ok-false : goal.returns-in-Ok-false
returns-in-Ok-false g c = is-empty _ _ _ c.requires.known _ _ c.in-Directory.is
    (subst (λ (b : Bool). NamesOn (g.D.Disk.state c.args.disk.now) (g.D.Disk.state c.has_names.new.disk)
    c.args.found.now.inode 0 entry_limit c.has_names.new.records (Ok b)) c.in-Ok-false.field-0-test
    c.in-Ok-false.ensures.search)

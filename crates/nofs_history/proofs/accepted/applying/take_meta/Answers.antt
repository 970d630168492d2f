-- The file is taken out, and what is left of it is put back.
use Rattle.std.proofs.Common.{refl, sym, ◌∙◌, ap}
use Rattle.nofs_history.specs.Machine as machine
use Rattle.nofs_history.specs.Accepted.Files.{kept_file, kept_files_of, file_of}
use Rattle.nofs_history.specs.Accepted.Taken.{metas_alone}
use Rattle.nofs_history.specs.Accepted.Given.{meta_now}
use Rattle.nofs_history.proofs.OnAccepted.Aimed.{meta-aimed}
use Rattle.nofs_history.proofs.OnAccepted.Changed.{change-none, change-there, change-gone, meta-there}
use Rattle.nofs_history.proofs.accepted.applying.take_meta.Goals as goal

pub returns-in-None : goal.returns-in-None
returns-in-None c = change-none (kept_files_of c.args.files.now) (kept_files_of c.take.new.self)
    (metas_alone (machine.meta_given c.args.given.inode c.args.given.generation (meta_now c.args.given.meta)))
    c.args.given.inode c.args.given.generation
    (meta-aimed c.args.given.inode c.args.given.generation (meta_now c.args.given.meta)) (c.in-None.ensures.none refl)
    (c.in-None.ensures.missing refl)

pub returns-in-None-with_meta : goal.returns-in-None-with_meta
returns-in-None-with_meta c = change-gone (kept_files_of c.args.files.now) (kept_files_of c.take.new.self)
    (metas_alone (machine.meta_given c.args.given.inode c.args.given.generation (meta_now c.args.given.meta)))
    c.args.given.inode c.args.given.generation
    (file_of c.in-Some.file)
    (meta-aimed c.args.given.inode c.args.given.generation (meta_now c.args.given.meta)) c.in-Some.ensures.taken
    c.in-Some.ensures.left
    (meta-there c.args.given.inode c.args.given.generation (meta_now c.args.given.meta)
    (file_of c.in-Some.file) c.in-Some.ensures.same
    ∙ sym c.in-None-with_meta.ensures)

pub returns-in_ok-put-in-Some-with_meta : goal.returns-in_ok-put-in-Some-with_meta
returns-in_ok-put-in-Some-with_meta c =
    change-there (kept_files_of c.args.files.now) (kept_files_of c.take.new.self) (kept_files_of c.put.new.self)
    (metas_alone (machine.meta_given c.args.given.inode c.args.given.generation (meta_now c.args.given.meta)))
    c.args.given.inode c.args.given.generation
    (file_of c.in-Some.file) (file_of c.in-Some-with_meta.changed)
    (meta-aimed c.args.given.inode c.args.given.generation (meta_now c.args.given.meta)) c.in-Some.ensures.taken
    c.in-Some.ensures.left
    c.in_ok-put-in-Some-with_meta.ensures
    (ap kept_file (meta-there c.args.given.inode c.args.given.generation (meta_now c.args.given.meta)
    (file_of c.in-Some.file) c.in-Some.ensures.same
    ∙ sym c.in-Some-with_meta.ensures))

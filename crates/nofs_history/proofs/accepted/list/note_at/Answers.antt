-- What one entry gives is what the list grows by.
use Rattle.std.proofs.Common.{sym}
use Rattle.nofs_history.specs.Accepted.Files.{kept_files_of}
use Rattle.nofs_history.proofs.OnAccepted.Gathered.{gather-next, fit-at, is-there}
use Rattle.nofs_history.proofs.accepted.list.note_at.Goals as goal

pub returns-in-None : goal.returns-in-None
returns-in-None c = absurd (is-there c.args.history.now.entries c.args.at c.requires.place (sym c.in-None.ensures))

pub returns-in_ok-note_entry-in-Some : goal.returns-in_ok-note_entry-in-Some
returns-in_ok-note_entry-in-Some c = λ fit.
    let here = sym c.in-Some.ensures in
    let keeps = fit-at c.args.history.now.entries c.args.at c.in-Some.entry.now here fit in
    gather-next c.args.history.now.entries c.args.at c.in-Some.entry.now (kept_files_of c.args.files.now)
    (kept_files_of c.note_entry.new.files) c.args.wanted.now.inode c.args.wanted.now.generation c.args.wanted.now.slot
    c.args.values.now.items
    c.note_entry.new.values.items
    here c.requires.slot (c.in_ok-note_entry-in-Some.ensures.values keeps)
    (c.in_ok-note_entry-in-Some.ensures.files keeps)

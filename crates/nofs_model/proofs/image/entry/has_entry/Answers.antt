use Rattle.std.proofs.Common.{sym, ◌∙◌}
use Rattle.nofs_model.proofs.OnFiles.Entries.{names-no, names-when}
use Rattle.nofs_model.proofs.image.entry.has_entry.Goals as goal

pub returns : goal.returns
returns c = c.is_entry.ensures.value ∙ sym
    (names-when c.args.bytes.now c.args.inode c.args.generation (sym c.if-not-has_fields.ensures))

pub returns-then-not-has_fields : goal.returns-then-not-has_fields
returns-then-not-has_fields c =
    names-no c.args.bytes.now c.args.inode c.args.generation (sym c.if-not-has_fields.ensures)

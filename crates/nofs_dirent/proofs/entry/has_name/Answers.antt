use Rattle.std.proofs.Common.{sym, ap, ◌∙◌}
use Rattle.nofs_dirent.specs.Entries.{entry_of, has_name, is_named, name_of}
use Rattle.nofs_dirent.specs.EntryLaws.{named-carried, named-else}
use Rattle.nofs_dirent.proofs.entry.has_name.Goals as goal

pub returns-then-not-carries_name : goal.returns-then-not-carries_name
unfolding has_name
returns-then-not-carries_name c =
    named-else c.bytes_of-bytes.result.now c.args.name.now c.bytes_of-bytes.ensures.len
    (sym c.if-not-carries_name.ensures)
    ∙ ap (λ bytes. is_named c.args.name.now (name_of (entry_of bytes))) c.bytes_of-bytes.ensures.bytes

pub returns : goal.returns
unfolding has_name
returns c =
    c.is_entry.ensures.value
    ∙ named-carried c.bytes_of-bytes.result.now c.args.name.now (sym c.if-not-carries_name.ensures)
    ∙ ap (λ bytes. is_named c.args.name.now (name_of (entry_of bytes))) c.bytes_of-bytes.ensures.bytes

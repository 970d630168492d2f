use Rattle.std.proofs.Common.{arith, ap, ◌∙◌, List, ℕ, Some}
use Rattle.nofs_dirent.specs.Entries.{entry_in, entry_of, entry_with}
use Rattle.nofs_dirent.specs.EntryCells.{entry_bytes-beside, entry_bytes-put}
use Rattle.nofs_dirent.proofs.entry.write_entry.Goals as goal

pub returns-clause-written : goal.returns-clause-written
returns-clause-written c =
    let len = c.told-payload in
    let low = c.requires.place in
    ap (λ l. entry_in l c.args.at) c.write_bytes_at.ensures
    ∙ ap entry_of
    (entry_bytes-put c.args.at c.spell.new.into c.args.payload.now c.spell.ensures.spells.short (omega arith))
    ∙ c.spell.ensures.spells.reads
    ∙ ap (λ (name : List ℕ). Some (entry_with c.args.it.now.inode c.args.it.now.generation name)) c.as_slice.ensures

pub returns-clause-others : goal.returns-clause-others
returns-clause-others c =
    let len = c.told-payload in
    let low = c.requires.place in
    λ j other below. ap (λ l. entry_in l j) c.write_bytes_at.ensures
    ∙ ap entry_of (entry_bytes-beside c.args.at j c.spell.new.into c.args.payload.now c.spell.ensures.spells.short
    (omega arith) other)

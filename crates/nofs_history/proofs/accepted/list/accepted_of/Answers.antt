-- The base's value, and then what the entries give, of files that are alike.
use Rattle.std.proofs.Common.{List, [], ◌∷◌, ◌++◌, ◌∙◌, ap, cond}
use Rattle.nofs_model.specs.Slots.{value}
use Rattle.nofs_model.specs.declared.image.value.Value.{Value}
use Rattle.nofs_history.specs.Since.{agreed_files, is_generation}
use Rattle.nofs_history.specs.World.{world_of}
use Rattle.nofs_history.specs.Accepted.Files.{kept_files_of}
use Rattle.nofs_history.proofs.OnAccepted.Fit.{run-fit}
use Rattle.nofs_history.proofs.OnAccepted.Gathered.{values-same}
use Rattle.nofs_history.proofs.accepted.list.accepted_of.Goals as goal

pub returns : goal.returns
returns c = λ mountable small start V after.
    let entries = c.args.history.now.entries in
    let same = values-same entries (kept_files_of c.in_ok-files_at.field-0)
    (agreed_files c.args.base.now) c.in_ok-files_at.ensures c.args.inode c.args.generation c.args.slot small in
    let first : List Value = cond (is_generation c.args.base.now c.args.inode c.args.generation)
    (value c.args.base.now c.args.inode c.args.slot ∷ []) [] in
    let base = c.in_ok-note_base.ensures ∙ ap (λ (xs : List Value). xs ++ first) c.new-values.ensures.items in
    c.in_ok-note_entries.ensures (run-fit entries c.args.history.now.start (world_of c.args.base.now start) V after)
    ∙ (λ j. base j ++ same j)

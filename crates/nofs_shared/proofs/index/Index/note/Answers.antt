use Rattle.std.proofs.Common.{sym, ◌∙◌}
use Rattle.nofs_shared.proofs.OnIndex.Lines.{all-true-on}
use Rattle.nofs_shared.proofs.index.Index.note.Goals as goal

pub returns-then-moves_names : goal.returns-then-moves_names
returns-then-moves_names c = λ F G all on. c.forget.ensures G

pub returns : goal.returns
returns c = λ F G all on. c.learn_from.ensures G
    (all-true-on F G c.args.self.now (on.stays (sym c.moves_names.ensures ∙ c.if-moves_names.false)) all) on.answered

use Rattle.std.proofs.Common.{◌∙◌, sym, map, string_bytes, arith}
use Rattle.std.proofs.lemmas.List.{length-map}
use Rattle.nofs_tool.specs.Begin.Words.{prefixed_in}
use Rattle.nofs_tool.proofs.OnBegin.Words.{task-none, task-prefixed}
use Rattle.nofs_tool.proofs.begin.words.task_of.Goals as goal

pub returns-in-len2 : goal.returns-in-len2
returns-in-len2 c = c.prefixed_task.ensures
    ∙ ((λ j. prefixed_in (c.deref-in-len2.ensures j) (c.deref-in-len2-2.ensures j))
    ∙ task-prefixed string_bytes c.args.words.now _ _ _ _ c.in-len2.len_at_least c.in-len2.len_below
    c.word-item-then-words-lt3.is c.prefix-item.is)

pub returns-in_default-2 : goal.returns-in_default-2
returns-in_default-2 c =
    let n = length-map c.args.words.now string_bytes in
    let a = c.in_default.len_at_least in
    sym (task-none (map string_bytes c.args.words.now) (λ e. omega (arith, n, a, e)) (λ e. omega (arith, n, a, e))
    (λ e. omega (arith, n, a, e)))

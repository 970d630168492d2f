use Rattle.std.proofs.Common.{◌∙◌, List, length, arith, subst, sym, ℕ}
use Rattle.std.proofs.lemmas.Bool.{eqb-false}
use Rattle.nofs_filedisk.specs.Bytes.{IsPut}
use Rattle.nofs_filedisk.proofs.OnMoving.Bytes.{put-over}
use Rattle.nofs_filedisk.proofs.memory.put_part.Goals as goal

pub returns-clause-ok : goal.returns-clause-ok
returns-clause-ok c =
    let at = c.args.at in
    let part = c.args.part.now in
    let old = c.args.bytes.now.items in
    let some = eqb-false (length part) 0 (sym c.is_empty.ensures ∙ c.if-is_empty.false) in
    let over = put-over at part old c.grow.new.bytes.items c.in_ok-grow.ensures.same c.in_ok-grow.ensures.len
    (omega (arith, some)) in
    subst (λ (l : List ℕ). IsPut at part old l) (sym c.put_at.ensures) over

use Rattle.std.proofs.Common.{◌∙◌, ℕ, ap, subst₂}
use Rattle.nofs_history.specs.HistoryState.{HistoryState}
use Rattle.nofs_tool.specs.Visits.Salvage.{IsWalkTold}
use Rattle.nofs_tool.specs.Session.Whole.{Finished}
use Rattle.nofs_tool.proofs.OnVisits.Salvage.{walk-done, walk-text}
use Rattle.nofs_tool.proofs.visits.salvage.run_walk.Goals as goal

pub returns-clause-told : goal.returns-clause-told
returns-clause-told g c =
    let S = g.D.Disk.state in
    let before = c.args.mount in
    let at = before.core.books.at in
    let found = S before.found.value in
    let picks = g.N.NameRule.picks c.args.filter.now.rule in
    let v = c.visit_and_close-mount in
    let out = v.result.out_of_memory in
    let told = v.new.visitor.told in
    let last = c.ended-2 in
    let ran = last.result.history in
    let ends = subst₂ (λ (f : g.row.D.Denot) (n : ℕ). ∥ Finished (S f) (S last.result.disk) n ran ∥₁) v.ensures.same.0
    v.ensures.same.1 last.ensures.ends in
    walk-text (IsWalkTold picks found ran) told c.walk_text.result last.result.text
    (last.ensures.text ∙ c.ok-text.ensures.value) c.walk_text.ensures
    (λ t is some. walk-done picks told at.inodes at.blocks out found
    (S last.result.disk) before.first v.result.mount.core.books.history.entries ran t
    c.requires.first ends c.if-out_of_memory.false
    (ap (λ (h : HistoryState). h.entries) last.ensures.history) v.ensures.ran is some)

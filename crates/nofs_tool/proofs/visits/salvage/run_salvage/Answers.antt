use Rattle.std.proofs.Common.{◌≡◌, ◌≢◌, ◌∙◌, ℕ, Bool, List, length, map, string_bytes, rules, sym, ap, subst}
use Rattle.std.specs.Prelude.{IfSome}
use Rattle.nofs_history.specs.HistoryState.{HistoryState}
use Rattle.nofs_salvage.specs.Report.Filter.{begins_with}
use Rattle.nofs_tool.specs.Visits.Salvage.{IsWalkTold}
use Rattle.nofs_tool.specs.Begin.Words.{picks_in}
use Rattle.nofs_tool.proofs.OnVisits.Salvage.{none-walked, picks-all, picks-prefix}
use Rattle.nofs_tool.proofs.visits.salvage.run_salvage.Goals as goal
use Rattle.nofs_tool.proofs.visits.salvage.run_salvage.Goals.{in_default-via-then-words-lt2}
use Rattle.nofs_tool.proofs.visits.salvage.run_salvage.Goals.{in_default-via-else-words-lt2+else-words-lt3}

pub returns-in_default-from_slice-clause-follows : goal.returns-in_default-from_slice-clause-follows
returns-in_default-from_slice-clause-follows g c =
    none-walked c.args.mount.core.books.at c.ended.result.history.entries c.ended.result.text
    (ap (λ (h : HistoryState). h.entries) c.ended.ensures.history ∙ c.requires.new) c.ended.ensures.text

pub returns-in-Ok-clause-told : goal.returns-in-Ok-clause-told
returns-in-Ok-clause-told g c =
    let found = g.D.Disk.state c.args.mount.found.value in
    let ran = c.run_walk.result in
    let bytes = c.new-filter.result.rule.bytes in
    let same : begins_with bytes ≡ picks_in (map string_bytes c.args.words.now) =
    ap (λ r. begins_with r.bytes) c.new-filter.ensures.1
    ∙ (ap begins_with c.in-Ok.ensures ∙ (ap begins_with c.as_bytes-prefix.ensures.value
    ∙ sym (picks-prefix string_bytes c.args.words.now _ _ c.in-len2.len_at_least c.in-len2.len_below c.prefix-item.is)))
    in
    subst (λ (picks : List ℕ → Bool). IfSome ran.text (IsWalkTold picks found ran.history)) same c.run_walk.ensures.told

pub returns-in_default-clause-told : goal.returns-in_default-clause-told
returns-in_default-clause-told g c =
    let found = g.D.Disk.state c.args.mount.found.value in
    let ran = c.run_walk-in_default.result in
    let other : length c.args.words.now ≢ 2 = elim c.in_default.branch [
      | in_default-via-then-words-lt2 w ↦ search rules
      | in_default-via-else-words-lt2+else-words-lt3 w ↦ search rules
    ] in
    subst (λ (picks : List ℕ → Bool). IfSome ran.text (IsWalkTold picks found ran.history))
    (sym (picks-all string_bytes c.args.words.now other)) c.run_walk-in_default.ensures.told

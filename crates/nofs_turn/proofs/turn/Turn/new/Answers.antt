use Rattle.std.proofs.Common.{◌≡◌, ◌∙◌, rules, ap}
use Rattle.nofs_turn.specs.Rule.Views.{maker, newcomer, fresh}
use Rattle.nofs_turn.proofs.OnRule.Seats.{starts_as}
use Rattle.nofs_turn.proofs.turn.Turn.new.Goals as goal

pub new-requires : goal.new-requires
new-requires g c =
    starts_as _ _ c.args.value _ _ _ _ c.of.ensures c.kept-word.ensures.0 (search rules) (search rules) (search rules)

pub returns-in-Ok-new-clause-passes : goal.returns-in-Ok-new-clause-passes
returns-in-Ok-new-clause-passes g c =
    let m : c.in-Ok-new.maker.me.0 ≡ maker (g.V.Kept.fixed c.of.result.value)
    (g.V.Kept.entries c.of.result.value) c.from-count.result = search rules in (
      search rules,
      λ k d h. let e = c.deal-passes.ensures.each k d h in (
        e.0,
        e.1 ∙ (ap newcomer m ∙ (λ i. fresh (g.V.Kept.fixed (c.of.ensures i)) (g.V.Kept.entries (c.of.ensures i))
            (c.from-count.ensures i))),
      ),
    )

use Rattle.std.proofs.Common.{rules, ◌≡◌, ◌∙◌, sym, ap, subst, ◌*◌, Some, arith}
use mathlib.Core.List.{IsPrefix}
use Rattle.nofs_turn.proofs.OnRule.Steps.{gives_home}
use Rattle.nofs_turn.proofs.OnRule.Looks.{same_carried}
use Rattle.nofs_turn.proofs.turn.Turn.run.Goals as goal

pub store-requires : goal.store-requires
store-requires g c =
    let x = c.requires.carries in
    let ran = c.run_in_place-out.ensures.ran in
    let is : ran.0 ≡ x.0 = same_carried c.args.seat.now.me.1 ran.0 x.0 _ _ _ _ ran.2 x.1 in
    let view : c.run_in_place-out.new.seat.me.0 ≡ c.args.seat.now.me.0 = c.run_in_place-out.ensures.same.2 in
    let seen : c.run_in_place-out.new.seat.me.0.seen ≡ g.V.Kept.entries ran.0 = ap (λ v. v.seen) view
    ∙ (sym x.2 ∙ ap g.V.Kept.entries (sym is)) in (
      search rules,
      search rules,
      gives_home _ _ _ _ _ _ _ _ ran.1 _ (search rules) (search rules) (search rules)
          (ap (λ v. v.fixed) view ∙ (x.3 ∙ ap (λ v. Some (g.V.Kept.fixed v)) (sym is) ∙ ap Some (sym ran.4.same_part)))
          (subst (λ l. IsPrefix l (g.V.Kept.entries ran.1)) (sym seen) ran.4.keeps)
          (let k = ran.4.small in let n = ran.4.kept in omega arith)
          (ap (λ n. 2 * n) ran.4.kept),
    )

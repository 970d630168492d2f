use Rattle.std.proofs.Common.{rules, ◌∙◌, refl, sym, ap, arith}
use Rattle.std.specs.Option.{option_map_or}
use Rattle.nofs_turn.specs.Turn.{view_of}
use Rattle.nofs_turn.specs.Rule.Views.{fresh}
use Rattle.nofs_serve.proofs.OnVisit.{visit-closed, visit-sweeps}
use Rattle.nofs_serve.proofs.visit.attend.Goals as goal

pub run_visit-pass-requires-clause-passes : goal.run_visit-pass-requires-clause-passes
run_visit-pass-requires-clause-passes g c κs within =
    (search rules, λ k d h. (let e = c.in-Ok.ensures.passes.1 k d h in (e.0, ap (λ z. z.mine) e.1)))

pub unreachable-requires : goal.unreachable-requires
unreachable-requires g c =
    let t = c.run_visit-pass.ensures.gathered (fresh _ _ _) refl refl (λ k d h. (c.in-Ok.ensures.passes.1 k d h).1) in
    let e = c.in_default.ensures.out in
    let low = e.2 in
    let sum = e.3 in
    let stands = t.gathers.stands in
    let seats = t.gathers.seats in
    omega (arith, low, sum, stands, seats)

pub returns-clause-visited : goal.returns-clause-visited
returns-clause-visited g c =
    let t = c.run_visit-pass.ensures.gathered (fresh _ _ _) refl refl (λ k d h. (c.in-Ok.ensures.passes.1 k d h).1) in
    let closes = c.in-Ok-close.ensures.closed.0 in
    visit-closed _ _ _ _ _ _ _ _ (view_of c.run_visit-pass.result.pass) refl refl t closes.begins closes.all_mine

pub returns-clause-sweeps : goal.returns-clause-sweeps
returns-clause-sweeps g c =
    let t = c.run_visit-pass.ensures.gathered (fresh _ _ _) refl refl (λ k d h. (c.in-Ok.ensures.passes.1 k d h).1) in
    let closes = c.in-Ok-close.ensures.closed.0 in
    visit-sweeps _ _ _ _ _ _ _ _ (view_of c.run_visit-pass.result.pass) refl refl t closes.begins closes.all_mine
    (g.V.Kept.fixed c.args.mount) refl

pub returns-clause-fixed : goal.returns-clause-fixed
returns-clause-fixed g c =
    let t = c.run_visit-pass.ensures.gathered (fresh _ _ _) refl refl (λ k d h. (c.in-Ok.ensures.passes.1 k d h).1) in
    ap (λ o. option_map_or (λ x. x) o (g.V.Kept.fixed c.args.mount))
    (sym c.in-Ok-close.ensures.closed.0.same_part ∙ t.gathers.fixed)

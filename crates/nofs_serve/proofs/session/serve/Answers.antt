use Rattle.std.proofs.Common.{rules, ◌≡◌, inl, inr, ◌∙◌, length, map, vec_len, refl, sym, ap, arith}
use Rattle.std.specs.Option.{option_map_or}
use Rattle.nofs_turn.specs.Turn.{view_of}
use Rattle.nofs_turn.specs.Rule.Views.{fresh}
use Rattle.nofs_serve.proofs.OnTeams.Gathered.{length-scripts}
use Rattle.nofs_serve.proofs.OnSession.{team-closed, team-ended, team-unserved}
use Rattle.nofs_serve.proofs.session.serve.Goals as goal

pub returns-in_default-clause-served : goal.returns-in_default-clause-served
returns-in_default-clause-served g c =
    team-unserved (map (λ p. p.commands) c.args.plans.items) c.args.sweeps.inodes c.args.sweeps.blocks _ _
    (g.V.Kept.entries c.args.mount) _ (ap g.V.Kept.entries c.unserved.ensures.same) c.unserved.ensures.none.2

pub returns-in_default-clause-ended : goal.returns-in_default-clause-ended
returns-in_default-clause-ended g c = inl (record {
  wants = c.unserved.ensures.none.2;
  no_user = (c.unserved.ensures.none.1, c.unserved.ensures.none.0);
  stays = ap g.V.Kept.entries c.unserved.ensures.same;
})

pub returns-in-Err-clause-served : goal.returns-in-Err-clause-served
returns-in-Err-clause-served g c =
    let same : c.unserved-in-Err.result.mount ≡ c.args.mount = search rules in
    team-unserved (map (λ p. p.commands) c.args.plans.items) c.args.sweeps.inodes c.args.sweeps.blocks _ _
    (g.V.Kept.entries c.args.mount) _ (ap g.V.Kept.entries same) c.unserved-in-Err.ensures.none.2

pub returns-in-Err-clause-ended : goal.returns-in-Err-clause-ended
returns-in-Err-clause-ended g c =
    let same : c.unserved-in-Err.result.mount ≡ c.args.mount = search rules in
    inl (record {
      wants = c.unserved-in-Err.ensures.none.2;
      no_user = (c.unserved-in-Err.ensures.none.1, c.unserved-in-Err.ensures.none.0);
      stays = ap g.V.Kept.entries same;
    })

pub run_team-pass-requires-clause-passes : goal.run_team-pass-requires-clause-passes
run_team-pass-requires-clause-passes g c κs within =
    (search rules, λ k d h. (let e = c.in-Ok-new.ensures.passes.1 k d h in (e.0, ap (λ z. z.mine) e.1)))

pub unreachable-requires : goal.unreachable-requires
unreachable-requires g c =
    let t = c.run_team-pass.ensures.gathered (fresh _ _ _) refl refl
    (λ k d h. (c.in-Ok-new.ensures.passes.1 k d h).1) in
    let e = c.in_default-close.ensures.out in
    let low = e.2 in
    let sum = e.3 in
    let n = length-scripts (λ p. p.commands) c.args.plans.items in
    let stands = t.gathers.stands in
    let seats = t.gathers.seats in
    let long : vec_len c.args.plans ≡ length c.args.plans.items = search rules in
    omega (arith, low, sum, n, stands, seats, long)

pub returns-clause-fixed : goal.returns-clause-fixed
returns-clause-fixed g c =
    let t = c.run_team-pass.ensures.gathered (fresh _ _ _) refl refl
    (λ k d h. (c.in-Ok-new.ensures.passes.1 k d h).1) in
    ap (λ o. option_map_or (λ x. x) o (g.V.Kept.fixed c.args.mount))
    (sym c.in-Ok-close.ensures.closed.0.same_part ∙ t.gathers.fixed)

pub returns-clause-served : goal.returns-clause-served
returns-clause-served g c =
    let t = c.run_team-pass.ensures.gathered (fresh _ _ _) refl refl
    (λ k d h. (c.in-Ok-new.ensures.passes.1 k d h).1) in
    let closes = c.in-Ok-close.ensures.closed.0 in
    team-closed _ _ _ _ _ _ _ _ _ _ (view_of c.run_team-pass.result.pass) refl refl t closes.begins closes.all_mine

pub returns-clause-ended : goal.returns-clause-ended
returns-clause-ended g c =
    let t = c.run_team-pass.ensures.gathered (fresh _ _ _) refl refl
    (λ k d h. (c.in-Ok-new.ensures.passes.1 k d h).1) in
    let closes = c.in-Ok-close.ensures.closed.0 in
    inr (team-ended _ _ _ _ _ _ _ _ _ _ (view_of c.run_team-pass.result.pass) refl refl t closes.begins closes.all_mine
    (g.V.Kept.fixed c.args.mount) refl)

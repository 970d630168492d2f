use Rattle.std.proofs.Common.{rules, ◌≡◌, ◌∙◌, ◌+◌, [], ◌∷◌, ◌++◌, All, eqb-true, true, length, map, vec_len, refl, sym}
use Rattle.std.proofs.Common.{ap, subst, arith}
use Rattle.std.proofs.Common.{append_assoc, append-nil}
use Rattle.std.proofs.lemmas.List.Elements.{All-push}
use Rattle.nofs_shared.proofs.OnPasses.Sessions.{nil-of}
use Rattle.nofs_client.specs.Task.Commands.{AreWellFormed}
use Rattle.nofs_turn.specs.Turn.{view_of}
use Rattle.nofs_serve.proofs.OnTeams.Gathered.{all-end, stand-nil, stand-more, stand-at, stand-of}
use Rattle.nofs_serve.proofs.teams.team.seat_users.Goals as goal

pub loop-alloc-init : goal.loop-alloc-init
loop-alloc-init g c = record {
  few = c.requires.few;
  formed = c.requires.formed;
  count = refl;
  enough = c.requires.passes.0;
  new = c.requires.passes.1;
  len = search rules;
  room = c.requires.room.1;
  ways = search rules;
  ready = ([], sym (append-nil c.args.plans.items), λ v all. (stand-nil _ _ c.requires.room.0, all));
}

pub new-requires : goal.new-requires
new-requires g c =
    let is : c.loop-alloc.plans.items ≡ c.pop.new.self.items ++ c.in-Some.plan ∷ [] = search rules in
    (all-end (λ p. AreWellFormed p.commands) c.loop-alloc.plans.items c.pop.new.self.items c.in-Some.plan is
    c.loop-alloc.invariant.formed).1

pub loop-alloc-preserved : goal.loop-alloc-preserved
loop-alloc-preserved g c =
    let i = c.loop-alloc.invariant in
    let is : c.loop-alloc.plans.items ≡ c.pop.new.self.items ++ c.in-Some.plan ∷ [] = search rules in
    let made : c.push_reserved.new.self.items ≡ c.loop-alloc.users.items ++ c.new.result ∷ [] = search rules in
    let long : vec_len c.loop-alloc.plans ≡ vec_len c.pop.new.self + 1 = search rules in
    record {
      few = omega (arith, i.few, long);
      formed = (all-end (λ p. AreWellFormed p.commands) c.loop-alloc.plans.items c.pop.new.self.items
          c.in-Some.plan is i.formed).0;
      count = (let n = c.seat-way.ensures.rest.0 in let m = i.count in omega (arith, n, m, long));
      enough = (let n = c.seat-way.ensures.rest.0 in let m = i.enough in omega (arith, n, m, long));
      new = c.seat-way.ensures.rest.1;
      len = search rules;
      room = search rules;
      ways = subst (λ l. All (λ w. w.client.steps.steps.turn.now ≡ c.args.shared.now.turn) l) (sym made)
          (All-push (λ w. w.client.steps.steps.turn.now ≡ c.args.shared.now.turn) c.loop-alloc.users.items c.new.result
          i.ways
          (ap (λ w. w.turn.now) c.new.ensures.steps ∙ c.seat-way.ensures.way.0));
      ready = (
        c.in-Some.plan ∷ i.ready.0,
        i.ready.1 ∙ (ap (λ l. l ++ i.ready.0) is ∙ append_assoc c.pop.new.self.items (c.in-Some.plan ∷ []) i.ready.0),
        λ v all.
            (let r = i.ready.2 v all in
            let s = c.seat-way.ensures.seen v r.1 in (
              stand-more (1 + vec_len c.pop.new.self) (1 + vec_len c.loop-alloc.plans) c.in-Some.plan.commands
                  (map (λ p. p.commands) i.ready.0)
                  _ c.loop-alloc.users.items c.new.result made (omega (arith, long))
                  (record {
                    new = (
                      ap (λ w. w.caller) c.new.ensures.steps ∙ (c.seat-way.ensures.way.1 ∙ search rules),
                      ap (λ w. view_of w.pass) c.new.ensures.steps ∙ s.0,
                    );
                    script_is = c.new.ensures.commands;
                    no_lines = c.new.ensures.fresh.0;
                  }) r.0,
              s.1,
            )),
      );
    }

pub returns-clause-ready : goal.returns-clause-ready
returns-clause-ready g c v all =
    let i = c.loop-alloc.invariant in
    let r = i.ready.2 v all in
    let empty : c.is_empty.result ≡ true = search rules in
    let none_left : vec_len c.loop-alloc.plans ≡ 0 =
    eqb-true (vec_len c.loop-alloc.plans) 0 (sym c.is_empty.ensures ∙ empty) in
    let long : vec_len c.loop-alloc.plans ≡ length c.loop-alloc.plans.items = search rules in
    let none = nil-of c.loop-alloc.plans.items (sym long ∙ none_left) in
    let whole : c.args.plans.items ≡ i.ready.0 = i.ready.1 ∙ ap (λ l. l ++ i.ready.0) none in
    let first : 1 + vec_len c.loop-alloc.plans ≡ 1 = omega (arith, none_left) in (
      stand-of 1 (map (λ p. p.commands) i.ready.0) (map (λ p. p.commands) c.args.plans.items) c.loop-alloc.users.items
          (ap (map (λ p. p.commands)) (sym whole))
          (stand-at (1 + vec_len c.loop-alloc.plans) 1 (map (λ p. p.commands) i.ready.0)
          c.loop-alloc.users.items first r.0),
      r.1,
    )

use Rattle.std.proofs.Common.{rules, ◌≡◌, ◌∙◌, ◌+◌, ◌++◌, ◌∷◌, [], Bool, List, length, refl, sym, ap, subst, arith}
use Rattle.std.proofs.Common.{append_assoc, length-append, append-nil}
use Rattle.nofs_turn.specs.Turn.{view_of}
use Rattle.nofs_client.specs.declared.task.lines.Line.{Line}
use Rattle.nofs_workers.specs.User.{steps_in}
use Rattle.nofs_serve.specs.Teams.Joins.{Gathers}
use Rattle.nofs_serve.specs.Session.{UsersGathered}
use Rattle.nofs_serve.proofs.OnTeams.Gathered.{all-end, stand-pop, stand-none, stand-at, users-none, gather-step}
use Rattle.nofs_serve.proofs.teams.gather.gather_users.Goals as goal

pub loop-user-init : goal.loop-user-init
loop-user-init g c = record {
  of = c.requires.of;
  ways = c.requires.ways;
  room = c.requires.room;
  gathered = λ v scripts count one absent gathers stand. (
    [],
    scripts,
    refl,
    stand,
    subst (λ n. Gathers v (view_of c.args.begun.pass) n) (omega arith) gathers,
    subst (λ (l : List (List Line) × List Bool). UsersGathered [] c.args.begun.out_of_memory c.args.begun.out_of_memory
        l.1 l.0 (view_of c.args.begun.pass)
        (view_of c.args.begun.pass)) (λ i. (sym c.requires.none.0 i, sym c.requires.none.1 i))
        (users-none c.args.begun.out_of_memory (view_of c.args.begun.pass)),
  );
}

pub join_way-requires : goal.join_way-requires
join_way-requires g c =
    let is : c.loop-user.users.items ≡ c.pop.new.self.items ++ c.in-Some.user ∷ [] = search rules in
    let own = (all-end (λ w. w.client.steps.steps.turn.now ≡ c.args.shared.now.turn)
    c.loop-user.users.items c.pop.new.self.items c.in-Some.user is c.loop-user.invariant.ways).1 in
    record { of = (c.loop-user.invariant.of, ap (λ s. s.turn.now) c.into_inner-steps.ensures.steps ∙ own) }

pub loop-user-preserved : goal.loop-user-preserved
loop-user-preserved g c =
    let i = c.loop-user.invariant in
    let is : c.loop-user.users.items ≡ c.pop.new.self.items ++ c.in-Some.user ∷ [] = search rules in
    record {
      of = c.join_way.ensures.of;
      ways = (all-end (λ w. w.client.steps.steps.turn.now ≡ c.args.shared.now.turn)
          c.loop-user.users.items c.pop.new.self.items c.in-Some.user is i.ways).0;
      room = search rules;
      gathered = λ v scripts count one absent gathers stand.
          (let (done, rest, whole, st, ga, ug) = i.gathered v scripts count one absent gathers stand in
          let (script, rest2, rest_is, run, st2) = stand-pop (1 + length done) rest c.loop-user.users.items
          c.pop.new.self.items c.in-Some.user is st in
          let step = gather-step done _ _ _ _ _ _ _ _ _ _ _ script (1 + length done) _ count v _ _ _ (view_of
          (steps_in c.in-Some.user).pass)
          _ one ga ug c.join_way.ensures.joined
          (ap (λ s. s.caller) c.into_inner-steps.ensures.steps ∙ run.back.0) refl
          (absent (1 + length done) (omega arith)
          (let n = ap length whole in let m = ap length rest_is in omega (arith, n, m, length-append done rest)))
          (ap (λ s. view_of s.pass) c.into_inner-steps.ensures.steps)
          c.into_inner-steps.ensures.lines c.into_inner-steps.ensures.out_of_memory c.either.ensures (search rules)
          (search rules) run.back.1 run.some run.all in (
            done ++ script ∷ [],
            rest2,
            whole ∙ (ap (λ l. done ++ l) rest_is ∙ sym (append_assoc done (script ∷ []) rest2)),
            stand-at _ _ rest2 _ (omega (arith, length-append done (script ∷ []))) st2,
            step.0,
            step.1,
          ));
    }

pub returns-clause-gathered : goal.returns-clause-gathered
returns-clause-gathered g c v scripts count one absent gathers stand =
    let (done, rest, whole, st, ga, ug) = c.loop-user.invariant.gathered v scripts count one absent gathers stand in
    let none : c.loop-user.users.items ≡ [] = search rules in
    let is : scripts ≡ done = whole ∙ (ap (λ l. done ++ l) (stand-none _ rest _ none st) ∙ append-nil done) in (
      subst (λ l. Gathers v (view_of c.loop-user.whole.pass) (count + length l)) (sym is) ga,
      subst (λ l. UsersGathered l c.args.begun.out_of_memory c.loop-user.whole.out_of_memory
          c.loop-user.whole.ended_early.items c.loop-user.whole.lines.items (view_of c.args.begun.pass)
          (view_of c.loop-user.whole.pass)) (sym is) ug,
    )

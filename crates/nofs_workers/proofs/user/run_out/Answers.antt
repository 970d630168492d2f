use Rattle.std.proofs.Common.{◌≡◌, ◌<◌, ap, add-one, arith, drop, get_or, length, suc, subst, sym}
use Rattle.std.proofs.Common.{rules, take, vec_len, ◌∙◌}
use Rattle.std.proofs.Math.Seq.{drop-cons, take-length}
use Rattle.std.proofs.lemmas.List.{get_or-set_other, length-set}
use Rattle.nofs_client.specs.Task.Commands.{AreWellFormed, IsWellFormed}
use Rattle.nofs_client.specs.Driver.{RunsAll}
use Rattle.nofs_client.proofs.OnDriver.{lines-follow, runs-so-far, runs-in-part, runs-more}
use Rattle.nofs_workers.proofs.user.run_out.Goals as goal

pub run-requires : goal.run-requires
run-requires g c =
    let (all, goes, formed, size, same) = c.loop-at.invariant in
    let commands = c.args.commands in
    let at = c.loop-at.at in
    let long : vec_len c.into_vec-left.result ≡ length c.into_vec-left.result.items = search rules in
    let lt : at < length commands =
    rw (c.len-at-end.ensures ∙ long ∙ ap length c.into_vec-left.ensures) at c.loop-at-test.true in
    let is : c.index.result.now ≡ get_or commands at c.index.result.now =
    c.index.ensures ∙ same at c.index.result.now (omega (arith, lt)) in
    subst IsWellFormed (sym is) (rw (drop-cons commands at c.index.result.now lt) at formed).0

pub returns-in_err-run-clause-some : goal.returns-in_err-run-clause-some
returns-in_err-run-clause-some g c =
    let (all, goes, formed, size, same) = c.loop-at.invariant in
    let (ms, more, asked) = c.run.ensures.partly in
    let commands = c.args.commands in
    let at = c.loop-at.at in
    let long : vec_len c.into_vec-left.result ≡ length c.into_vec-left.result.items = search rules in
    let lt : at < length commands =
    rw (c.len-at-end.ensures ∙ long ∙ ap length c.into_vec-left.ensures) at c.loop-at-test.true in
    let is : c.index.result.now ≡ get_or commands at c.index.result.now =
    c.index.ensures ∙ same at c.index.result.now (omega (arith, lt)) in
    runs-in-part commands at c.index.result.now _ _ _ ms _ _ lt is all more asked

pub returns-in_err-run-clause-lines_follow : goal.returns-in_err-run-clause-lines_follow
returns-in_err-run-clause-lines_follow g c = lines-follow

pub returns-in_err-push-clause-some : goal.returns-in_err-push-clause-some
returns-in_err-push-clause-some g c =
    let (all, goes, formed, size, same) = c.loop-at.invariant in
    let (ms, more, run) = c.in_ok-run.ensures.ran in
    let commands = c.args.commands in
    let at = c.loop-at.at in
    let long : vec_len c.into_vec-left.result ≡ length c.into_vec-left.result.items = search rules in
    let lt : at < length commands =
    rw (c.len-at-end.ensures ∙ long ∙ ap length c.into_vec-left.ensures) at c.loop-at-test.true in
    let is : c.index.result.now ≡ get_or commands at c.index.result.now =
    c.index.ensures ∙ same at c.index.result.now (omega (arith, lt)) in
    rw c.in_err-push.ensures.unchanged
    (runs-in-part commands at c.index.result.now _ _ _ ms _ _ lt is all more run.asked)

pub returns-in_err-push-clause-lines_follow : goal.returns-in_err-push-clause-lines_follow
returns-in_err-push-clause-lines_follow g c = lines-follow

pub loop-at-preserved : goal.loop-at-preserved
loop-at-preserved g c =
    let (all, goes, formed, size, same) = c.loop-at.invariant in
    let (ms, more, run) = c.in_ok-run.ensures.ran in
    let commands = c.args.commands in
    let at = c.loop-at.at in
    let long : vec_len c.into_vec-left.result ≡ length c.into_vec-left.result.items = search rules in
    let lt : at < length commands =
    rw (c.len-at-end.ensures ∙ long ∙ ap length c.into_vec-left.ensures) at c.loop-at-test.true in
    let is : c.index.result.now ≡ get_or commands at c.index.result.now =
    c.index.ensures ∙ same at c.index.result.now (omega (arith, lt)) in
    let others : AreWellFormed (drop (suc at) commands) =
    (rw (drop-cons commands at c.index.result.now lt) at formed).1 in (
      runs-more commands at c.index.result.now _ _ _ ms _ _ _ c.in_ok-run.field-0 lt is all more run
          c.in_ok-push.ensures.appended,
      g.met.S.Steps.goes_on _ _ _ goes c.run.ensures.goes,
      rw (add-one at) others,
      length-set c.loop-at.left.items at _ ∙ size,
      λ k d later. get_or-set_other c.loop-at.left.items at k _ d (λ e. omega (arith, e, later))
          ∙ same k d (omega (arith, later)),
    )

pub returns-clause-ran : goal.returns-clause-ran
returns-clause-ran g c =
    let long : vec_len c.into_vec-left.result ≡ length c.into_vec-left.result.items = search rules in
    let whole : c.loop-at.at ≡ length c.args.commands =
    omega (
      arith,
      c.loop-at-test.false,
      c.loop-at.auto.at-end,
      c.len-at-end.ensures ∙ long ∙ ap length c.into_vec-left.ensures,
    ) in
    subst (λ cs. RunsAll cs (g.S.Steps.made c.args.client.now.steps) (g.S.Steps.made c.loop-at.client.steps)
    c.args.lines.now c.loop-at.lines)
    (ap (λ n. take n c.args.commands) whole ∙ take-length c.args.commands) c.loop-at.invariant.0

pub returns-clause-some : goal.returns-clause-some
returns-clause-some g c = runs-so-far c.args.commands c.loop-at.at _ _ _ _ c.loop-at.invariant.0

pub returns-clause-lines_follow : goal.returns-clause-lines_follow
returns-clause-lines_follow g c = lines-follow

use Rattle.std.proofs.Common.{◌≡◌, ◌<◌, length, get_or, suc, drop, add-one}
use Rattle.std.proofs.Math.Seq.{drop-cons}
use Rattle.nofs_client.specs.Task.Commands.{AreWellFormed}
use Rattle.nofs_client.proofs.OnDriver.{lines-follow, runs-so-far, runs-in-part, runs-more}
use Rattle.nofs_client.proofs.client.Client.run_all.Goals as goal

pub returns-in_err-run-clause-some : goal.returns-in_err-run-clause-some
returns-in_err-run-clause-some g c =
    let (all, goes, formed) = c.loop-command.invariant in
    let (ms, more, asked) = c.run.ensures.partly in
    let commands = c.args.commands.now in
    let lt : c.loop-command.command-index < length commands =
    rw c.as_slice-command-items.ensures at c.loop-command-test.true in
    let is : c.command-item.result ≡ get_or commands c.loop-command.command-index c.command-item.result =
    rw c.as_slice-command-items.ensures at c.command-item.is in
    runs-in-part commands c.loop-command.command-index c.command-item.result _ _ _ ms _ _ lt is all more asked

pub returns-in_err-run-clause-lines_follow : goal.returns-in_err-run-clause-lines_follow
returns-in_err-run-clause-lines_follow g c = lines-follow

pub returns-in_err-push-clause-some : goal.returns-in_err-push-clause-some
returns-in_err-push-clause-some g c =
    let (all, goes, formed) = c.loop-command.invariant in
    let (ms, more, run) = c.in_ok-run.ensures.ran in
    let commands = c.args.commands.now in
    let lt : c.loop-command.command-index < length commands =
    rw c.as_slice-command-items.ensures at c.loop-command-test.true in
    let is : c.command-item.result ≡ get_or commands c.loop-command.command-index c.command-item.result =
    rw c.as_slice-command-items.ensures at c.command-item.is in
    rw c.in_err-push.ensures.unchanged
    (runs-in-part commands c.loop-command.command-index c.command-item.result _ _ _ ms _ _ lt is all more run.asked)

pub returns-in_err-push-clause-lines_follow : goal.returns-in_err-push-clause-lines_follow
returns-in_err-push-clause-lines_follow g c = lines-follow

pub loop-command-preserved : goal.loop-command-preserved
loop-command-preserved g c =
    let (all, goes, formed) = c.loop-command.invariant in
    let (ms, more, run) = c.in_ok-run.ensures.ran in
    let i = c.loop-command.command-index in
    let commands = c.args.commands.now in
    let lt : i < length commands = rw c.as_slice-command-items.ensures at c.loop-command-test.true in
    let is : c.command-item.result ≡ get_or commands i c.command-item.result =
    rw c.as_slice-command-items.ensures at c.command-item.is in
    let others : AreWellFormed (drop (suc i) commands) =
    (rw (drop-cons commands i c.command-item.result lt) at formed).1 in (
      runs-more commands i c.command-item.result _ _ _ ms _ _ _ c.in_ok-run.field-0 lt is all more run
          c.in_ok-push.ensures.appended,
      g.met.S.Steps.goes_on _ _ _ goes c.run.ensures.goes,
      rw (add-one i) others,
    )

pub returns-clause-some : goal.returns-clause-some
returns-clause-some g c =
    runs-so-far c.args.commands.now c.loop-command.command-index _ _ _ _ c.loop-command.invariant.0

pub returns-clause-lines_follow : goal.returns-clause-lines_follow
returns-clause-lines_follow g c = lines-follow

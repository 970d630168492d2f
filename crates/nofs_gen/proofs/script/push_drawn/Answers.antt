use Rattle.std.proofs.Common.{rules, ◌<◌}
use Rattle.nofs_gen.proofs.OnScript.{drawn-more}
use Rattle.nofs_gen.proofs.script.push_drawn.Goals as goal

pub loop-at-preserved : goal.loop-at-preserved
loop-at-preserved c =
    let low : c.loop-at.at < c.args.steps = search rules in (
      c.next_number-number.ensures.small,
      drawn-more c.args.user _ _ c.args.steps c.loop-at.at _ _ _ _ low c.next_number-number.ensures.is
          c.in_ok-drawn_command.ensures
          c.in_ok-push.ensures.appended c.loop-at.invariant.1,
    )

use Rattle.std.proofs.Common.{◌≡◌, take, drop}
use Rattle.nofs_client.specs.Task.State.{TaskStands}
use Rattle.nofs_client.specs.Progress.{AllAnswer, progress}
use Rattle.nofs_client.proofs.driver.drive.Given as goal

abbrev pub invariant-loop-reply : goal.invariant-loop-reply
invariant-loop-reply l =
    (l.progress ≡ progress l.command (take l.reply-index l.replies))
    × TaskStands l.command l.progress.task
    × AllAnswer l.command l.progress (drop l.reply-index l.replies)

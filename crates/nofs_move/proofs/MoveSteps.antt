-- A run of a move makes the steps of a move.
use Rattle.std.proofs.Common.{inl, inr}
use Rattle.nofs_client.specs.declared.task.commands.Command.TheVariants as command
use Rattle.nofs_client.specs.Progress.{drive_of, start_of}
use Rattle.nofs_crashlaw.proofs.OnRuns.Base.{sane-run}
use Rattle.nofs_move.specs.Steps.{LawSteps, LawMovedSteps}
use Rattle.nofs_move.proofs.Driver.{Says}
use Rattle.nofs_move.proofs.Looks.{located, linked-steps}
use Rattle.nofs_move.proofs.Entries.{all-told}

pub law-steps : LawSteps
law-steps B H c from to made history name run k asked answered =
    let told = all-told c (command.Move from to) made H.entries run B (sane-run B H history) in
    linked-steps from to (Says from to (start_of (command.Move from to)) made) made
    (located from to made name told run.asked (inl (k, asked, answered)))

pub law-moved-steps : LawMovedSteps
unfolding drive_of
law-moved-steps B H c from to made history name run says =
    let told = all-told c (command.Move from to) made H.entries run B (sane-run B H history) in
    let t = located from to made name told run.asked (inr says) in (
      linked-steps from to (Says from to (start_of (command.Move from to)) made) made t,
      elim t.ends [
        | inl none ↦ absurd (none.1 says)
        | inr r ↦ record { after_link = r.0; before_drop = r.1; flushed = r.2; answer = r.3; dropped = r.4 }
      ],
    )

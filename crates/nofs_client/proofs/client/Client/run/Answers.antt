use Rattle.std.proofs.Common.{arith, ◌≡◌, ◌∙◌, sym, ap, false, ◌++◌, ◌∷◌, []}
use Rattle.nofs_history.specs.Steps.{is_out_of_memory}
use Rattle.nofs_client.specs.declared.task.next.Next.TheVariants.{Do}
use Rattle.nofs_client.specs.Progress.{asks, progress_after, drive_of}
use Rattle.nofs_client.specs.Task.Steps.{Answers}
use Rattle.nofs_client.proofs.OnProgress.{rank-falls}
use Rattle.nofs_client.proofs.OnDriver.{progress-more, step-more}
use Rattle.nofs_client.proofs.client.Client.run.Goals as goal

pub returns-in_default-clause-ran : goal.returns-in_default-clause-ran
unfolding drive_of
returns-in_default-clause-ran g c =
    let (made, more, asked, is, stands, goes) = c.loop-progress.invariant in
    (made, more, record { asked = asked; says = ap (asks c.args.command.now) (sym is) ∙ c.line_of.ensures })

pub returns-in_err-progress-clause-partly : goal.returns-in_err-progress-clause-partly
returns-in_err-progress-clause-partly g c =
    let (made, more, asked, is, stands, goes) = c.loop-progress.invariant in
    let e = c.step-reply.ensures.made in
    let (more', asked') = step-more _ _ _ _ _ made _ _ more asked is (rw c.in-Some.is at c.in_ok-step.ensures)
    (grind arith) e in
    (made ++ (c.in-Some.step, c.step-reply.result) ∷ [], more', asked')

pub loop-progress-preserved : goal.loop-progress-preserved
loop-progress-preserved g c =
    let (made, more, asked, is, stands, goes) = c.loop-progress.invariant in
    let (more', asked') = step-more _ _ _ _ _ made _ _ more asked is (rw c.in-Some.is at c.in_ok-step.ensures)
    (grind arith) c.step-reply.ensures.made in (
      made ++ (c.in-Some.step, c.step-reply.result) ∷ [],
      more',
      asked',
      c.in_ok-progress.ensures.is ∙ ap (λ p. progress_after c.args.command.now p c.step-reply.result) is
          ∙ sym (progress-more _ made c.in-Some.step c.step-reply.result),
      c.in_ok-progress.ensures.stands,
      g.met.S.Steps.goes_on _ _ _ goes c.step-reply.ensures.goes,
    )

pub loop-progress-smaller : goal.loop-progress-smaller
loop-progress-smaller g c =
    let (made, more, asked, is, stands, goes) = c.loop-progress.invariant in
    let asks-it : asks c.args.command.now c.loop-progress.progress ≡ Do c.in-Some.step =
    rw c.in-Some.is at c.in_ok-step.ensures in
    let room : is_out_of_memory c.step-reply.result ≡ false = grind arith in
    let answers : Answers (asks c.args.command.now c.loop-progress.progress) c.step-reply.result =
    rw asks-it (c.step-reply.ensures.fits, room) in
    rw c.in_ok-progress.ensures.is
    (rank-falls c.args.command.now c.loop-progress.progress c.step-reply.result stands answers)

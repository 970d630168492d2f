use Rattle.std.proofs.Common.{ap}
use Rattle.nofs_history.specs.Faults.{is_fault}
use Rattle.std.proofs.Common.{subst}
use Rattle.nofs_history.specs.Steps.{Fits}
use Rattle.nofs_history.specs.declared.machine.replies.Reply.{Reply}
use Rattle.nofs_shared.proofs.OnActs.Contents.{bytes-read, names-read}
use Rattle.nofs_shared.proofs.acts.copies.copy_reply.Goals as goal

pub returns-in-Err-clause-memory : goal.returns-in-Err-clause-memory
returns-in-Err-clause-memory c = λ s fits.
    (names-read s _ _ (subst (λ (r : Reply). Fits s r) c.in-Names.is fits), ap is_fault c.in-Names.is)

pub returns-in-Err-copy-clause-memory : goal.returns-in-Err-copy-clause-memory
returns-in-Err-copy-clause-memory c = λ s fits.
    (bytes-read s _ (subst (λ (r : Reply). Fits s r) c.in-Bytes.is fits), ap is_fault c.in-Bytes.is)

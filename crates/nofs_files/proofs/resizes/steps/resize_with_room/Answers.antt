use Rattle.std.proofs.Common.{ℕ, ◌*◌, ◌<◌, ◌≤◌, refl, subst}
use Rattle.nofs_disk.specs.Chains.{StaysButFaults-refl}
use Rattle.nofs_history.specs.declared.machine.replies.Refusal.TheVariants as refusal
use Rattle.nofs_history.specs.declared.machine.replies.Reply.TheVariants as reply
use Rattle.nofs_history.specs.declared.machine.steps.Step.TheVariants as step
use Rattle.nofs_state.proofs.OnCores.Replies.{goes-stopped}
use Rattle.nofs_state.proofs.OnCores.FirstRows.{early-comes, early-none, early-stopped}
use Rattle.nofs_files.proofs.OnResizes.Reads.{opened-goes}
use Rattle.nofs_files.proofs.OnResizes.Rows.{goes-too-big, goes-unresized}
use Rattle.nofs_files.proofs.resizes.steps.resize_with_room.Goals as goal
use Rattle.nofs_files.specs.Resizes.{resize_answer}
use Rattle.nofs_files.proofs.OnReads.FirstRows.{resize-comes, resize-passes}

pub returns-then-core-clause-goes : goal.returns-then-core-clause-goes
returns-then-core-clause-goes g c =
    goes-stopped (g.D.Disk.state c.args.core.now.disk) (g.D.Disk.state c.args.core.now.disk) c.args.core.now.books
    (step.Resize c.args.ask.inode c.args.ask.generation c.args.ask.size)
    (g.met.D.Disk.is_disk c.args.core.now.disk) c.requires.safe
    (StaysButFaults-refl (g.D.Disk.state c.args.core.now.disk)) refl c.if-core.true

pub returns-then-ask-slots_of-clause-goes : goal.returns-then-ask-slots_of-clause-goes
returns-then-ask-slots_of-clause-goes g c = goes-too-big (g.D.Disk.state c.args.core.now.disk) c.args.core.now.books
    c.args.ask.inode c.args.ask.generation c.args.ask.size
    (g.met.D.Disk.is_disk c.args.core.now.disk) c.requires.safe c.if-core.false
    (g.D.Disk.state c.args.core.now.disk) (StaysButFaults-refl (g.D.Disk.state c.args.core.now.disk)) refl
    (subst (λ (n : ℕ). 1024 * n < c.args.ask.size) c.slots_of.ensures c.if-ask-slots_of.true)

pub returns-in-Ok-clause-goes : goal.returns-in-Ok-clause-goes
returns-in-Ok-clause-goes g c = opened-goes (g.D.Disk.state c.args.core.now.disk)
    (g.D.Disk.state c.open_file.new.disk) c.args.core.now.books c.args.ask.inode
    c.args.ask.generation c.args.ask.size c.open_file.new.last c.in-Ok.it c.in-Ok.ensures
    (g.D.Disk.state c.resize_file.new.core.disk) c.resize_file.new.core.books c.resize_file.result c.resize_file.ensures

pub returns-in-Err-clause-goes : goal.returns-in-Err-clause-goes
returns-in-Err-clause-goes g c =
    goes-unresized (g.D.Disk.state c.args.core.now.disk) c.args.core.now.books c.args.ask.inode
    c.args.ask.generation c.args.ask.size
    (g.met.D.Disk.is_disk c.args.core.now.disk) c.requires.safe c.if-core.false
    (g.D.Disk.state c.open_file.new.disk) c.open_file.new.last c.open_file.result c.in-Err.why
    (subst (λ (n : ℕ). c.args.ask.size ≤ 1024 * n) c.slots_of.ensures c.if-ask-slots_of.false)
    c.open_file.ensures c.in-Err.is

-- what needs no disk to be refused
pub returns-then-core-clause-early : goal.returns-then-core-clause-early
returns-then-core-clause-early g c =
    early-stopped c.args.core.now.books (step.Resize c.args.ask.inode c.args.ask.generation c.args.ask.size)
    (reply.Refused refusal.Stopped) c.if-core.true

pub returns-then-ask-slots_of-clause-early : goal.returns-then-ask-slots_of-clause-early
returns-then-ask-slots_of-clause-early g c =
    early-comes c.args.core.now.books (step.Resize c.args.ask.inode c.args.ask.generation c.args.ask.size)
    (reply.Refused refusal.TooLarge) refusal.TooLarge
    (resize-comes c.args.core.now.books.at c.args.ask.inode c.args.ask.generation c.args.ask.size
    (subst (λ (n : ℕ). 1024 * n < c.args.ask.size) c.slots_of.ensures c.if-ask-slots_of.true)) refl

pub returns-in-Ok-clause-early : goal.returns-in-Ok-clause-early
returns-in-Ok-clause-early g c =
    early-none c.args.core.now.books (step.Resize c.args.ask.inode c.args.ask.generation c.args.ask.size)
    (resize_answer c.resize_file.result)
    (resize-passes c.args.core.now.books.at c.args.ask.inode c.args.ask.generation c.args.ask.size
    (subst (λ (n : ℕ). c.args.ask.size ≤ 1024 * n) c.slots_of.ensures c.if-ask-slots_of.false))

pub returns-in-Err-clause-early : goal.returns-in-Err-clause-early
returns-in-Err-clause-early g c =
    early-none c.args.core.now.books (step.Resize c.args.ask.inode c.args.ask.generation c.args.ask.size)
    (reply.Refused c.in-Err.why)
    (resize-passes c.args.core.now.books.at c.args.ask.inode c.args.ask.generation c.args.ask.size
    (subst (λ (n : ℕ). c.args.ask.size ≤ 1024 * n) c.slots_of.ensures c.if-ask-slots_of.false))

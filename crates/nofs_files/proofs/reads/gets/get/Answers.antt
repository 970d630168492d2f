use Rattle.std.proofs.Common.{◌≡◌, true, false, arith, refl, ◌∙◌}
use Rattle.nofs_disk.specs.Chains.{StaysButFaults-refl}
use Rattle.nofs_history.specs.declared.machine.steps.Step.TheVariants as step
use Rattle.nofs_history.specs.declared.machine.replies.Reply.TheVariants as reply
use Rattle.nofs_history.specs.declared.machine.replies.Refusal.TheVariants as refusal
use Rattle.nofs_state.proofs.OnCores.FirstRows.{early-comes, early-none, early-stopped}
use Rattle.nofs_state.proofs.OnCores.Readings.{read-memory, read-memory-found}
use Rattle.nofs_state.proofs.OnCores.Replies.{goes-stopped}
use Rattle.nofs_files.proofs.OnReads.FirstRows.{get-comes, get-passes}
use Rattle.nofs_files.proofs.OnReads.Gets.{get-bare, get-large, get-unfiled, get-unread, get-found, get-bytes}
use Rattle.nofs_files.proofs.OnReads.Memory.{file-memory}
use Rattle.nofs_files.proofs.reads.gets.get.Goals as goal

pub returns-then-core-clause-goes : goal.returns-then-core-clause-goes
returns-then-core-clause-goes g c = goes-stopped (g.D.Disk.state c.args.core.now.disk)
    (g.D.Disk.state c.args.core.now.disk) c.args.core.now.books
    (step.Get c.args.inode c.args.generation c.args.slot) (g.met.D.Disk.is_disk c.args.core.now.disk) c.requires
    (StaysButFaults-refl (g.D.Disk.state c.args.core.now.disk)) refl c.if-core.true

pub returns-then-slot-slots_of-clause-goes : goal.returns-then-slot-slots_of-clause-goes
returns-then-slot-slots_of-clause-goes g c = get-large c.args.inode c.args.generation c.args.slot
    (g.met.D.Disk.is_disk c.args.core.now.disk) c.requires c.if-core.false
    (let e = c.slots_of.ensures in let h = c.if-slot-slots_of.true in omega (arith, e, h))

pub returns-in-Err-clause-goes : goal.returns-in-Err-clause-goes
returns-in-Err-clause-goes g c = get-unfiled c.args.inode c.args.generation c.args.slot
    (g.met.D.Disk.is_disk c.args.core.now.disk) c.requires c.if-core.false
    (let e = c.slots_of.ensures in let h = c.if-slot-slots_of.false in
    omega (arith, e, h)) c.open_file.ensures c.in-Err.is

pub returns-in-Err-find_content-clause-goes : goal.returns-in-Err-find_content-clause-goes
returns-in-Err-find_content-clause-goes g c = get-unread c.args.inode c.args.generation c.args.slot
    (g.met.D.Disk.is_disk c.args.core.now.disk) c.requires c.if-core.false c.slots_of.ensures c.if-slot-slots_of.false
    c.in-Ok.ensures c.in-Err-find_content.ensures

pub returns-in-Hole-clause-goes : goal.returns-in-Hole-clause-goes
returns-in-Hole-clause-goes g c = get-bare c.args.inode c.args.generation c.args.slot
    (g.met.D.Disk.is_disk c.args.core.now.disk) c.requires c.if-core.false c.slots_of.ensures c.if-slot-slots_of.false
    c.in-Ok.ensures reply.Hole refl refl c.in-Ok-find_content.ensures c.in-Hole.is refl

pub returns-in-Holds-clause-goes : goal.returns-in-Holds-clause-goes
returns-in-Holds-clause-goes g c = get-found c.args.inode c.args.generation c.args.slot
    (g.met.D.Disk.is_disk c.args.core.now.disk) c.requires c.if-core.false c.slots_of.ensures c.if-slot-slots_of.false
    c.in-Ok.ensures (reply.Bytes c.find_content.new.last.cell.payload) refl refl c.in-Ok-find_content.ensures
    (get-bytes c.args.inode c.args.slot c.in-Ok.ensures.stays c.in-Ok-find_content.ensures c.in-Holds.is)

pub returns-in-Lost-clause-goes : goal.returns-in-Lost-clause-goes
returns-in-Lost-clause-goes g c = get-bare c.args.inode c.args.generation c.args.slot
    (g.met.D.Disk.is_disk c.args.core.now.disk) c.requires c.if-core.false c.slots_of.ensures c.if-slot-slots_of.false
    c.in-Ok.ensures reply.Lost refl refl c.in-Ok-find_content.ensures c.in-Lost.is refl

-- it has only read
pub returns-then-core-clause-memory : goal.returns-then-core-clause-memory
returns-then-core-clause-memory g c = λ e. read-memory c.requires
    (StaysButFaults-refl (g.D.Disk.state c.args.core.now.disk)) refl

pub returns-then-slot-slots_of-clause-memory : goal.returns-then-slot-slots_of-clause-memory
returns-then-slot-slots_of-clause-memory g c = λ e.
    read-memory c.requires
    (StaysButFaults-refl (g.D.Disk.state c.args.core.now.disk)) refl

pub returns-in-Err-clause-memory : goal.returns-in-Err-clause-memory
returns-in-Err-clause-memory g c = λ e.
    read-memory c.requires c.open_file.ensures.stays (c.in-Err.ensures.no_fault e)

pub returns-in-Err-find_content-clause-memory : goal.returns-in-Err-find_content-clause-memory
returns-in-Err-find_content-clause-memory g c = λ e. absurd (let t : true ≡ false = e in cc t)

pub returns-in-Hole-clause-memory : goal.returns-in-Hole-clause-memory
returns-in-Hole-clause-memory g c = λ e.
    read-memory-found c.requires c.open_file.ensures.stays c.find_content.ensures.stays
    (c.in-Ok-find_content.ensures.no_fault ∙ c.in-Ok.ensures.no_fault refl)

pub returns-in-Holds-clause-memory : goal.returns-in-Holds-clause-memory
returns-in-Holds-clause-memory g c = λ e.
    read-memory-found c.requires c.open_file.ensures.stays c.find_content.ensures.stays
    (c.in-Ok-find_content.ensures.no_fault ∙ c.in-Ok.ensures.no_fault refl)

pub returns-in-Lost-clause-memory : goal.returns-in-Lost-clause-memory
returns-in-Lost-clause-memory g c = λ e.
    read-memory-found c.requires c.open_file.ensures.stays c.find_content.ensures.stays
    (c.in-Ok-find_content.ensures.no_fault ∙ c.in-Ok.ensures.no_fault refl)

-- .. and took no memory
pub returns-in-Err-clause-no_memory : goal.returns-in-Err-clause-no_memory
returns-in-Err-clause-no_memory g c = file-memory _ _ _ _ _ _ c.in-Err.ensures.refused

-- what needs no disk to be refused
pub returns-then-core-clause-early : goal.returns-then-core-clause-early
returns-then-core-clause-early g c =
    early-stopped c.args.core.now.books (step.Get c.args.inode c.args.generation c.args.slot)
    (reply.Refused refusal.Stopped) c.if-core.true

pub returns-then-slot-slots_of-clause-early : goal.returns-then-slot-slots_of-clause-early
returns-then-slot-slots_of-clause-early g c =
    early-comes c.args.core.now.books (step.Get c.args.inode c.args.generation c.args.slot)
    (reply.Refused refusal.TooLarge) refusal.TooLarge
    (get-comes c.args.core.now.books.at c.args.inode c.args.generation c.args.slot
    (let e = c.slots_of.ensures in let h = c.if-slot-slots_of.true in omega (arith, e, h))) refl

pub returns-in-Err-clause-early : goal.returns-in-Err-clause-early
returns-in-Err-clause-early g c =
    early-none c.args.core.now.books (step.Get c.args.inode c.args.generation c.args.slot) (reply.Refused c.in-Err.why)
    (get-passes c.args.core.now.books.at c.args.inode c.args.generation c.args.slot
    (let e = c.slots_of.ensures in let h = c.if-slot-slots_of.false in omega (arith, e, h)))

pub returns-in-Err-find_content-clause-early : goal.returns-in-Err-find_content-clause-early
returns-in-Err-find_content-clause-early g c =
    early-none c.args.core.now.books (step.Get c.args.inode c.args.generation c.args.slot)
    (reply.Refused refusal.ReadFault)
    (get-passes c.args.core.now.books.at c.args.inode c.args.generation c.args.slot
    (let e = c.slots_of.ensures in let h = c.if-slot-slots_of.false in omega (arith, e, h)))

pub returns-in-Hole-clause-early : goal.returns-in-Hole-clause-early
returns-in-Hole-clause-early g c =
    early-none c.args.core.now.books (step.Get c.args.inode c.args.generation c.args.slot) reply.Hole
    (get-passes c.args.core.now.books.at c.args.inode c.args.generation c.args.slot
    (let e = c.slots_of.ensures in let h = c.if-slot-slots_of.false in omega (arith, e, h)))

pub returns-in-Holds-clause-early : goal.returns-in-Holds-clause-early
returns-in-Holds-clause-early g c =
    early-none c.args.core.now.books (step.Get c.args.inode c.args.generation c.args.slot)
    (reply.Bytes c.find_content.new.last.cell.payload)
    (get-passes c.args.core.now.books.at c.args.inode c.args.generation c.args.slot
    (let e = c.slots_of.ensures in let h = c.if-slot-slots_of.false in omega (arith, e, h)))

pub returns-in-Lost-clause-early : goal.returns-in-Lost-clause-early
returns-in-Lost-clause-early g c =
    early-none c.args.core.now.books (step.Get c.args.inode c.args.generation c.args.slot) reply.Lost
    (get-passes c.args.core.now.books.at c.args.inode c.args.generation c.args.slot
    (let e = c.slots_of.ensures in let h = c.if-slot-slots_of.false in omega (arith, e, h)))

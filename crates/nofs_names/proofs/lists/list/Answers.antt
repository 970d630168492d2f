use Rattle.std.proofs.Common.{◌≡◌, true, false, ◌∙◌, refl}
use Rattle.nofs_disk.specs.Chains.{StaysButFaults-refl}
use Rattle.nofs_history.specs.declared.machine.steps.Step.TheVariants as step
use Rattle.nofs_state.proofs.OnCores.Replies.{goes-stopped}
use Rattle.nofs_names.proofs.OnLists.Answers.{list-unopened, list-unread, list-none, list-lost, list-names}
use Rattle.nofs_names.proofs.OnLists.Answers.{list-failed, list-memory, list-memory-found}
use Rattle.nofs_names.proofs.OnLists.Answers.{list-memory-read}
use Rattle.nofs_names.proofs.lists.list.Goals as goal
use Rattle.nofs_names.proofs.OnSteps.Parts.{fails-quiet}

pub returns-then-core-clause-goes : goal.returns-then-core-clause-goes
returns-then-core-clause-goes g c =
    goes-stopped (g.D.Disk.state c.args.core.now.disk) (g.D.Disk.state c.args.core.now.disk) c.args.core.now.books
    (step.List c.args.directory c.args.generation c.args.slot) (g.met.D.Disk.is_disk c.args.core.now.disk) c.requires
    (StaysButFaults-refl (g.D.Disk.state c.args.core.now.disk)) refl c.if-core.true

pub returns-in-Err-clause-goes : goal.returns-in-Err-clause-goes
returns-in-Err-clause-goes g c = list-unopened (g.D.Disk.state c.args.core.now.disk) c.args.core.now.books
    c.args.directory c.args.generation c.args.slot
    (g.met.D.Disk.is_disk c.args.core.now.disk) c.requires c.if-core.false (g.D.Disk.state c.open_directory.new.disk)
    c.open_directory.new.last c.open_directory.result c.in-Err.why c.open_directory.ensures c.in-Err.is

pub returns-in-Err-find_listed-clause-goes : goal.returns-in-Err-find_listed-clause-goes
returns-in-Err-find_listed-clause-goes g c = list-unread _ _ _ _ _ (g.met.D.Disk.is_disk c.args.core.now.disk)
    c.requires c.if-core.false _ _ c.in-Ok.it c.in-Ok.ensures _ _ c.in-Err-find_listed.field-0
    c.in-Err-find_listed.ensures

pub returns-in-NoMore-clause-goes : goal.returns-in-NoMore-clause-goes
returns-in-NoMore-clause-goes g c =
    list-none _ _ _ _ _
    (g.met.D.Disk.is_disk c.args.core.now.disk) c.requires c.if-core.false _ _ c.in-Ok.it c.in-Ok.ensures
    _ _ c.in-Ok-find_listed.found c.in-Ok-find_listed.ensures c.in-NoMore.is

pub returns-in-Lost-clause-goes : goal.returns-in-Lost-clause-goes
returns-in-Lost-clause-goes g c =
    list-lost _ _ _ _ _
    (g.met.D.Disk.is_disk c.args.core.now.disk) c.requires c.if-core.false _ _ c.in-Ok.it c.in-Ok.ensures
    _ _ c.in-Ok-find_listed.found c.in-Ok-find_listed.ensures c.in-Lost.slot c.from.result
    c.in-Lost.is c.from.ensures

pub returns-in-Ok-read_lines-clause-goes : goal.returns-in-Ok-read_lines-clause-goes
returns-in-Ok-read_lines-clause-goes g c =
    list-names _ _ _ _ _
    (g.met.D.Disk.is_disk c.args.core.now.disk) c.requires c.if-core.false _ _ c.in-Ok.it c.in-Ok.ensures
    _ _ c.in-Ok-find_listed.found c.in-Ok-find_listed.ensures c.in-Holds.slot c.in-Holds.is
    _ c.read_lines.result c.read_lines.ensures c.in-Ok-read_lines.lines c.from-in-Ok-read_lines.result
    c.in-Ok-read_lines.is c.from-in-Ok-read_lines.ensures

pub returns-in-Err-read_lines-clause-goes : goal.returns-in-Err-read_lines-clause-goes
returns-in-Err-read_lines-clause-goes g c =
    list-failed _ _ _ _ _
    (g.met.D.Disk.is_disk c.args.core.now.disk) c.requires c.if-core.false _ _ c.in-Ok.it c.in-Ok.ensures
    _ _ c.in-Ok-find_listed.found c.in-Ok-find_listed.ensures c.in-Holds.slot c.in-Holds.is
    _ c.read_lines.result c.read_lines.ensures c.in-Err-read_lines.why c.in-Err-read_lines.is

-- it has only read
pub returns-then-core-clause-memory : goal.returns-then-core-clause-memory
returns-then-core-clause-memory g c = λ e. list-memory (g.D.Disk.state c.args.core.now.disk)
    c.args.core.now.books c.args.directory c.args.generation c.args.slot
    c.requires (g.D.Disk.state c.args.core.now.disk)
    (StaysButFaults-refl (g.D.Disk.state c.args.core.now.disk)) refl

pub returns-in-Err-clause-memory : goal.returns-in-Err-clause-memory
returns-in-Err-clause-memory g c = λ e. list-memory (g.D.Disk.state c.args.core.now.disk)
    c.args.core.now.books c.args.directory c.args.generation c.args.slot
    c.requires (g.D.Disk.state c.open_directory.new.disk) c.open_directory.ensures.stays
    (fails-quiet _ _ _ _ _ c.in-Err.ensures.refused e)

pub returns-in-Err-find_listed-clause-memory : goal.returns-in-Err-find_listed-clause-memory
returns-in-Err-find_listed-clause-memory g c = λ e. absurd (let t : true ≡ false = e in cc t)

pub returns-in-NoMore-clause-memory : goal.returns-in-NoMore-clause-memory
returns-in-NoMore-clause-memory g c = λ e.
    list-memory-found _ _ _ _ _ c.requires _ _ c.open_directory.ensures.stays c.find_listed.ensures.stays
    (c.in-Ok-find_listed.ensures.no_fault ∙ c.in-Ok.ensures.no_fault)

pub returns-in-Lost-clause-memory : goal.returns-in-Lost-clause-memory
returns-in-Lost-clause-memory g c = λ e.
    list-memory-found _ _ _ _ _ c.requires _ _ c.open_directory.ensures.stays c.find_listed.ensures.stays
    (c.in-Ok-find_listed.ensures.no_fault ∙ c.in-Ok.ensures.no_fault)

pub returns-in-Ok-read_lines-clause-memory : goal.returns-in-Ok-read_lines-clause-memory
returns-in-Ok-read_lines-clause-memory g c = λ e.
    list-memory-read _ _ _ _ _ c.requires _ _ _ c.open_directory.ensures.stays
    c.find_listed.ensures.stays c.read_lines.ensures.stays
    (c.in-Ok-read_lines.ensures.no_fault refl ∙ (c.in-Ok-find_listed.ensures.no_fault ∙ c.in-Ok.ensures.no_fault))

pub returns-in-Err-read_lines-clause-memory : goal.returns-in-Err-read_lines-clause-memory
returns-in-Err-read_lines-clause-memory g c = λ e.
    list-memory-read _ _ _ _ _ c.requires _ _ _ c.open_directory.ensures.stays
    c.find_listed.ensures.stays c.read_lines.ensures.stays
    (c.in-Err-read_lines.ensures.no_fault e ∙ (c.in-Ok-find_listed.ensures.no_fault ∙ c.in-Ok.ensures.no_fault))

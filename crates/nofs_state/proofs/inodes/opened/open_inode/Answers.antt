use Rattle.std.proofs.Common.{sym, ◌∙◌}
use Rattle.nofs_state.proofs.OnInodes.Opened.{opened, opened-not}
use Rattle.nofs_state.proofs.inodes.opened.open_inode.Goals as goal

pub returns-in-Ok-true : goal.returns-in-Ok-true
returns-in-Ok-true g c = opened (g.D.Disk.state c.args.disk.now) (g.D.Disk.state c.read_inode.new.disk)
    (g.D.Disk.state c.check_chain.new.disk)
    c.args.books.now c.args.inode c.args.generation c.in-Ok.found c.read_inode.new.last c.with_kind.result
    c.read_inode.ensures.stays c.check_chain.ensures.stays c.in-Ok.ensures.found c.in-Ok.ensures.kept
    c.if-found-generation.false c.with_kind.ensures.opened
    c.with_kind.ensures.refused (λ t all. sym c.in-Ok-true.field-0-test ∙ c.in-Ok-true.ensures.agreed t all)
    (c.in-Ok-true.ensures.no_fault ∙ c.in-Ok.ensures.no_fault)

pub returns-in-Ok-false : goal.returns-in-Ok-false
returns-in-Ok-false g c =
    opened-not (g.D.Disk.state c.args.disk.now) (g.D.Disk.state c.read_inode.new.disk)
    (g.D.Disk.state c.check_chain.new.disk)
    c.args.books.now c.args.inode c.args.generation c.read_inode.new.last c.in-Ok-false.field-0
    c.read_inode.ensures.stays c.check_chain.ensures.stays c.in-Ok-false.field-0-test c.in-Ok-false.ensures.agreed
    (c.in-Ok-false.ensures.no_fault ∙ c.in-Ok.ensures.no_fault)

use Rattle.nofs_mirror.proofs.OnOpening.{if_err, if_ok, opens_ready, refuses_ready}
use Rattle.nofs_mirror.proofs.mirror.Mirror.open.Goals as goal

pub returns-in-Ok-clause-opens : goal.returns-in-Ok-clause-opens
returns-in-Ok-clause-opens g c =
    if_ok c.copied.result (λ m opens. opens_ready _ _ _ _ _ c.args.blocks _ (g.met.B.Disk.is_disk c.args.other)
    (g.met.B.Disk.is_disk c.ready.new.self) c.ready.ensures _ m.log.sides opens)
    c.copied.ensures.opens

pub returns-in-Ok-clause-refuses : goal.returns-in-Ok-clause-refuses
returns-in-Ok-clause-refuses g c =
    if_err c.copied.result
    (λ fault cause refuses. refuses_ready _ _ _ _ _ c.args.blocks _ (g.met.B.Disk.is_disk c.args.other)
    (g.met.B.Disk.is_disk c.ready.new.self) c.ready.ensures fault.cause cause refuses)
    c.copied.ensures.cause c.copied.ensures.refuses

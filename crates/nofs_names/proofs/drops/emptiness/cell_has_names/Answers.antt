use Rattle.std.proofs.Common.{◌+◌, ◌*◌, Ok, ap, ◌∙◌}
use Rattle.nofs_names.proofs.OnDrops.Emptiness.{place-on, place-found}
use Rattle.nofs_names.proofs.drops.emptiness.cell_has_names.Goals as goal

pub returns-then-branch : goal.returns-then-branch
returns-then-branch g c = place-found _ _ _ c.args.directory.now.record _ _ c.requires.directory c.requires.slot
    c.requires.cell _ _ _ _ _ c.loop-place.invariant c.loop-place-test.true
    (16 * (c.args.slot + 1))
    c.is_paired.result c.is_paired.ensures (c.in_ok-is_paired.was {u = tt} ∙ ap Ok c.if-branch.true)

pub loop-place-preserved : goal.loop-place-preserved
loop-place-preserved g c = place-on _ _ _ c.args.directory.now.record _ _ c.requires.directory c.requires.slot
    c.requires.cell _ _ _ _ _ c.loop-place.invariant c.loop-place-test.true
    c.is_paired.result c.is_paired.ensures
    (c.in_ok-is_paired.was {u = tt} ∙ ap Ok c.if-branch.false)

use Rattle.nofs_ptrs.specs.Paths.{InRecord, Under}
use Rattle.nofs_model.specs.declared.image.path.PathAnswer.TheVariants as answer
use Rattle.nofs_names.proofs.OnDrops.Blocks.{marks-none, none-under-child}
use Rattle.nofs_names.proofs.drops.blocks.mark_child.Goals as goal

pub returns-in-Ok-Hole : goal.returns-in-Ok-Hole
returns-in-Ok-Hole g c =
    marks-none _ _ _ _ _ _ (Under (InRecord 9) c.args.child) _ _ c.find_slot.result _ answer.Hole c.find_slot.ensures
    c.in-Ok-Hole.is c.in-Ok-Hole.field-0-is
    (none-under-child c.args.it.now.inode c.args.child answer.Hole (λ x q. cc q) c.requires.child)

pub returns-in-Ok-Lost : goal.returns-in-Ok-Lost
returns-in-Ok-Lost g c =
    marks-none _ _ _ _ _ _ (Under (InRecord 9) c.args.child) _ _ c.find_slot.result _ answer.Lost c.find_slot.ensures
    c.in-Ok-Lost.is c.in-Ok-Lost.field-0-is
    (none-under-child c.args.it.now.inode c.args.child answer.Lost (λ x q. cc q) c.requires.child)

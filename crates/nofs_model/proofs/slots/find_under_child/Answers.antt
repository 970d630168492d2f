use Rattle.std.proofs.Common.{refl}
use Rattle.nofs_ptrs.specs.Paths as paths
use Rattle.nofs_model.proofs.slots.find_under_child.Goals as goal

pub returns-clause-found : goal.returns-clause-found
returns-clause-found c =
    c.find_under.ensures.found (paths.child c.args.child) c.find_under_record-node.ensures.found refl

use Rattle.std.proofs.Common.{refl}
use Rattle.nofs_names.proofs.OnDrops.Emptiness.{slot-empty}
use Rattle.nofs_names.proofs.drops.emptiness.slot_has_names.Goals as goal

pub returns-in-Hole-clause-search : goal.returns-in-Hole-clause-search
returns-in-Hole-clause-search g c =
    slot-empty _ _ _ _ c.args.directory.now.record _ _ _ _ _ _ _ c.requires.directory c.requires.slot refl
    c.requires.last c.find.ensures (c.in_ok-find.was {u = tt}) c.in-Hole.is (λ e X. refl)

pub returns-in-Lost-clause-search : goal.returns-in-Lost-clause-search
returns-in-Lost-clause-search g c =
    slot-empty _ _ _ _ c.args.directory.now.record _ _ _ _ _ _ _ c.requires.directory c.requires.slot refl
    c.requires.last c.find.ensures (c.in_ok-find.was {u = tt}) c.in-Lost.is (λ e X. refl)

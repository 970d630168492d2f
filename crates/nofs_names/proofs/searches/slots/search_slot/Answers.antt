use Rattle.std.proofs.Common.{refl}
use Rattle.nofs_names.proofs.OnSearches.Loops.{slot-hole, slot-lost}
use Rattle.nofs_names.proofs.searches.slots.search_slot.Goals as goal

pub returns-in-Hole-clause-search : goal.returns-in-Hole-clause-search
returns-in-Hole-clause-search g c =
    slot-hole _ _ _ _ c.args.directory.now.record _ _ _ c.requires.directory c.requires.slot _ refl
    _ _ _ c.requires.last _ (λ j. record c.args.unfound.now { hole = c.first-unfound.ensures j }) _ _
    c.find.ensures (c.in_ok-find.was {u = tt}) c.in-Hole.is

pub returns-in-Lost-clause-search : goal.returns-in-Lost-clause-search
returns-in-Lost-clause-search g c =
    slot-lost _ _ _ _ c.args.directory.now.record _ _ _ c.requires.directory c.requires.slot _ refl
    _ _ _ c.requires.last _ (λ j. record c.args.unfound.now { lost = c.first-unfound-in-Lost.ensures j }) _ _
    c.find.ensures (c.in_ok-find.was {u = tt})
    c.in-Lost.is

use Rattle.nofs_history.proofs.accepted.files.cells.write_kept.Goals as goal

pub returns-in-Hole : goal.returns-in-Hole
returns-in-Hole c = rw c.in-Hole.is c.write_hole.ensures

pub returns-in-Lost : goal.returns-in-Lost
returns-in-Lost c = rw c.in-Lost.is c.write_hole-in-Lost.ensures

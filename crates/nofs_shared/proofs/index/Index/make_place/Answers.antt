use Rattle.nofs_shared.proofs.index.Index.make_place.Goals as goal

pub returns : goal.returns
returns c = λ F all. c.forget.ensures F

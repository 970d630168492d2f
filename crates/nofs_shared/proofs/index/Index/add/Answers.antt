use Rattle.nofs_shared.proofs.index.Index.add.Goals as goal

pub returns : goal.returns
returns c = λ F all line. c.put.ensures F (c.make_place.ensures F all) line

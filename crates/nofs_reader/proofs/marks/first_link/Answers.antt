use Rattle.std.proofs.Common.{sym, ◌∙◌}
use Rattle.nofs_agree.proofs.OnPair.{first-at, first-none}
use Rattle.nofs_reader.proofs.marks.first_link.Goals as goal

pub returns-in-Some : goal.returns-in-Some
returns-in-Some c = first-at c.args.links.now c.in-Some.place (sym c.first_place.ensures ∙ c.in-Some.is)

pub returns-in-None : goal.returns-in-None
returns-in-None c = first-none c.args.links.now (sym c.first_place.ensures ∙ c.in-None.is)

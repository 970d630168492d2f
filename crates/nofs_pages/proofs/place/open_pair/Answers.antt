use Rattle.std.proofs.Common.{◌∙◌, inl, inr, sym}
use Rattle.nofs_pages.proofs.OnPlaces.{first-told, second-told}
use Rattle.nofs_pages.proofs.place.open_pair.Goals as goal

pub returns-in-First-clause-told : goal.returns-in-First-clause-told
returns-in-First-clause-told c old =
    inl (first-told c.args.number c.args.one.now c.args.two.now (sym c.judge.ensures ∙ c.in-First.is))

pub returns-in-Second-clause-told : goal.returns-in-Second-clause-told
returns-in-Second-clause-told c old =
    inr (inl (second-told c.args.number c.args.one.now c.args.two.now (sym c.judge.ensures ∙ c.in-Second.is)))

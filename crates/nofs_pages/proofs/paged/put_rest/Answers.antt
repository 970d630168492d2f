use Rattle.std.proofs.Common.{refl}
use Rattle.nofs_pages.proofs.OnViews.{rest-front-ok, rest-plain}
use Rattle.nofs_pages.proofs.paged.put_rest.Goals as goal

pub returns-clause-rest : goal.returns-clause-rest
returns-clause-rest g c =
    rest-front-ok (g.S.PageStore.state c.args.store.now) (g.S.PageStore.state c.put_front.new.store) c.args.row.now
    c.args.first c.args.count c.put_front.result (c.requires.ends c.if-not-ahead.false) c.put_front.ensures.view
    c.put_front.ensures.front

pub returns-then-not-ahead-clause-rest : goal.returns-then-not-ahead-clause-rest
returns-then-not-ahead-clause-rest g c tells k apart =
    rest-plain (g.S.PageStore.state c.args.store.now).bytes c.args.row.now
    (c.requires.plain c.if-not-ahead.true tells) k

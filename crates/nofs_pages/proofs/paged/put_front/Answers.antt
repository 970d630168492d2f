use Rattle.std.proofs.Common.{◌+◌, ◌*◌, ◌<◌, ◌≤◌, ◌∙◌, ℕ, arith, sym, subst, List, length, inl, inr}
use Rattle.nofs_pages.proofs.OnViews.{over-front, rests-front}
use Rattle.nofs_pages.proofs.paged.put_front.Goals as goal

pub returns-clause-view : goal.returns-clause-view
returns-clause-view g c tells =
    over-front (g.S.PageStore.state c.args.store.now).bytes (g.S.PageStore.state c.put.new.self).bytes c.args.row.now
    c.args.count c.requires.count (c.put.ensures.puts.others tells)

pub returns-clause-rests : goal.returns-clause-rests
returns-clause-rests g c =
    rests-front (g.S.PageStore.rests c.args.store.now) (g.S.PageStore.rests c.put.new.self) c.args.put.now
    c.add.new.self c.args.row.now.first c.args.count c.put.result c.requires.rests c.add.ensures.here
    c.add.ensures.others
    c.put.ensures.rests

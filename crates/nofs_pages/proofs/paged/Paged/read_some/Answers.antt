use Rattle.std.proofs.Common.{arith}
use Rattle.nofs_pages.proofs.OnCalls.{part-pieces, told-pieces}
use Rattle.nofs_pages.proofs.paged.Paged.read_some.Goals as goal

pub returns-clause-part : goal.returns-clause-part
returns-clause-part g c =
    let old = c.args.self.now in
    let count = c.count_at-count.ensures in
    part-pieces (g.S.PageStore.state old.store) (g.S.PageStore.state old.synced.value) old.row old.faults c.args.at
    c.place_of-first.result.0 c.place_of-first.result.1 c.count_at-count.result c.args.into.now
    c.read_pieces.new.into c.read_pieces.result c.place_of-first.ensures.page c.place_of-first.ensures.offset
    (omega (arith, count)) c.read_pieces.ensures.len
    (omega (arith, count, c.if-count-eq0.false)) c.read_pieces.ensures.fits c.read_pieces.ensures.part

pub returns-clause-told : goal.returns-clause-told
returns-clause-told g c =
    told-pieces (g.S.PageStore.told c.read_pieces.new.self.store) c.read_pieces.new.self.row c.args.at
    c.place_of-first.result.0 c.place_of-first.result.1 c.count_at-count.result c.read_pieces.result
    c.place_of-first.ensures.page c.place_of-first.ensures.offset c.read_pieces.ensures.fits c.read_pieces.ensures.told

use Rattle.std.proofs.Common.{◌+◌, ◌*◌, ◌-◌, ◌∙◌, ap}
use Rattle.nofs_pages.proofs.OnViews.{put-in-row}
use Rattle.nofs_pages.proofs.paged.Paged.put_inside.Goals as goal

pub returns-clause-put : goal.returns-clause-put
returns-clause-put g c tells =
    let old = c.args.self.now in
    put-in-row (g.S.PageStore.state old.store) (g.S.PageStore.state old.synced.value) old.row c.put.new.self old.faults
    c.args.first c.args.offset c.args.from.now tells c.requires.some c.requires.place c.requires.low c.requires.high
    c.put.ensures.first c.put.ensures.count c.put.ensures.part

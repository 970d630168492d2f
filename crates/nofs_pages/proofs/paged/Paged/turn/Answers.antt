use Rattle.std.proofs.Common.{◌∙◌, refl}
use Rattle.nofs_pages.proofs.OnViews.{put-turned}
use Rattle.nofs_pages.proofs.paged.Paged.turn.Goals as goal

pub returns-in-Ok-clause-put : goal.returns-in-Ok-clause-put
returns-in-Ok-clause-put g c tells =
    let old = c.args.self.now in
    put-turned (g.S.PageStore.state old.store) (g.S.PageStore.state c.put_rest.new.store)
    (g.S.PageStore.state old.synced.value) old.row c.turn.new.self old.faults old.faults c.args.first c.args.offset
    c.args.from.now tells c.put_rest.ensures.tells c.requires.some c.requires.place
    (rw c.turn.ensures.bytes (c.requires.composed tells)) c.turn.ensures.first
    (c.turn.ensures.count ∙ c.pages_of-count.ensures)
    (rw (← c.pages_of-count.ensures) (c.in-Ok.ensures.rest tells))

use Rattle.nofs_pages.proofs.OnViews.{empty-synced}
use Rattle.nofs_pages.proofs.paged.Paged.over.Goals as goal

pub returns-clause-synced : goal.returns-clause-synced
returns-clause-synced g c =
    rw c.of-synced.ensures (empty-synced (g.S.PageStore.state c.args.store) c.in_ok-new.field-0 0 c.in_ok-new.ensures)

use Rattle.nofs_pages.proofs.OnSingles.{pages-told, shows}
use Rattle.nofs_pages.proofs.single.SinglePageStore.show.Goals as goal

pub returns-clause-shows : goal.returns-clause-shows
returns-clause-shows g c =
    let did = c.in_ok-read_pages.ensures in
    shows (g.B.Positioned.state c.args.self.now.file) (g.B.Positioned.state c.read_pages.new.file)
    c.read_pages.new.into.items c.args.first c.args.count c.args.to c.args.into.now c.open_row.new.into
    c.open_row.result did.keeps did.no_fault c.requires.place did.part c.open_row.ensures.len c.open_row.ensures.areas

pub returns-clause-told : goal.returns-clause-told
returns-clause-told g c =
    let did = c.in_ok-read_pages.ensures in
    pages-told (g.B.Positioned.state c.args.self.now.file) (g.B.Positioned.state c.read_pages.new.file)
    c.args.self.now.fresh c.open_row.result c.read_pages.new.into.items c.args.first c.args.count did.keeps did.part
    c.open_row.ensures.told

use Rattle.std.proofs.Common.{◌<◌, ◌∙◌, sym}
use Rattle.nofs_pages.proofs.OnTwinStores.{shows-twins, twins-told}
use Rattle.nofs_pages.proofs.twin.TwinPageStore.show.Goals as goal

pub returns-in-Ok-clause-shows : goal.returns-in-Ok-clause-shows
returns-in-Ok-clause-shows g c =
    let did = c.in-Ok.ensures in
    let old = c.args.self.now in
    let new = c.show_row.new.self in
    shows-twins (g.B.Positioned.state old.file) (g.B.Positioned.state new.file) old.faults new.faults new.pairs.items
    c.args.first c.args.count c.args.to c.args.into.now c.show_row.new.into c.in-Ok.all did.faults
    c.requires.place did.keeps did.len did.areas

pub returns-in-Ok-clause-told : goal.returns-in-Ok-clause-told
returns-in-Ok-clause-told g c all =
    let did = c.in-Ok.ensures in
    let old = c.args.self.now in
    let new = c.show_row.new.self in
    λ j (low : j < c.args.count).
    twins-told (g.B.Positioned.state old.file) (g.B.Positioned.state new.file) new.fresh new.pairs.items c.args.first
    c.args.count j did.keeps (λ tells. (did.areas all tells).0) (λ fresh. did.told all (sym did.fresh ∙ fresh)) low

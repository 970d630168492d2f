use Rattle.std.proofs.Common.{refl}
use Rattle.nofs_salvage.proofs.report.filter.NameFilter.picks.Goals as goal

pub returns : goal.returns
returns g c = c.requires.decides c.args.name.now c.keep.result
    (record { shown = c.args.name; shows = refl; says = record { met = c.keep.ensures } })

use Rattle.std.proofs.Common.{◌+◌, ◌≤◌, refl, sym, ◌∙◌, subst}
use Rattle.nofs_history.specs.HistoryState.{HistoryState}
use Rattle.nofs_state.proofs.OnCores.Beginning.{knows-fixed, open-with}
use Rattle.nofs_state.proofs.cores.mounted_disk.Core.over.Goals as goal

pub returns-clause-open : goal.returns-clause-open
returns-clause-open g c =
    open-with (g.D.Disk.state c.args.disk) c.args.at c.args.first c.moment.result c.args.room c.restart.new.self
    (g.met.D.Disk.is_disk c.args.disk) c.requires.numbers c.requires.room c.moment.ensures c.restart.ensures

pub returns-clause-begun : goal.returns-clause-begun
returns-clause-begun g c =
    let at = c.requires.numbers.geometry in
    let h = c.restart.ensures in
    record {
      start = (λ j. (h j).start) ∙ c.moment.ensures;
      empty = λ j. (h j).entries;
      spare = subst (λ (q : HistoryState). c.args.at.inodes + c.args.at.blocks ≤ q.spare) (sym h) c.requires.room.spare;
      at = refl;
      going = refl;
      known = knows-fixed c.args.at c.args.first c.args.room c.restart.new.self at.some_inodes at.table c.requires.room;
    }

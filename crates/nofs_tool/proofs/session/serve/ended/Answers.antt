use Rattle.std.proofs.Common.{sym, subst₂}
use Rattle.std.proofs.Math.Logic.{∥∥₁_elim, ∥∥₁_prop}
use Rattle.nofs_history.specs.HistoryState.{HistoryState}
use Rattle.nofs_tool.specs.Session.Whole.{Finished}
use Rattle.nofs_tool.proofs.OnSession.Whole.{mount-finishes}
use Rattle.nofs_tool.proofs.session.serve.ended.Goals as goal

pub returns-clause-ends : goal.returns-clause-ends
returns-clause-ends g c =
    let S = g.D.Disk.state in
    let m = c.args.mount in
    let found = S m.found.value in
    let F : g.row.D.Denot → HistoryState → Type 0 = λ d h. ∥ Finished found (S d) m.first h ∥₁ in
    let made : F m.core.disk m.core.books.history =
    ∥∥₁_elim m.stands ∥∥₁_prop (λ i. ∣ mount-finishes found (S m.core.disk) m.first m.core.books i ∣₁) in
    subst₂ F (sym c.end-disk.ensures.is.0) (sym c.end-disk.ensures.is.1) made

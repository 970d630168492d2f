use Rattle.std.proofs.Common.{◌≡◌, ◌∙◌, ℕ, List, [], sym, ap, subst, subst₂}
use Rattle.std.proofs.Math.Logic.{∥∥₁_elim, ∥∥₁_prop}
use Rattle.nofs_disk.specs.Disk.{Rose}
use Rattle.nofs_history.specs.HistoryState.{HistoryState}
use Rattle.nofs_history.specs.Steps.{Made}
use Rattle.nofs_history.specs.declared.machine.history.Entry1.{Entry1}
use Rattle.nofs_history.specs.Callers.{steps_by}
use Rattle.nofs_tool.specs.Visits.Visit.{IsVisitRun}
use Rattle.nofs_tool.specs.Session.Whole.{Finished}
use Rattle.nofs_wire.specs.Server.Serve.{Serves}
use Rattle.nofs_tool.specs.Visits.Wire.{IsWired}
use Rattle.nofs_tool.proofs.OnVisits.Wire.{serves-wired}
use Rattle.nofs_tool.proofs.OnVisits.Visit.{visit-steps}
use Rattle.nofs_tool.proofs.OnSession.Whole.{mount-finishes}
use Rattle.nofs_tool.proofs.visits.wire.run_wire.Goals as goal

pub returns-clause-ends : goal.returns-clause-ends
returns-clause-ends g c =
    let S = g.D.Disk.state in
    let m = c.visit_and_close-mount.result.mount in
    let same = c.visit_and_close-mount.ensures.same in
    let F : g.row.D.Denot → ℕ → g.row.D.Denot → HistoryState → Type 0 = λ f n d h. ∥ Finished (S f) (S d) n h ∥₁ in
    let made : F m.found.value m.first m.core.disk m.core.books.history = ∥∥₁_elim m.stands ∥∥₁_prop
    (λ i. ∣ mount-finishes (S m.found.value) (S m.core.disk) m.first m.core.books i ∣₁) in
    subst₂ (λ d h. F c.args.mount.found.value c.args.mount.first d h) (sym c.end-disk.ensures.is.0)
    (sym c.end-disk.ensures.is.1)
    (subst₂ (λ f n. F f n m.core.disk m.core.books.history) same.0 same.1 made)

pub returns-clause-served : goal.returns-clause-served
returns-clause-served g c =
    let v = c.visit_and_close-mount in
    let H = v.result.mount.core.books.history.entries in
    let Q = g.Q.Source.state in
    let K = g.K.Sink.state in
    let made = visit-steps _ c.args.mount.core.books.at.inodes c.args.mount.core.books.at.blocks v.result.out_of_memory
    H v.ensures.ran in
    let one = made.0 in
    let two = made.1 in
    let source_is : c.source-1.given.0 ≡ v.new.visitor.source.now = c.source-1.given.1 (sym one)
    ∙ c.take_back.ensures in
    let sink_is : c.sink-1.given.0 ≡ v.new.visitor.sink.now = c.sink-1.given.1 (sym two) ∙ c.take_back-2.ensures in
    let all : steps_by 1 c.end-disk.result.1.entries ≡ steps_by 1 H =
    ap (λ (h : HistoryState). steps_by 1 h.entries) c.end-disk.ensures.is.1 in
    subst (λ (x : g.row.Q.Denot × g.row.K.Denot × List Made). Serves 16777216 v.new.visitor.end
    (Q c.args.source.now).left (Q x.0).left
    (K c.args.sink.now).given (K x.1).given [] x.2)
    (λ i. (sym source_is i, sym sink_is i, sym all i)) made.2.serves

pub returns-clause-ran : goal.returns-clause-ran
returns-clause-ran g c =
    let v = c.visit_and_close-mount in
    let Q = g.Q.Source.state in
    let K = g.K.Sink.state in
    let at = c.args.mount.core.books.at in
    let r = v.ensures.ran in
    let H = v.result.mount.core.books.history.entries in
    let seen = r.made.visited in
    let one = seen.0 in
    let source_is : c.source-1.given.0 ≡ v.new.visitor.source.now = c.source-1.given.1 (sym one)
    ∙ c.take_back.ensures in
    let left = (Q c.args.source.now).left in
    let new_left = (Q v.new.visitor.source.now).left in
    let run : IsVisitRun (IsWired left new_left) at.inodes at.blocks v.result.out_of_memory H = record {
      served = r.served;
      flush = r.flush;
      closes = r.closes;
      closed = r.closed;
      made = record {
        visited = serves-wired 16777216 v.new.visitor.end left new_left
            (K c.args.sink.now).given (K v.new.visitor.sink.now).given (steps_by 1 r.served)
            seen.2.serves;
        inodes_seen = r.made.inodes_seen;
        blocks_seen = r.made.blocks_seen;
        others = r.made.others;
      };
      swept = r.swept;
    } in
    subst (λ (x : g.row.Q.Denot × List Entry1).
    IsVisitRun (IsWired left (Q x.0).left) at.inodes at.blocks v.result.out_of_memory x.1)
    (λ i. (sym source_is i, (sym c.end-disk.ensures.is.1 i).entries)) run

pub returns-clause-source_fault : goal.returns-clause-source_fault
returns-clause-source_fault g c = λ e.
    let v = c.visit_and_close-mount in
    let seen = v.ensures.ran.made.visited in
    let one = seen.0 in
    let source_is : c.source-1.given.0 ≡ v.new.visitor.source.now = c.source-1.given.1 (sym one)
    ∙ c.take_back.ensures in
    subst (λ (x : g.row.Q.Denot). Rose (g.Q.Source.state c.args.source.now).faults (g.Q.Source.state x).faults)
    (sym source_is) (seen.2.source_fault e)

use Rattle.std.proofs.Common.{◌≡◌, ◌∙◌, sym, ap}
use Rattle.nofs_history.specs.Faults.{has_fault}
use Rattle.nofs_tool.specs.Visits.Wire.{wire_status}
use Rattle.nofs_tool.proofs.OnVisits.Wire.{serves-most, short-seven, wire-ends, wire-headline, zero-end}
use Rattle.nofs_tool.proofs.visits.wire.mounted.Goals as goal

pub returns-clause-ends : goal.returns-clause-ends
returns-clause-ends g c =
    let r = c.run_wire-disk.result in
    let e = c.run_wire-disk.ensures in
    wire-ends (g.D.Disk.state c.args.mount.found.value) (g.D.Disk.state r.disk)
    _ _ _ _ c.args.mount.first c.wire_status-status.result r.out_of_memory r.end r.history
    (c.wire_status-status.ensures ∙ ap (wire_status r.out_of_memory r.end) c.has_fault.ensures) e.served
    e.source_fault e.sink_fault e.ends

pub returns-clause-headline : goal.returns-clause-headline
returns-clause-headline g c =
    let S = g.D.Disk.state in
    let m = c.args.mount in
    let r = c.run_wire-disk.result in
    let e = c.run_wire-disk.ensures in
    let f = has_fault r.history.entries in
    let is : c.wire_status-status.result ≡ wire_status r.out_of_memory r.end f =
    c.wire_status-status.ensures ∙ ap (wire_status r.out_of_memory r.end) c.has_fault.ensures in
    wire-headline _ (S m.found.value) (S m.core.disk) (S r.disk)
    m.first c.wire_status-status.result m.core.books r.out_of_memory r.history c.requires.first m.stands
    c.requires.raised e.ends
    e.ran e.closed (λ h. is ∙ short-seven r.out_of_memory r.end f h)
    (λ h. (zero-end r.out_of_memory r.end f (sym is ∙ h)).1)

pub returns-clause-taken : goal.returns-clause-taken
returns-clause-taken g c =
    serves-most 16777216 _ (g.Q.Source.state c.args.source.now) (g.Q.Source.state c.run_wire-disk.new.source) _ _ _
    c.run_wire-disk.ensures.served

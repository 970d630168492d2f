use Rattle.std.proofs.Common.{◌≡◌, [], inl, inr, IsTrue, Some, sym, subst}
use Rattle.nofs_tool.specs.declared.begin.mounts.Cause.{Cause}
use Rattle.nofs_tool.specs.Begin.Mounts.{HasNoMount, IsUnformatted, IsUnmounted}
use Rattle.nofs_tool.specs.Session.Whole.{IsMet}
use Rattle.nofs_tool.proofs.OnBegin.Causes.{refused-later, unformatted-by}
use Rattle.nofs_tool.proofs.OnBegin.Formats.{formatted_met, if-err, if-ok}
use Rattle.nofs_tool.proofs.begin.mounts.format_and_mount.Goals as goal

pub returns-in-Ok-clause-met : goal.returns-in-Ok-clause-met
returns-in-Ok-clause-met g c =
    let S = g.D.Disk.state in
    let e = c.in-Ok.ensures in
    let met : IsTrue (S c.args.disk).tells → IsMet (S c.format.new.disk) =
    formatted_met c.args.numbers.blocks c.args.numbers.inodes (S c.args.disk)
    (S c.format.new.disk) e.ends e.adds e.cells in
    if-ok c.mount.result
    (λ m. (m.found.value ≡ c.format.new.disk) × (m.first ≡ 0) × (m.core.books.history.entries ≡ []))
    (λ m. IsTrue (S c.args.disk).tells → IsMet (S m.found.value)) c.mount.ensures.mount
    (λ m p tells. subst (λ (d : g.row.D.Denot). IsMet (S d)) (sym p.0) (met tells))

pub returns-in-Ok-clause-refused : goal.returns-in-Ok-clause-refused
returns-in-Ok-clause-refused g c =
    let S = g.D.Disk.state in
    let n = c.args.numbers in
    if-err c.mount.result (λ r. IsUnmounted (S c.format.new.disk) (S r.disk) r.cause)
    (λ r. IsUnformatted (S c.args.disk) (S r.disk) n.blocks n.inodes r.cause)
    c.mount.ensures.refused (λ r u. refused-later n.blocks n.inodes (S c.args.disk) (S c.format.new.disk)
    (S r.disk) r.cause c.in-Ok.ensures.ends c.in-Ok.ensures.adds c.in-Ok.ensures.cells u)

pub returns-in-Err-clause-refused : goal.returns-in-Err-clause-refused
returns-in-Err-clause-refused g c =
    let S = g.D.Disk.state in
    let n = c.args.numbers in
    subst (λ (x : Cause). IsUnformatted (S c.args.disk) (S c.format.new.disk) n.blocks n.inodes x)
    (sym c.format_cause.ensures)
    (unformatted-by n.blocks n.inodes (S c.args.disk)
    (S c.format.new.disk) c.format.ensures.adds.disk.faults _ c.in-Err.ensures.ends)

pub returns-in-Ok-clause-unmounted : goal.returns-in-Ok-clause-unmounted
returns-in-Ok-clause-unmounted g c =
    let S = g.D.Disk.state in
    let e = c.in-Ok.ensures in
    let n = c.args.numbers in
    if-err c.mount.result (λ r. IsUnmounted (S c.format.new.disk) (S r.disk) r.cause)
    (λ r. HasNoMount S (Some n) c.args.disk r.disk r.cause)
    c.mount.ensures.refused (λ r u. inr (record {
      found = c.format.new.disk;
      formatted = e.ends;
      met = formatted_met n.blocks n.inodes (S c.args.disk) (S c.format.new.disk) e.ends e.adds e.cells;
      unmounted = u;
    }))

pub returns-in-Err-clause-unmounted : goal.returns-in-Err-clause-unmounted
returns-in-Err-clause-unmounted g c = inl (record {
  why = c.in-Err.fault;
  told = c.format_cause.ensures;
  ends = c.in-Err.ensures.ends;
  adds = c.format.ensures.adds;
})

use Rattle.std.proofs.Common.{◌∙◌, Bool, false, [], sym, ap, subst}
use Rattle.nofs_history.specs.HistoryState.{HistoryState}
use Rattle.nofs_shared.specs.Mount.Invariant.{IsMount}
use Rattle.nofs_state.specs.declared.books.maps.Counts.{Counts}
use Rattle.nofs_tool.specs.Session.Counts.{IsCounted}
use Rattle.nofs_tool.specs.Session.Serve.{IsSessionRun}
use Rattle.nofs_tool.proofs.OnSession.Counts.{counts-told, machine-counted, none-run, scan-counted}
use Rattle.nofs_tool.proofs.session.serve.run_scan.Goals as goal

pub returns-clause-counted : goal.returns-clause-counted
returns-clause-counted g c =
    let S = g.D.Disk.state in
    let before = c.args.mount in
    let at = before.core.books.at in
    let served = c.serve_and_close-mount.result in
    let m = served.mount in
    let H = m.core.books.history.entries in
    let same = c.serve_and_close-mount.ensures.same.0 in
    let none : IsSessionRun [] at.inodes at.blocks served.out_of_memory served.lines.items H =
    none-run c.new.result.items (λ p. p.commands) at.inodes at.blocks
    served.out_of_memory served.lines.items H c.new.ensures.items c.serve_and_close-mount.ensures.ran in
    let run : IsSessionRun [] at.inodes at.blocks false served.lines.items H =
    subst (λ (o : Bool). IsSessionRun [] at.inodes at.blocks o served.lines.items H)
    c.if-out_of_memory.false none in
    let T : g.row.D.Denot → g.row.D.Denot → HistoryState → Counts → Type 0 = λ f d h x. IsCounted (S f) (S d) h x in
    let stands = subst (λ (f : g.row.D.Denot). ∥ IsMount (S f) (S m.core.disk) m.first m.core.books ∥₁) same m.stands in
    let zero = c.serve_and_close-mount.ensures.same.1 ∙ c.requires.first in
    let counted : T before.found.value m.core.disk m.core.books.history c.counts.result = record {
      machine = machine-counted (S before.found.value) (S m.core.disk) m.first m.core.books c.counts.result zero stands
          c.counts.ensures.machine;
      disk = scan-counted (S before.found.value) (S before.core.disk) (S m.core.disk)
          m.first before.first before.core.books m.core.books served.lines.items c.counts.result before.stands stands
          run c.counts.ensures.machine;
    } in
    let on_disk : T before.found.value c.ended-2.result.disk m.core.books.history c.counts.result = subst
    (λ (d : g.row.D.Denot). T before.found.value d m.core.books.history c.counts.result)
    (sym c.ended-2.ensures.disk) counted in
    let known : T before.found.value c.ended-2.result.disk c.ended-2.result.history c.counts.result = subst
    (λ (h : HistoryState). T before.found.value c.ended-2.result.disk h c.counts.result)
    (sym c.ended-2.ensures.history) on_disk in
    counts-told (T before.found.value c.ended-2.result.disk c.ended-2.result.history) c.history.result.now.entries
    c.ended-2.result.history.entries c.scan_text.result c.ended-2.result.text c.counts.result
    (c.ended-2.ensures.text ∙ c.ok-text.ensures.value)
    (ap (λ (h : HistoryState). h.entries) (c.ended-2.ensures.history ∙ sym c.history.ensures)) c.scan_text.ensures known

use Rattle.std.proofs.Common.{◌-◌, refl, sym, ap, ◌∙◌, subst, subst₂, rules}
use Rattle.nofs_disk.specs.Disk.{DiskState}
use Rattle.nofs_disk.specs.Chains.{StaysButFaults-refl}
use Rattle.nofs_history.specs.Claims.{no_claims}
use Rattle.nofs_state.specs.Books.Maps.{IsSafe}
use Rattle.nofs_state.specs.declared.books.maps.Books.{Books}
use Rattle.nofs_scan.specs.Steps.Elements.{see_step, verdict_at}
use Rattle.nofs_shared.specs.Mount.Invariant.{IsMount}
use Rattle.nofs_shared.proofs.OnMount.Histories.{safe-history}
use Rattle.nofs_history.specs.declared.machine.replies.Reply.TheVariants as reply
use Rattle.nofs_history.specs.declared.machine.replies.Refusal.TheVariants as refusal
use Rattle.nofs_state.proofs.OnCores.Replies.{goes-stopped}
use Rattle.nofs_shared.proofs.OnMount.Steps.{mount-goes}
use Rattle.nofs_shared.specs.Mount.Commits.{IsCommit}
use Rattle.nofs_shared.proofs.OnIndex.Mounts.{index-unmoved, see-unmoved}
use Rattle.nofs_shared.proofs.OnMount.Commits.{adds-stopped, commit-stopped, fits-seen, fits-stopped}
use Rattle.nofs_shared.proofs.OnMount.Commits.{mount-answers, mount-kept, see-flushes-nothing}
use Rattle.nofs_shared.proofs.mount.batches.commit_in.Goals as goal

pub returns-clause-keeps : goal.returns-clause-keeps
returns-clause-keeps g c = λ found first then m.
    subst₂ (λ (d : DiskState) (l : Books). IsMount (g.D.Disk.state found) d first l)
    (ap g.D.Disk.state (sym (c.keep_step.ensures.disk ∙ c.commit-stands.ensures.disk))) (sym c.keep_step.ensures.books)
    (mount-kept (g.D.Disk.state found) (g.D.Disk.state c.args.evidence.now.core.value.disk)
    (g.D.Disk.state c.args.core.now.disk) first c.args.evidence.now.core.value.books c.args.core.now.books
    c.commit-stands.new.core.books then m c.requires.earlier c.if-core.false c.args.evidence.now.kind
    (verdict_at c.args.evidence.now.verdicts c.args.at).item c.args.used c.commit-stands.result
    c.commit-stands.ensures.commits c.args.caller c.moment-from.result
    (g.D.Disk.state c.commit-stands.new.core.disk).moment
    (c.commit-stands.new.core.books.history.spare - 1) c.step_of-step.result
    (c.step_of-step.ensures ∙ ap (see_step c.args.evidence.now.kind) c.item-item.ensures) c.moment-from.ensures
    (λ j. (g.D.Disk.state (c.commit-stands.ensures.disk j)).moment))

pub returns-clause-tells : goal.returns-clause-tells
returns-clause-tells g c = record {
  adds = search rules;
  fits = fits-seen c.args.evidence.now.kind
      (verdict_at c.args.evidence.now.verdicts c.args.at).item c.commit-stands.result;
  whole = λ e. absurd (see-flushes-nothing c.args.evidence.now.kind
      (verdict_at c.args.evidence.now.verdicts c.args.at).item e);
}

pub returns-clause-notes : goal.returns-clause-notes
returns-clause-notes g c = λ found first index then m t.
    index-unmoved (g.D.Disk.state found) (g.D.Disk.state c.args.core.now.disk)
    (g.D.Disk.state c.keep_step.new.self.disk) first c.args.core.now.books c.keep_step.new.self.books m
    (returns-clause-keeps g c found first then m) index c.args.caller
    (see_step c.args.evidence.now.kind (verdict_at c.args.evidence.now.verdicts c.args.at).item)
    (reply.Seen c.commit-stands.result) (g.met.D.Disk.is_disk found) (returns-clause-tells g c).adds
    (see-unmoved c.args.evidence.now.kind (verdict_at c.args.evidence.now.verdicts c.args.at).item
    (reply.Seen c.commit-stands.result)) t

pub returns-clause-commits : goal.returns-clause-commits
returns-clause-commits g c = λ found first then m.
    subst (λ (l : Books). IsCommit (g.D.Disk.state found)
    (g.D.Disk.state c.args.core.now.disk) c.args.core.now.books l c.args.evidence.now.kind
    (verdict_at c.args.evidence.now.verdicts c.args.at).item c.args.used (reply.Seen c.commit-stands.result))
    (sym c.keep_step.ensures.books)
    (mount-answers (g.D.Disk.state found) (g.D.Disk.state c.args.evidence.now.core.value.disk)
    (g.D.Disk.state c.args.core.now.disk) first c.args.evidence.now.core.value.books c.args.core.now.books
    c.commit-stands.new.core.books then m c.requires.earlier c.if-core.false c.args.evidence.now.kind
    (verdict_at c.args.evidence.now.verdicts c.args.at).item c.args.used c.commit-stands.result
    c.commit-stands.ensures.commits c.args.caller _)

-- the mount is stopped

pub returns-then-core-clause-keeps : goal.returns-then-core-clause-keeps
returns-then-core-clause-keeps g c = λ found first then m.
    subst₂ (λ (d : DiskState) (l : Books). IsMount (g.D.Disk.state found) d first l)
    (ap g.D.Disk.state (sym c.keep_stopped.ensures.disk)) (sym c.keep_stopped.ensures.books)
    (mount-goes (g.D.Disk.state found) (g.D.Disk.state c.args.core.now.disk) (g.D.Disk.state c.args.core.now.disk) first
    c.args.core.now.books c.args.core.now.books m c.step_of-step.result no_claims (reply.Refused refusal.Stopped)
    c.args.caller
    (goes-stopped (g.D.Disk.state c.args.core.now.disk) (g.D.Disk.state c.args.core.now.disk) c.args.core.now.books
    c.step_of-step.result (g.met.D.Disk.is_disk c.args.core.now.disk) c.requires.can.safe
    (StaysButFaults-refl (g.D.Disk.state c.args.core.now.disk)) refl c.if-core.true) refl _ refl refl)

pub returns-then-core-clause-tells : goal.returns-then-core-clause-tells
returns-then-core-clause-tells g c = record {
  adds = adds-stopped c.args.caller
      (see_step c.args.evidence.now.kind (verdict_at c.args.evidence.now.verdicts c.args.at).item)
      c.keep_stopped.result _ c.args.core.now.books.history.entries c.keep_stopped.new.core.books.history.entries
      c.keep_stopped.ensures.answer (ap (λ (l : Books). l.history.entries) c.keep_stopped.ensures.books) refl
      (c.step_of-step.ensures ∙ ap (see_step c.args.evidence.now.kind) c.item-item.ensures) refl;
  fits = fits-stopped c.args.evidence.now.kind
      (verdict_at c.args.evidence.now.verdicts c.args.at).item c.keep_stopped.result c.keep_stopped.ensures.answer;
  whole = λ e. absurd (see-flushes-nothing c.args.evidence.now.kind
      (verdict_at c.args.evidence.now.verdicts c.args.at).item e);
}

pub returns-then-core-clause-notes : goal.returns-then-core-clause-notes
returns-then-core-clause-notes g c = λ found first index then m t.
    index-unmoved (g.D.Disk.state found) (g.D.Disk.state c.args.core.now.disk)
    (g.D.Disk.state c.keep_stopped.new.core.disk) first c.args.core.now.books c.keep_stopped.new.core.books m
    (returns-then-core-clause-keeps g c found first then m) index c.args.caller
    (see_step c.args.evidence.now.kind (verdict_at c.args.evidence.now.verdicts c.args.at).item)
    c.keep_stopped.result (g.met.D.Disk.is_disk found) (returns-then-core-clause-tells g c).adds
    (see-unmoved c.args.evidence.now.kind (verdict_at c.args.evidence.now.verdicts c.args.at).item
    c.keep_stopped.result) t

pub returns-then-core-clause-commits : goal.returns-then-core-clause-commits
returns-then-core-clause-commits g c = λ found first then m.
    commit-stopped (g.D.Disk.state found)
    (g.D.Disk.state c.args.core.now.disk) c.args.core.now.books c.keep_stopped.new.core.books c.args.evidence.now.kind
    (verdict_at c.args.evidence.now.verdicts c.args.at).item c.args.used c.keep_stopped.result c.if-core.true
    c.keep_stopped.ensures.answer

pub returns-then-core-clause-goes_on : goal.returns-then-core-clause-goes_on
returns-then-core-clause-goes_on g c = record {
  safe = subst₂ (λ (d : DiskState) (l : Books). IsSafe d l)
      (ap g.D.Disk.state (sym c.keep_stopped.ensures.disk)) (sym c.keep_stopped.ensures.books)
      (safe-history c.args.core.now.books _ (g.D.Disk.state c.args.core.now.disk) c.requires.can.safe);
  same = search rules;
  room = search rules;
}

-- it goes on

pub returns-clause-goes_on : goal.returns-clause-goes_on
returns-clause-goes_on g c = record {
  safe = subst₂ (λ (d : DiskState) (l : Books). IsSafe d l)
      (ap g.D.Disk.state (sym (c.keep_step.ensures.disk ∙ c.commit-stands.ensures.disk)))
      (sym c.keep_step.ensures.books)
      (safe-history c.commit-stands.new.core.books _
      (g.D.Disk.state c.args.core.now.disk) c.commit-stands.ensures.commits.safe);
  same = search rules;
  room = search rules;
}

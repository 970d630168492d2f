use Rattle.std.proofs.Common.{sym, ap, ◌∙◌, subst}
use Rattle.nofs_disk.specs.Chains.{StaysButFaults-trans}
use Rattle.nofs_history.specs.Claims.{no_claims}
use Rattle.nofs_history.specs.declared.machine.steps.Step.TheVariants as step
use Rattle.nofs_history.specs.declared.machine.replies.Reply.TheVariants as reply
use Rattle.nofs_state.specs.Cores.Steps.{Goes}
use Rattle.nofs_names.specs.Renames.Parts.{done_answer}
use Rattle.nofs_state.specs.declared.writes.ends.Ended.{Ended}
use Rattle.nofs_state.proofs.OnCores.Unchanged.{goes-after, reads-keep}
use Rattle.std.proofs.Common.{Err}
use Rattle.nofs_history.specs.declared.machine.replies.Refusal.{Refusal}
use Rattle.nofs_names.proofs.OnLinks.Refusals.{link-refused}
use Rattle.nofs_names.proofs.OnLinks.Rows.{link-exists, link-many, link-full, link-place, link-spot, link-lead-blocks}
use Rattle.nofs_names.proofs.OnLinks.Reads.{stands-on}
use Rattle.nofs_names.proofs.links.steps.link_opened.Goals as goal

pub returns-in-Err : goal.returns-in-Err
returns-in-Err g c = link-refused _ _ _ c.args.new c.refused.result _ c.refused.ensures
    (link-exists _ _ _ _ _ _ _ (g.met.D.Disk.is_disk c.args.core.now.disk) c.requires.safe c.requires.going
    c.requires.stands.name_is c.requires.stands.there c.requires.lead
    _ _ _ c.find_unused.result _ c.find_unused.ensures c.in-Err.is)

pub returns-in-Err-link_place : goal.returns-in-Err-link_place
returns-in-Err-link_place g c = link-refused _ _ _ c.args.new c.refused-in-Err-link_place.result _
    c.refused-in-Err-link_place.ensures
    (link-many _ _ _ _ _ _ _ (g.met.D.Disk.is_disk c.args.core.now.disk) c.requires.safe c.requires.going
    c.requires.stands.name_is c.requires.stands.there c.requires.lead
    _ _ _ c.in-Ok.seen c.in-Ok.ensures _ _ c.link_place.result _ c.link_place.ensures c.in-Err-link_place.is)

pub returns-in-Err-entry_place : goal.returns-in-Err-entry_place
returns-in-Err-entry_place g c =
    subst (λ (r : Ended). Goes (g.D.Disk.state c.args.core.now.disk) c.args.core.now.books
    (g.D.Disk.state c.link_place.new.disk) c.args.core.now.books
    (step.Link c.args.new.at.directory c.args.new.at.generation c.args.new.at.name.now c.args.new.inode c.args.new.of)
    r.claims (done_answer reply.Linked
    r.result))
    (sym (c.refused-in-Err-entry_place.ensures ∙ ap (λ (w : Refusal). record { claims = no_claims; result = Err w })
    c.in-Err-entry_place.ensures.refused))
    (link-full _ _ _ _ _ _ _ (g.met.D.Disk.is_disk c.args.core.now.disk) c.requires.safe c.requires.going
    c.requires.stands.name_is c.requires.stands.there c.requires.lead
    _ _ _ c.in-Ok.seen c.in-Ok.ensures _ _ c.in-Ok-link_place.link c.in-Ok-link_place.ensures c.entry_place.result
    c.entry_place.ensures.place (c.in-Err-entry_place.is ∙ ap Err c.in-Err-entry_place.ensures.refused))

pub link_at-requires-clause-stands : goal.link_at-requires-clause-stands
link_at-requires-clause-stands g c =
    stands-on (g.D.Disk.state c.args.core.now.disk) (g.D.Disk.state c.link_place.new.disk) c.args.core.now.books
    c.args.new.at.directory c.args.new.at.generation c.args.new.at.name.now c.args.new.inode
    c.args.new.of c.args.both.now
    (StaysButFaults-trans (g.D.Disk.state c.args.core.now.disk) (g.D.Disk.state c.find_unused.new.disk)
    (g.D.Disk.state c.link_place.new.disk)
    c.in-Ok.ensures.stays c.in-Ok-link_place.ensures.stays) c.requires.stands

pub link_at-requires-clause-places : goal.link_at-requires-clause-places
link_at-requires-clause-places g c = record {
  place = link-place _ _ _ _ _ _ _ (g.met.D.Disk.is_disk c.args.core.now.disk) c.requires.safe c.requires.going
      c.requires.stands.name_is c.requires.stands.there c.requires.lead _ _ _ c.in-Ok.seen c.in-Ok.ensures
      _ _ c.in-Ok-link_place.link c.in-Ok-link_place.ensures c.entry_place.result _ c.entry_place.ensures.place
      c.in-Ok-entry_place.is;
  entry = c.in-Ok-entry_place.ensures.range;
  spot = link-spot _ _ _ _ _ _ _ (g.met.D.Disk.is_disk c.args.core.now.disk) c.requires.safe c.requires.going
      c.requires.stands.name_is c.requires.stands.there c.requires.lead _ _ _ c.in-Ok.seen c.in-Ok.ensures
      _ _ c.in-Ok-link_place.link c.in-Ok-link_place.ensures;
  link = c.in-Ok-link_place.ensures.range;
}

pub link_at-requires-clause-lead : goal.link_at-requires-clause-lead
link_at-requires-clause-lead g c =
    link-lead-blocks _ _ _ _ _ _ _ (g.met.D.Disk.is_disk c.args.core.now.disk) c.requires.safe c.requires.going
    c.requires.stands.name_is c.requires.stands.there c.requires.lead _ _ _ c.in-Ok.seen c.in-Ok.ensures
    _ _ c.in-Ok-link_place.link c.in-Ok-link_place.ensures c.entry_place.result _ c.entry_place.ensures.place
    c.in-Ok-entry_place.is

pub returns-in-Ok-entry_place : goal.returns-in-Ok-entry_place
returns-in-Ok-entry_place g c = goes-after (g.D.Disk.state c.args.core.now.disk) (g.D.Disk.state c.link_place.new.disk)
    (reads-keep (g.D.Disk.state c.args.core.now.disk) (g.D.Disk.state c.link_place.new.disk)
    (StaysButFaults-trans (g.D.Disk.state c.args.core.now.disk) (g.D.Disk.state c.find_unused.new.disk)
    (g.D.Disk.state c.link_place.new.disk)
    c.in-Ok.ensures.stays c.in-Ok-link_place.ensures.stays))
    (c.in-Ok-link_place.ensures.no_fault ∙ c.in-Ok.ensures.no_fault)
    (g.D.Disk.state c.link_at.new.core.disk) c.args.core.now.books c.link_at.new.core.books
    (step.Link c.args.new.at.directory c.args.new.at.generation c.args.new.at.name.now c.args.new.inode c.args.new.of)
    c.link_at.result.claims
    (done_answer reply.Linked c.link_at.result.result) c.link_at.ensures

use Rattle.std.proofs.Common.{refl, sym, subst}
use Rattle.nofs_history.specs.Claims.{no_claims}
use Rattle.nofs_history.specs.declared.machine.steps.Step.TheVariants as step
use Rattle.nofs_history.specs.declared.machine.replies.Reply.TheVariants as reply
use Rattle.nofs_dirent.specs.declared.entry.Entry.{Entry}
use Rattle.nofs_state.specs.Cores.Steps.{Goes}
use Rattle.nofs_names.specs.Renames.Parts.{done_answer}
use Rattle.nofs_state.proofs.OnCores.Unchanged.{goes-after, goes-memory, reads-keep}
use Rattle.nofs_names.specs.Links.{MayLink}
use Rattle.nofs_names.specs.declared.entries.writes.EntryPlace.{EntryPlace}
use Rattle.nofs_names.proofs.OnLinks.Refusals.{link-needed, link-refused}
use Rattle.nofs_names.proofs.OnLinks.Rows.{link-unslotted, link-untaken, link-passes, link-may}
use Rattle.nofs_names.proofs.links.steps.link_at.Goals as goal

pub returns-in-Err : goal.returns-in-Err
returns-in-Err g c = link-refused _ _ _ c.args.new c.refused.result _ c.refused.ensures
    (link-unslotted _ _ _ _ _ _ _ (g.met.D.Disk.is_disk c.args.core.now.disk) c.requires.safe c.requires.going
    c.requires.stands.name_is c.requires.stands.there c.args.entry c.requires.places.place c.requires.lead
    _ _ c.find_entry_slot.result _ c.find_entry_slot.ensures c.in-Err.is)

pub returns-in-Err-take_blocks : goal.returns-in-Err-take_blocks
returns-in-Err-take_blocks g c =
    link-refused _ _ _ c.args.new c.refused-in-Err-take_blocks.result _ c.refused-in-Err-take_blocks.ensures
    (link-untaken _ _ _ _ _ _ _ (g.met.D.Disk.is_disk c.args.core.now.disk) c.requires.safe c.requires.going
    c.requires.stands.name_is c.requires.stands.there c.args.entry c.requires.places.place c.requires.lead
    _ c.find_entry_slot.ensures.stays c.in-Ok.ensures.no_fault _
    (link-needed _ _ c.args.new c.args.both.now c.args.link c.args.entry
    c.requires.safe c.requires.stands c.requires.places c.in-Ok.slot c.in-Ok.ensures.fits c.in-Ok.ensures.found _
    c.blocks-needed.ensures) c.take_blocks.result _ c.take_blocks.ensures c.in-Err-take_blocks.is)

pub returns-in-Err-named_entry : goal.returns-in-Err-named_entry
returns-in-Err-named_entry g c =
    link-refused _ (g.D.Disk.state c.find_entry_slot.new.disk) c.args.core.now.books c.args.new
    c.refused-in-Err-named_entry.result _ c.refused-in-Err-named_entry.ensures
    (goes-memory (g.D.Disk.state c.args.core.now.disk) (g.D.Disk.state c.find_entry_slot.new.disk)
    (reads-keep (g.D.Disk.state c.args.core.now.disk)
    (g.D.Disk.state c.find_entry_slot.new.disk) c.find_entry_slot.ensures.stays) c.in-Ok.ensures.no_fault
    c.args.core.now.books
    (step.Link c.args.new.at.directory c.args.new.at.generation c.args.new.at.name.now c.args.new.inode c.args.new.of)
    no_claims c.requires.safe)

pub link_named-requires-clause-known : goal.link_named-requires-clause-known
link_named-requires-clause-known g c =
    let place : EntryPlace = record {
      entry = c.args.entry;
      slot = c.in-Ok.slot;
      blocks = c.in-Ok-take_blocks.blocks;
      cell = c.find_entry_slot.new.names.cell;
    } in
    subst
    (λ (it : Entry). MayLink (g.D.Disk.state c.find_entry_slot.new.disk) c.args.core.now.books c.args.new.at.directory
    c.args.new.at.generation c.args.both.now place it c.args.link)
    (sym c.in-Ok-named_entry.ensures.value)
    (link-may (g.D.Disk.state c.args.core.now.disk)
    (g.D.Disk.state c.find_entry_slot.new.disk) c.args.core.now.books c.args.new.at.directory
    c.args.new.at.generation
    c.args.new.at.name.now c.args.new.inode c.args.new.of c.args.both.now place c.args.link
    c.find_entry_slot.new.names c.find_entry_slot.ensures.stays c.requires.stands c.requires.places.place
    c.requires.places.spot c.in-Ok.ensures
    c.named_entry.ensures.spells
    (link-passes _ _ _ _ _ _ _ (g.met.D.Disk.is_disk c.args.core.now.disk) c.requires.safe c.requires.going
    c.requires.stands.name_is c.requires.stands.there c.args.entry c.requires.places.place c.requires.lead
    _ c.find_entry_slot.ensures.stays c.in-Ok.ensures.no_fault _
    (link-needed _ _ c.args.new c.args.both.now c.args.link c.args.entry
    c.requires.safe c.requires.stands c.requires.places c.in-Ok.slot c.in-Ok.ensures.fits c.in-Ok.ensures.found _
    c.blocks-needed.ensures) c.in-Ok-take_blocks.blocks c.in-Ok-take_blocks.ensures) refl)

pub returns : goal.returns
returns g c = subst (λ (it : Entry). Goes (g.D.Disk.state c.args.core.now.disk) c.args.core.now.books
    (g.D.Disk.state c.link_named.new.core.disk)
    c.link_named.new.core.books (step.Link c.args.new.at.directory c.args.new.at.generation it.name it.inode
    it.generation) c.link_named.result.claims
    (done_answer reply.Linked c.link_named.result.result)) c.in-Ok-named_entry.ensures.value
    (goes-after (g.D.Disk.state c.args.core.now.disk) (g.D.Disk.state c.find_entry_slot.new.disk)
    (reads-keep (g.D.Disk.state c.args.core.now.disk)
    (g.D.Disk.state c.find_entry_slot.new.disk) c.find_entry_slot.ensures.stays) c.in-Ok.ensures.no_fault
    (g.D.Disk.state c.link_named.new.core.disk) c.args.core.now.books c.link_named.new.core.books
    (step.Link c.args.new.at.directory c.args.new.at.generation c.in-Ok-named_entry.named.name
    c.in-Ok-named_entry.named.inode
    c.in-Ok-named_entry.named.generation)
    c.link_named.result.claims (done_answer reply.Linked c.link_named.result.result) c.link_named.ensures)

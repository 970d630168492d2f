use Rattle.nofs_history.specs.declared.machine.replies.Reply.TheVariants as reply
use Rattle.std.proofs.Common.{Err, refl, ◌∙◌}
use Rattle.nofs_disk.specs.Chains.{StaysButFaults-trans}
use Rattle.nofs_history.specs.Claims.{no_claims}
use Rattle.nofs_history.specs.declared.machine.steps.Step.TheVariants as step
use Rattle.nofs_state.proofs.OnCores.Unchanged.{goes-after, reads-keep}
use Rattle.nofs_state.proofs.OnCores.FirstRows.{early-none}
use Rattle.nofs_names.proofs.OnSearches.Directories.{unopened-goes, named-early}
use Rattle.nofs_names.specs.Drops.Answers.{drop_answer}
use Rattle.nofs_names.proofs.OnDrops.Rows.{drop-bad, drop-unopened, drop-missing, drop-filled, drop-may}
use Rattle.nofs_names.proofs.drops.steps.drop_with_room.Goals as goal

pub returns-in-Err-clause-goes : goal.returns-in-Err-clause-goes
returns-in-Err-clause-goes g c =
    let old = g.D.Disk.state c.args.core.now.disk in
    let new = g.D.Disk.state c.open_named.new.disk in
    let k = c.args.core.now.books in
    unopened-goes old new k c.args.at c.in-Err.why
    (step.Drop c.args.at.directory c.args.at.generation c.args.at.name.now) (g.met.D.Disk.is_disk
    c.args.core.now.disk)
    c.requires.safe c.open_named.ensures.stays
    (λ safe going bad. drop-bad new k c.args.at.directory c.args.at.generation c.args.at.name.now
    (g.met.D.Disk.is_disk c.open_named.new.disk) safe going bad)
    (λ going good last opens. drop-unopened old k c.args.at.directory c.args.at.generation c.args.at.name.now
    (g.met.D.Disk.is_disk c.args.core.now.disk)
    c.requires.safe going good new last (Err c.in-Err.why) c.in-Err.why opens refl) c.in-Err.ensures.refused

pub returns-in-Err-find_pair-clause-goes : goal.returns-in-Err-find_pair-clause-goes
returns-in-Err-find_pair-clause-goes g c =
    drop-missing _ _ _ _ _ (g.met.D.Disk.is_disk c.args.core.now.disk) c.requires.safe c.in-Ok.ensures.going
    c.in-Ok.ensures.name_is _ _ c.in-Ok.it c.in-Ok.ensures.opened _ _ _ c.find_pair.result c.in-Err-find_pair.why
    c.find_pair.ensures
    c.in-Err-find_pair.is

pub drop_found-requires-clause-finds : goal.drop_found-requires-clause-finds
drop_found-requires-clause-finds g c =
    drop-may _ _ _ _ _ (g.met.D.Disk.is_disk c.args.core.now.disk) c.requires.safe c.in-Ok.ensures.going
    c.in-Ok.ensures.name_is _ _ c.in-Ok.it c.in-Ok.ensures.opened _ _ _ _ c.in-Ok-find_pair.found
    c.in-Ok-find_pair.ensures
    c.in-Ok-refuse_filled.ensures

pub returns-in-Ok-refuse_filled-clause-goes : goal.returns-in-Ok-refuse_filled-clause-goes
returns-in-Ok-refuse_filled-clause-goes g c =
    let a = (g.D.Disk.state c.args.core.now.disk) in
    let b = g.D.Disk.state c.refuse_filled.new.disk in
    let stays = StaysButFaults-trans a (g.D.Disk.state c.find_pair.new.disk) b
    (StaysButFaults-trans a (g.D.Disk.state c.open_named.new.disk)
    (g.D.Disk.state c.find_pair.new.disk) c.in-Ok.ensures.stays
    c.in-Ok-find_pair.ensures.stays) c.in-Ok-refuse_filled.ensures.stays in
    goes-after a b (reads-keep a b stays)
    (c.in-Ok-refuse_filled.ensures.no_fault ∙ (c.in-Ok-find_pair.ensures.no_fault ∙ c.in-Ok.ensures.no_fault))
    (g.D.Disk.state c.drop_found.new.core.disk) c.args.core.now.books c.drop_found.new.core.books
    (step.Drop c.args.at.directory c.args.at.generation c.args.at.name.now) no_claims
    (drop_answer c.drop_found.result) c.drop_found.ensures

pub returns-in-Err-refuse_filled-clause-goes : goal.returns-in-Err-refuse_filled-clause-goes
returns-in-Err-refuse_filled-clause-goes g c =
    drop-filled _ _ _ _ _ (g.met.D.Disk.is_disk c.args.core.now.disk) c.requires.safe c.in-Ok.ensures.going
    c.in-Ok.ensures.name_is _ _ c.in-Ok.it c.in-Ok.ensures.opened _ _ _ _ c.in-Ok-find_pair.found
    c.in-Ok-find_pair.ensures c.refuse_filled.result
    c.in-Err-refuse_filled.why c.refuse_filled.ensures c.in-Err-refuse_filled.is

-- what needs no disk to be refused
pub returns-in-Err-clause-early : goal.returns-in-Err-clause-early
returns-in-Err-clause-early g c = named-early (g.D.Disk.state c.args.core.now.disk)
    (g.D.Disk.state c.open_named.new.disk) c.args.core.now.books c.args.at c.in-Err.why
    (step.Drop c.args.at.directory c.args.at.generation c.args.at.name.now)
    (λ bad. rw bad refl) (λ good. rw good refl) c.in-Err.ensures.refused

pub returns-in-Err-find_pair-clause-early : goal.returns-in-Err-find_pair-clause-early
returns-in-Err-find_pair-clause-early g c = early-none c.args.core.now.books
    (step.Drop c.args.at.directory c.args.at.generation c.args.at.name.now)
    (reply.Refused c.in-Err-find_pair.why) (let good = c.in-Ok.ensures.name_is in rw good refl)

pub returns-in-Ok-refuse_filled-clause-early : goal.returns-in-Ok-refuse_filled-clause-early
returns-in-Ok-refuse_filled-clause-early g c = early-none c.args.core.now.books
    (step.Drop c.args.at.directory c.args.at.generation c.args.at.name.now)
    (drop_answer c.drop_found.result) (let good = c.in-Ok.ensures.name_is in rw good refl)

pub returns-in-Err-refuse_filled-clause-early : goal.returns-in-Err-refuse_filled-clause-early
returns-in-Err-refuse_filled-clause-early g c = early-none c.args.core.now.books
    (step.Drop c.args.at.directory c.args.at.generation c.args.at.name.now)
    (reply.Refused c.in-Err-refuse_filled.why) (let good = c.in-Ok.ensures.name_is in rw good refl)

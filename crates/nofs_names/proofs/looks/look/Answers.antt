use Rattle.nofs_history.specs.declared.machine.replies.Reply.TheVariants as reply
use Rattle.std.proofs.Common.{Err, refl}
use Rattle.nofs_history.specs.declared.machine.steps.Step.TheVariants as step
use Rattle.nofs_names.proofs.OnSearches.Directories.{unopened-goes, named-early}
use Rattle.nofs_names.proofs.OnLooks.{look-bad, look-unopened, look-missing, look-found}
use Rattle.nofs_names.proofs.looks.look.Goals as goal
use Rattle.nofs_state.proofs.OnCores.FirstRows.{early-none}

pub returns-in-Err-clause-goes : goal.returns-in-Err-clause-goes
returns-in-Err-clause-goes g c =
    let old = g.D.Disk.state c.args.core.now.disk in
    let new = g.D.Disk.state c.open_named.new.disk in
    let k = c.args.core.now.books in
    unopened-goes old new k (record {
      directory = c.args.directory;
      generation = c.args.generation;
      name = c.args.name;
    }) c.in-Err.why (step.Look
    c.args.directory c.args.generation c.args.name.now) (g.met.D.Disk.is_disk c.args.core.now.disk)
    c.requires c.open_named.ensures.stays
    (λ safe going bad. look-bad new k c.args.directory c.args.generation c.args.name.now
    (g.met.D.Disk.is_disk c.open_named.new.disk) safe going bad)
    (λ going good last opens. look-unopened old k c.args.directory c.args.generation c.args.name.now
    (g.met.D.Disk.is_disk c.args.core.now.disk) c.requires
    going good new last (Err c.in-Err.why) c.in-Err.why opens refl) c.in-Err.ensures.refused

pub returns-in-Ok-find_pair-clause-goes : goal.returns-in-Ok-find_pair-clause-goes
returns-in-Ok-find_pair-clause-goes g c = look-found _ _ _ _ _ (g.met.D.Disk.is_disk c.args.core.now.disk) c.requires
    c.in-Ok.ensures.going c.in-Ok.ensures.name_is _ _ _ _ _ c.in-Ok.it c.in-Ok.ensures.opened
    c.in-Ok-find_pair.found c.in-Ok-find_pair.ensures

pub returns-in-Err-find_pair-clause-goes : goal.returns-in-Err-find_pair-clause-goes
returns-in-Err-find_pair-clause-goes g c = look-missing _ _ _ _ _ (g.met.D.Disk.is_disk c.args.core.now.disk) c.requires
    c.in-Ok.ensures.going c.in-Ok.ensures.name_is _ _ _ _ _ c.in-Ok.it c.in-Ok.ensures.opened
    c.find_pair.result _ c.find_pair.ensures c.in-Err-find_pair.is

-- what needs no disk to be refused
pub returns-in-Err-clause-early : goal.returns-in-Err-clause-early
returns-in-Err-clause-early g c = named-early (g.D.Disk.state c.args.core.now.disk)
    (g.D.Disk.state c.open_named.new.disk) c.args.core.now.books (record {
      directory = c.args.directory;
      generation = c.args.generation;
      name = c.args.name;
    }) c.in-Err.why (step.Look c.args.directory c.args.generation c.args.name.now)
    (λ bad. rw bad refl) (λ good. rw good refl) c.in-Err.ensures.refused

pub returns-in-Ok-find_pair-clause-early : goal.returns-in-Ok-find_pair-clause-early
returns-in-Ok-find_pair-clause-early g c = early-none c.args.core.now.books
    (step.Look c.args.directory c.args.generation c.args.name.now) _
    (let good = c.in-Ok.ensures.name_is in rw good refl)

pub returns-in-Err-find_pair-clause-early : goal.returns-in-Err-find_pair-clause-early
returns-in-Err-find_pair-clause-early g c = early-none c.args.core.now.books
    (step.Look c.args.directory c.args.generation c.args.name.now) (reply.Refused c.in-Err-find_pair.why)
    (let good = c.in-Ok.ensures.name_is in rw good refl)

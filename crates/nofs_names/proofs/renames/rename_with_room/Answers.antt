use Rattle.nofs_history.specs.declared.machine.replies.Refusal.TheVariants as refusal
use Rattle.std.proofs.Common.{Err, refl, sym, ◌∙◌, ◌≡◌, true, false}
use Rattle.nofs_disk.specs.Chains.{StaysButFaults-refl, StaysButFaults-trans}
use Rattle.nofs_history.specs.Claims.{no_claims}
use Rattle.nofs_history.specs.declared.machine.steps.Step.TheVariants as step
use Rattle.nofs_history.specs.declared.machine.replies.Reply.TheVariants as reply
use Rattle.nofs_state.proofs.OnCores.Unchanged.{goes-after, reads-keep}
use Rattle.nofs_state.proofs.OnCores.Replies.{goes-stopped}
use Rattle.nofs_state.proofs.OnCores.FirstRows.{early-comes, early-none, early-stopped}
use Rattle.nofs_names.proofs.OnSearches.Directories.{unopened-goes}
use Rattle.nofs_names.proofs.OnSteps.Reads.{directory-on, found-on, paired-on, there-on}
use Rattle.nofs_names.specs.Renames.Parts.{done_answer}
use Rattle.nofs_names.proofs.OnRenames.Rows.{rename-bad, rename-bad-new, rename-unopened, rename-missing}
use Rattle.nofs_names.proofs.OnRenames.Rows.{rename-exists, rename-passes}
use Rattle.nofs_names.proofs.renames.rename_with_room.Goals as goal
use Rattle.nofs_dirent.specs.Names.{is_name}

pub returns-then-core-clause-goes : goal.returns-then-core-clause-goes
returns-then-core-clause-goes g c =
    goes-stopped (g.D.Disk.state c.args.core.now.disk) (g.D.Disk.state c.args.core.now.disk) c.args.core.now.books
    (step.Rename c.args.at.directory c.args.at.generation c.args.at.name.now c.args.new.now)
    (g.met.D.Disk.is_disk c.args.core.now.disk) c.requires.safe
    (StaysButFaults-refl (g.D.Disk.state c.args.core.now.disk)) refl c.if-core.true

pub returns-then-not-name_ok-clause-goes : goal.returns-then-not-name_ok-clause-goes
returns-then-not-name_ok-clause-goes g c = rename-bad (g.D.Disk.state c.args.core.now.disk)
    c.args.core.now.books c.args.at.directory c.args.at.generation c.args.at.name.now c.args.new.now
    (g.met.D.Disk.is_disk c.args.core.now.disk)
    c.requires.safe c.if-core.false (sym c.if-not-name_ok.ensures.value)

pub returns-then-not-name_ok-2-clause-goes : goal.returns-then-not-name_ok-2-clause-goes
returns-then-not-name_ok-2-clause-goes g c = rename-bad-new (g.D.Disk.state c.args.core.now.disk)
    c.args.core.now.books c.args.at.directory c.args.at.generation c.args.at.name.now c.args.new.now
    (g.met.D.Disk.is_disk c.args.core.now.disk)
    c.requires.safe c.if-core.false (sym c.if-not-name_ok.ensures.value) (sym c.if-not-name_ok-2.ensures.value)

pub returns-in-Err-clause-goes : goal.returns-in-Err-clause-goes
returns-in-Err-clause-goes g c =
    let old = g.D.Disk.state c.args.core.now.disk in
    let new = g.D.Disk.state c.open_named.new.disk in
    let k = c.args.core.now.books in
    let good = sym c.if-not-name_ok-2.ensures.value in
    unopened-goes old new k c.args.at c.in-Err.why
    (step.Rename c.args.at.directory c.args.at.generation c.args.at.name.now c.args.new.now)
    (g.met.D.Disk.is_disk c.args.core.now.disk) c.requires.safe c.open_named.ensures.stays
    (λ safe going bad. rename-bad new k c.args.at.directory c.args.at.generation c.args.at.name.now c.args.new.now
    (g.met.D.Disk.is_disk c.open_named.new.disk) safe going bad)
    (λ going ok last opens.
    rename-unopened old k c.args.at.directory c.args.at.generation c.args.at.name.now c.args.new.now
    (g.met.D.Disk.is_disk c.args.core.now.disk) c.requires.safe going ok good new last
    (Err c.in-Err.why) c.in-Err.why opens refl)
    c.in-Err.ensures.refused

pub returns-in-Err-find_pair-clause-goes : goal.returns-in-Err-find_pair-clause-goes
returns-in-Err-find_pair-clause-goes g c = rename-missing _ _ _ _ _ _ (g.met.D.Disk.is_disk c.args.core.now.disk)
    c.requires.safe c.if-core.false (sym c.if-not-name_ok.ensures.value) (sym c.if-not-name_ok-2.ensures.value)
    _ _ c.in-Ok.it c.in-Ok.ensures.opened _ _ _ c.find_pair.result _ c.find_pair.ensures
    c.in-Err-find_pair.is

pub rename_found-requires-clause-may : goal.rename_found-requires-clause-may
rename_found-requires-clause-may g c =
    let old = g.D.Disk.state c.args.core.now.disk in
    let opened = g.D.Disk.state c.open_named.new.disk in
    let found = g.D.Disk.state c.find_pair.new.disk in
    let new = g.D.Disk.state c.find_unused.new.disk in
    let k = c.args.core.now.books in
    let d = c.args.at.directory in
    let r = c.in-Ok.it in
    let last = c.find_unused.ensures.stays in
    let next = StaysButFaults-trans opened found new c.find_pair.ensures.stays last in
    record {
      directory = directory-on opened new next k.at d r.generation r c.in-Ok.ensures.opened.directory;
      generation = c.in-Ok.ensures.opened.generation;
      there = there-on old new
          (StaysButFaults-trans old opened new c.open_named.ensures.stays next) k d c.in-Ok.ensures.opened.there;
      known = paired-on found new last k.at c.in-Ok-find_pair.found c.in-Ok-find_pair.ensures.known;
      found = found-on opened new next d c.args.at.name.now c.in-Ok-find_pair.found c.in-Ok-find_pair.ensures.found;
      good = c.if-not-name_ok-2.ensures.fact.0 refl;
      rows = rename-passes _ _ _ _ _ _ (g.met.D.Disk.is_disk c.args.core.now.disk)
          c.requires.safe c.if-core.false (sym c.if-not-name_ok.ensures.value) (sym c.if-not-name_ok-2.ensures.value)
          _ _ c.in-Ok.it c.in-Ok.ensures.opened _ _ _ _ _ _ c.in-Ok-find_pair.found c.in-Ok-find_pair.ensures
          c.in-Ok-find_unused.field-0 c.in-Ok-find_unused.ensures;
    }

pub returns-in-Ok-find_unused-clause-goes : goal.returns-in-Ok-find_unused-clause-goes
returns-in-Ok-find_unused-clause-goes g c =
    let a = (g.D.Disk.state c.args.core.now.disk) in
    let b = g.D.Disk.state c.find_unused.new.disk in
    let stays = StaysButFaults-trans a (g.D.Disk.state c.find_pair.new.disk) b
    (StaysButFaults-trans a (g.D.Disk.state c.open_named.new.disk) (g.D.Disk.state c.find_pair.new.disk)
    c.in-Ok.ensures.stays c.in-Ok-find_pair.ensures.stays) c.in-Ok-find_unused.ensures.stays in
    goes-after a b (reads-keep a b stays)
    (c.in-Ok-find_unused.ensures.no_fault ∙ (c.in-Ok-find_pair.ensures.no_fault ∙ c.in-Ok.ensures.no_fault))
    (g.D.Disk.state c.rename_found.new.core.disk) c.args.core.now.books c.rename_found.new.core.books
    (step.Rename c.args.at.directory c.args.at.generation c.args.at.name.now c.args.new.now) no_claims
    (done_answer reply.Renamed c.rename_found.result)
    c.rename_found.ensures

pub returns-in-Err-find_unused-clause-goes : goal.returns-in-Err-find_unused-clause-goes
returns-in-Err-find_unused-clause-goes g c = rename-exists _ _ _ _ _ _ (g.met.D.Disk.is_disk c.args.core.now.disk)
    c.requires.safe c.if-core.false (sym c.if-not-name_ok.ensures.value) (sym c.if-not-name_ok-2.ensures.value)
    _ _ c.in-Ok.it c.in-Ok.ensures.opened _ _ _ _ _ _ c.in-Ok-find_pair.found
    c.in-Ok-find_pair.ensures c.find_unused.result _ c.find_unused.ensures c.in-Err-find_unused.is

-- what needs no disk to be refused
pub returns-then-core-clause-early : goal.returns-then-core-clause-early
returns-then-core-clause-early g c = early-stopped c.args.core.now.books
    (step.Rename c.args.at.directory c.args.at.generation c.args.at.name.now c.args.new.now)
    (reply.Refused refusal.Stopped) c.if-core.true

pub returns-then-not-name_ok-clause-early : goal.returns-then-not-name_ok-clause-early
returns-then-not-name_ok-clause-early g c = early-comes c.args.core.now.books
    (step.Rename c.args.at.directory c.args.at.generation c.args.at.name.now c.args.new.now)
    (reply.Refused refusal.BadName) refusal.BadName
    (let bad : is_name c.args.at.name.now ≡ false = sym c.if-not-name_ok.ensures.value in rw bad refl) refl

pub returns-then-not-name_ok-2-clause-early : goal.returns-then-not-name_ok-2-clause-early
returns-then-not-name_ok-2-clause-early g c = early-comes c.args.core.now.books
    (step.Rename c.args.at.directory c.args.at.generation c.args.at.name.now c.args.new.now)
    (reply.Refused refusal.BadName) refusal.BadName
    (let good : is_name c.args.at.name.now ≡ true = sym c.if-not-name_ok.ensures.value in
    let bad : is_name c.args.new.now ≡ false = sym c.if-not-name_ok-2.ensures.value in rw (good, bad) refl) refl

pub returns-in-Err-clause-early : goal.returns-in-Err-clause-early
returns-in-Err-clause-early g c = early-none c.args.core.now.books
    (step.Rename c.args.at.directory c.args.at.generation c.args.at.name.now c.args.new.now)
    (reply.Refused c.in-Err.why)
    (let good : is_name c.args.at.name.now ≡ true = sym c.if-not-name_ok.ensures.value in
    let ok : is_name c.args.new.now ≡ true = sym c.if-not-name_ok-2.ensures.value in rw (good, ok) refl)

pub returns-in-Err-find_pair-clause-early : goal.returns-in-Err-find_pair-clause-early
returns-in-Err-find_pair-clause-early g c = early-none c.args.core.now.books
    (step.Rename c.args.at.directory c.args.at.generation c.args.at.name.now c.args.new.now)
    (reply.Refused c.in-Err-find_pair.why)
    (let good : is_name c.args.at.name.now ≡ true = sym c.if-not-name_ok.ensures.value in
    let ok : is_name c.args.new.now ≡ true = sym c.if-not-name_ok-2.ensures.value in rw (good, ok) refl)

pub returns-in-Ok-find_unused-clause-early : goal.returns-in-Ok-find_unused-clause-early
returns-in-Ok-find_unused-clause-early g c = early-none c.args.core.now.books
    (step.Rename c.args.at.directory c.args.at.generation c.args.at.name.now c.args.new.now)
    (done_answer reply.Renamed c.rename_found.result)
    (let good : is_name c.args.at.name.now ≡ true = sym c.if-not-name_ok.ensures.value in
    let ok : is_name c.args.new.now ≡ true = sym c.if-not-name_ok-2.ensures.value in rw (good, ok) refl)

pub returns-in-Err-find_unused-clause-early : goal.returns-in-Err-find_unused-clause-early
returns-in-Err-find_unused-clause-early g c = early-none c.args.core.now.books
    (step.Rename c.args.at.directory c.args.at.generation c.args.at.name.now c.args.new.now)
    (reply.Refused c.in-Err-find_unused.why)
    (let good : is_name c.args.at.name.now ≡ true = sym c.if-not-name_ok.ensures.value in
    let ok : is_name c.args.new.now ≡ true = sym c.if-not-name_ok-2.ensures.value in rw (good, ok) refl)

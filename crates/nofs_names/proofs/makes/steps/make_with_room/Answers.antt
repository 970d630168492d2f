use Rattle.nofs_state.specs.declared.writes.ends.Ended.{Ended}
use Rattle.std.proofs.Common.{ℕ, List, Err, refl, sym, subst, ◌∙◌}
use Rattle.nofs_disk.specs.Chains.{StaysButFaults-trans}
use Rattle.nofs_dirent.specs.Names.{NameOk}
use Rattle.nofs_history.specs.declared.machine.steps.Step.TheVariants as step
use Rattle.nofs_state.specs.Cores.Steps.{Goes}
use Rattle.nofs_state.proofs.OnCores.Unchanged.{goes-after, reads-keep}
use Rattle.nofs_state.proofs.OnCores.FirstRows.{early-none}
use Rattle.nofs_state.specs.Cores.FirstRows.{RefusesEarly}
use Rattle.nofs_names.proofs.OnSearches.Directories.{unopened-goes, named-early}
use Rattle.nofs_names.proofs.OnSteps.Reads.{directory-on, there-on}
use Rattle.nofs_names.specs.Links.{PlaceIs}
use Rattle.nofs_names.specs.Makes.{RowsLeft, made_answer}
use Rattle.nofs_names.proofs.OnMakes.Rows.{make-bad, make-exists, make-no-place, make-place, make-room, make-unopened}
use Rattle.nofs_names.proofs.OnMakes.Rows.{refused-goes}
use Rattle.nofs_names.proofs.makes.steps.make_with_room.Goals as goal

pub returns-in-Err-clause-goes : goal.returns-in-Err-clause-goes
returns-in-Err-clause-goes g c =
    let old = g.D.Disk.state c.args.core.now.disk in
    let new = g.D.Disk.state c.open_named.new.disk in
    let k = c.args.core.now.books in
    refused-goes old new k c.args.at.directory c.args.at.generation c.args.at.name.now c.args.kind c.refused.result
    c.in-Err.why c.refused.ensures
    (unopened-goes old new k c.args.at c.in-Err.why
    (step.Make c.args.at.directory c.args.at.generation c.args.at.name.now c.args.kind)
    (g.met.D.Disk.is_disk c.args.core.now.disk) c.requires.safe c.open_named.ensures.stays
    (λ safe going bad. make-bad new k c.args.at.directory c.args.at.generation c.args.at.name.now c.args.kind
    (g.met.D.Disk.is_disk c.open_named.new.disk) safe going bad)
    (λ going good last opens.
    make-unopened old k c.args.at.directory c.args.at.generation c.args.at.name.now c.args.kind
    (g.met.D.Disk.is_disk c.args.core.now.disk) c.requires.safe going good new last
    (Err c.in-Err.why) c.in-Err.why opens refl) c.in-Err.ensures.refused)

pub returns-in-Err-find_unused-clause-goes : goal.returns-in-Err-find_unused-clause-goes
returns-in-Err-find_unused-clause-goes g c =
    refused-goes _ _ _ _ _ _ _ c.refused-in-Err-find_unused.result _ c.refused-in-Err-find_unused.ensures
    (make-exists _ _ _ _ _ c.args.kind (g.met.D.Disk.is_disk c.args.core.now.disk) c.requires.safe c.in-Ok.ensures.going
    c.in-Ok.ensures.name_is _ _ c.in-Ok.it c.in-Ok.ensures.opened _ _ _ c.find_unused.result _
    c.find_unused.ensures c.in-Err-find_unused.is)

pub returns-in-Err-entry_place-clause-goes : goal.returns-in-Err-entry_place-clause-goes
returns-in-Err-entry_place-clause-goes g c =
    refused-goes _ _ _ _ _ _ _ c.refused-in-Err-entry_place.result _ c.refused-in-Err-entry_place.ensures
    (make-no-place _ _ _ _ _ c.args.kind
    (g.met.D.Disk.is_disk c.args.core.now.disk) c.requires.safe c.in-Ok.ensures.going
    c.in-Ok.ensures.name_is _ _ c.in-Ok.it c.in-Ok.ensures.opened _ _ _ c.in-Ok-find_unused.seen
    c.in-Ok-find_unused.ensures
    c.entry_place.result _ c.entry_place.ensures.place c.in-Err-entry_place.is
    c.in-Err-entry_place.ensures.refused)

pub make_entry-requires-clause-goes_in : goal.make_entry-requires-clause-goes_in
make_entry-requires-clause-goes_in g c = record {
  directory = directory-on (g.D.Disk.state c.open_named.new.disk)
      (g.D.Disk.state c.find_unused.new.disk) c.find_unused.ensures.stays
      c.args.core.now.books.at c.args.at.directory c.in-Ok.it.generation c.in-Ok.it c.in-Ok.ensures.opened.directory;
  generation = c.in-Ok.ensures.opened.generation;
  there = there-on (g.D.Disk.state c.open_named.new.disk)
      (g.D.Disk.state c.find_unused.new.disk) c.find_unused.ensures.stays c.args.core.now.books c.args.at.directory
      (there-on (g.D.Disk.state c.args.core.now.disk)
      (g.D.Disk.state c.open_named.new.disk) c.open_named.ensures.stays c.args.core.now.books
      c.args.at.directory c.in-Ok.ensures.opened.there);
  good = subst NameOk (sym c.requires.owned) c.in-Ok.ensures.good;
  entry = c.in-Ok-entry_place.ensures.range;
  place =
      subst (λ (n : List ℕ). PlaceIs (g.D.Disk.state c.find_unused.new.disk) c.args.core.now.books c.args.at.directory n
      c.in-Ok-entry_place.entry) (sym c.requires.owned)
      (make-place _ _ _ _ _ c.args.kind
      (g.met.D.Disk.is_disk c.args.core.now.disk) c.requires.safe c.in-Ok.ensures.going
      c.in-Ok.ensures.name_is _ _ c.in-Ok.it c.in-Ok.ensures.opened _ _ _ c.in-Ok-find_unused.seen
      c.in-Ok-find_unused.ensures
      c.entry_place.result _ c.entry_place.ensures.place c.in-Ok-entry_place.is);
}

pub make_entry-requires-clause-rows : goal.make_entry-requires-clause-rows
make_entry-requires-clause-rows g c =
    subst (λ (n : List ℕ). RowsLeft (g.D.Disk.state c.find_unused.new.disk) c.args.core.now.books c.args.at.directory
    c.args.at.generation n c.args.kind) (sym c.requires.owned)
    (make-room _ _ _ _ _ c.args.kind (g.met.D.Disk.is_disk c.args.core.now.disk) c.requires.safe c.in-Ok.ensures.going
    c.in-Ok.ensures.name_is _ _ c.in-Ok.it c.in-Ok.ensures.opened _ _ _ c.in-Ok-find_unused.seen
    c.in-Ok-find_unused.ensures
    _
    (make-place _ _ _ _ _ c.args.kind (g.met.D.Disk.is_disk c.args.core.now.disk) c.requires.safe c.in-Ok.ensures.going
    c.in-Ok.ensures.name_is _ _ c.in-Ok.it c.in-Ok.ensures.opened _ _ _ c.in-Ok-find_unused.seen
    c.in-Ok-find_unused.ensures c.entry_place.result _ c.entry_place.ensures.place c.in-Ok-entry_place.is))

pub returns-in-Ok-entry_place-clause-goes : goal.returns-in-Ok-entry_place-clause-goes
returns-in-Ok-entry_place-clause-goes g c =
    goes-after (g.D.Disk.state c.args.core.now.disk) (g.D.Disk.state c.find_unused.new.disk)
    (reads-keep (g.D.Disk.state c.args.core.now.disk) (g.D.Disk.state c.find_unused.new.disk)
    (StaysButFaults-trans (g.D.Disk.state c.args.core.now.disk) (g.D.Disk.state c.open_named.new.disk)
    (g.D.Disk.state c.find_unused.new.disk) c.open_named.ensures.stays c.find_unused.ensures.stays))
    (c.in-Ok-find_unused.ensures.no_fault ∙ c.in-Ok.ensures.no_fault)
    (g.D.Disk.state c.make_entry.new.core.disk) c.args.core.now.books c.make_entry.new.core.books
    (step.Make c.args.at.directory c.args.at.generation c.args.at.name.now c.args.kind) c.make_entry.result.claims
    (made_answer c.make_entry.result.claims c.make_entry.result.result)
    (subst (λ (n : List ℕ). Goes (g.D.Disk.state c.find_unused.new.disk) c.args.core.now.books
    (g.D.Disk.state c.make_entry.new.core.disk) c.make_entry.new.core.books
    (step.Make c.args.at.directory c.args.at.generation n c.args.kind) c.make_entry.result.claims
    (made_answer c.make_entry.result.claims c.make_entry.result.result)) c.requires.owned c.make_entry.ensures)

-- what needs no disk to be refused
pub returns-in-Err-clause-early : goal.returns-in-Err-clause-early
returns-in-Err-clause-early g c =
    subst (λ (e : Ended). RefusesEarly c.args.core.now.books
    (step.Make c.args.at.directory c.args.at.generation c.args.at.name.now c.args.kind)
    (made_answer e.claims e.result)) (sym c.refused.ensures)
    (named-early (g.D.Disk.state c.args.core.now.disk) (g.D.Disk.state c.open_named.new.disk) c.args.core.now.books
    c.args.at c.in-Err.why (step.Make c.args.at.directory c.args.at.generation c.args.at.name.now c.args.kind)
    (λ bad. rw bad refl) (λ good. rw good refl) c.in-Err.ensures.refused)

pub returns-in-Err-find_unused-clause-early : goal.returns-in-Err-find_unused-clause-early
returns-in-Err-find_unused-clause-early g c = early-none c.args.core.now.books
    (step.Make c.args.at.directory c.args.at.generation c.args.at.name.now c.args.kind)
    (made_answer c.refused-in-Err-find_unused.result.claims c.refused-in-Err-find_unused.result.result)
    (let good = c.in-Ok.ensures.name_is in rw good refl)

pub returns-in-Err-entry_place-clause-early : goal.returns-in-Err-entry_place-clause-early
returns-in-Err-entry_place-clause-early g c = early-none c.args.core.now.books
    (step.Make c.args.at.directory c.args.at.generation c.args.at.name.now c.args.kind)
    (made_answer c.refused-in-Err-entry_place.result.claims c.refused-in-Err-entry_place.result.result)
    (let good = c.in-Ok.ensures.name_is in rw good refl)

pub returns-in-Ok-entry_place-clause-early : goal.returns-in-Ok-entry_place-clause-early
returns-in-Ok-entry_place-clause-early g c = early-none c.args.core.now.books
    (step.Make c.args.at.directory c.args.at.generation c.args.at.name.now c.args.kind)
    (made_answer c.make_entry.result.claims c.make_entry.result.result)
    (let good = c.in-Ok.ensures.name_is in rw good refl)

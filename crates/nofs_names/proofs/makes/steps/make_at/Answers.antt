use Rattle.std.proofs.Common.{◌≡◌, ℕ, ◌+◌, ◌-◌, ◌/◌, ◌≤◌, Bool, IsTrue, Result, refl, arith, ap, ◌∙◌, subst, subst₂}
use Rattle.std.proofs.Common.{sym}
use Rattle.nofs_disk.specs.Disk.{cell_at}
use Rattle.nofs_model.specs.Geometry.{Image}
use Rattle.nofs_history.specs.declared.machine.history.Claims.{Claims}
use Rattle.nofs_history.specs.declared.machine.steps.Step.TheVariants as step
use Rattle.nofs_history.specs.declared.machine.replies.Refusal.{Refusal}
use Rattle.nofs_history.specs.declared.machine.replies.Refusal.TheVariants as refusal
use Rattle.nofs_state.specs.Books.Maps.{IsSafe, made_books}
use Rattle.nofs_state.specs.Cores.Steps.{Goes}
use Rattle.nofs_state.specs.declared.books.maps.Books.{Books}
use Rattle.nofs_state.specs.declared.books.maps.InodeClaim.{InodeClaim}
use Rattle.nofs_names.specs.Entries.Writes.{MayEnter}
use Rattle.nofs_state.proofs.OnCores.Unchanged.{goes-after, reads-keep, safe-keeps}
use Rattle.nofs_state.proofs.OnBooks.Claims.{made-safe}
use Rattle.nofs_names.specs.Makes.{made_answer}
use Rattle.nofs_names.proofs.OnMakes.Entries.{next_of}
use Rattle.nofs_names.proofs.OnMakes.Ends.{entered-goes, enters-as}
use Rattle.nofs_names.proofs.OnMakes.Rows.{make-pass-on, may-on, refused-goes}
use Rattle.nofs_names.proofs.OnSteps.Parts.{goes-unread}
use Rattle.nofs_names.proofs.OnMakes.Places.{directory-range, may-enter, raised-stamp, table-fits}
use Rattle.nofs_names.proofs.makes.steps.make_at.Goals as goal

pub read_tables-requires-clause-first : goal.read_tables-requires-clause-first
read_tables-requires-clause-first g c =
    let r = directory-range (g.D.Disk.state c.args.core.now.disk) c.args.core.now.books.at c.args.to.directory
    c.args.to.it.generation c.args.to.it c.requires.may.directory in table-fits
    (g.D.Disk.state c.args.core.now.disk) c.args.core.now.books c.args.to.directory c.requires.safe r.0 r.1

pub read_tables-requires-clause-directory : goal.read_tables-requires-clause-directory
read_tables-requires-clause-directory g c =
    (directory-range (g.D.Disk.state c.args.core.now.disk) c.args.core.now.books.at c.args.to.directory
    c.args.to.it.generation c.args.to.it c.requires.may.directory).0

pub read_tables-requires-clause-second : goal.read_tables-requires-clause-second
read_tables-requires-clause-second g c =
    table-fits (g.D.Disk.state c.args.core.now.disk) c.args.core.now.books c.args.inode c.requires.safe
    c.requires.may.above c.requires.may.within

pub returns-in-Err : goal.returns-in-Err
returns-in-Err g c = refused-goes (g.D.Disk.state c.args.core.now.disk)
    (g.D.Disk.state c.read_tables.new.disk) c.args.core.now.books c.args.to.directory
    c.args.to.generation c.args.name c.args.to.kind c.refused.result refusal.ReadFault c.refused.ensures
    (goes-unread _ _ _ _ (g.met.D.Disk.is_disk c.args.core.now.disk) c.requires.safe c.requires.going
    c.read_tables.ensures.stays c.in-Err.ensures.cause c.requires.rows)

pub made_record-made-requires-clause-generation : goal.made_record-made-requires-clause-generation
made_record-made-requires-clause-generation g c =
    subst (λ (q : InodeClaim). 1 ≤ q.generation) (sym c.claim_inode-claim.ensures.claim)
    (raised-stamp c.args.core.now.books c.requires.may.raised)

pub made_record-made-requires-clause-link : goal.made_record-made-requires-clause-link
made_record-made-requires-clause-link g c =
    (directory-range (g.D.Disk.state c.args.core.now.disk) c.args.core.now.books.at c.args.to.directory
    c.args.to.it.generation c.args.to.it c.requires.may.directory).0

pub enter-ended-requires : goal.enter-ended-requires
enter-ended-requires g c =
    let old = g.D.Disk.state c.args.core.now.disk in
    let new = g.D.Disk.state c.read_tables.new.disk in
    let may = c.requires.may in
    record {
      safe = subst (λ (m : Books). IsSafe new m) (sym c.claim_inode-claim.ensures.claimed)
          (made-safe new c.args.core.now.books c.args.inode (let s = may.stamps in omega (arith, s))
          (safe-keeps old new (reads-keep old new c.read_tables.ensures.stays) c.args.core.now.books c.requires.safe));
      spare = subst (λ (n : ℕ). 4 ≤ n) (sym c.read_tables.ensures.stays.spare) c.requires.spare;
      may = subst (λ (m : Books). MayEnter new m c.args.to.directory c.args.to.it c.args.place.now.entry
          c.args.place.now.slot c.args.place.now.blocks
          (record { inode = c.args.inode; generation = c.claim_inode-claim.result.generation; name = c.args.name })
          c.made_record-made.result)
          (sym c.claim_inode-claim.ensures.claimed)
          (subst (λ (q : InodeClaim). MayEnter new
          (made_books c.args.core.now.books c.args.inode) c.args.to.directory c.args.to.it c.args.place.now.entry
          c.args.place.now.slot c.args.place.now.blocks
          (record { inode = c.args.inode; generation = q.generation; name = c.args.name }) c.made_record-made.result)
          (sym c.claim_inode-claim.ensures.claim)
          (may-enter old new c.args.core.now.books c.args.to.directory c.args.to.it c.args.place.now c.args.inode
          c.args.name c.made_record-made.result
          c.read_tables.ensures.stays may.directory may.range may.fits may.blocks may.stamps may.raised may.above
          may.within may.good
          c.made_record-made.ensures.spelling));
    }

pub returns : goal.returns
returns g c =
    let gen : c.claim_inode-claim.result.generation ≡ next_of c.args.core.now.books =
    ap (λ (q : InodeClaim). q.generation) c.claim_inode-claim.ensures.claim in
    subst₂ (λ (q : Claims) (r : Result (Unit {0}) Refusal).
    Goes (g.D.Disk.state c.args.core.now.disk) c.args.core.now.books
    (g.D.Disk.state c.enter-ended.new.core.disk) c.enter-ended.new.core.books
    (step.Make c.args.to.directory c.args.to.generation c.args.name c.args.to.kind) q
    (made_answer q r))
    (sym (c.with_inode.ensures.claims ∙ (λ j. record c.enter-ended.result.claims {
      inode = (c.claim_inode-claim.ensures.claim j).inode;
      generation = (c.claim_inode-claim.ensures.claim j).generation;
    })))
    (sym c.with_inode.ensures.result)
    (goes-after (g.D.Disk.state c.args.core.now.disk) (g.D.Disk.state c.read_tables.new.disk)
    (reads-keep (g.D.Disk.state c.args.core.now.disk)
    (g.D.Disk.state c.read_tables.new.disk) c.read_tables.ensures.stays) c.in-Ok.ensures.no_fault
    (g.D.Disk.state c.enter-ended.new.core.disk) c.args.core.now.books c.enter-ended.new.core.books
    (step.Make c.args.to.directory c.args.to.generation c.args.name c.args.to.kind) _ _
    (entered-goes (g.D.Disk.state c.read_tables.new.disk)
    (g.D.Disk.state c.enter-ended.new.core.disk) c.args.core.now.books c.enter-ended.new.core.books
    c.args.to.directory c.args.to.generation c.args.name c.args.to.kind c.args.to.it c.args.place.now c.args.inode
    c.in-Ok.tables c.enter-ended.result
    (g.met.D.Disk.is_disk c.read_tables.new.disk) (g.met.D.Disk.is_disk c.enter-ended.new.core.disk)
    (safe-keeps (g.D.Disk.state c.args.core.now.disk) (g.D.Disk.state c.read_tables.new.disk)
    (reads-keep (g.D.Disk.state c.args.core.now.disk)
    (g.D.Disk.state c.read_tables.new.disk) c.read_tables.ensures.stays) c.args.core.now.books
    c.requires.safe) c.requires.going (may-on (g.D.Disk.state c.args.core.now.disk)
    (g.D.Disk.state c.read_tables.new.disk) c.read_tables.ensures.stays c.args.core.now.books c.args.to.directory
    c.args.to.generation c.args.name c.args.to.it
    c.args.place.now c.args.inode c.requires.may)
    (λ t. c.in-Ok.ensures.directory (subst (λ (b : Bool). IsTrue b) c.read_tables.ensures.stays.disk.tells t)
    ∙ ap (λ (X : Image). cell_at X (1 + (c.args.to.directory - 1) / 4)) (sym c.read_tables.ensures.stays.cells.now))
    (λ t. c.in-Ok.ensures.inode (subst (λ (b : Bool). IsTrue b) c.read_tables.ensures.stays.disk.tells t)
    ∙ ap (λ (X : Image). cell_at X (1 + (c.args.inode - 1) / 4)) (sym c.read_tables.ensures.stays.cells.now))
    (make-pass-on (g.D.Disk.state c.args.core.now.disk)
    (g.D.Disk.state c.read_tables.new.disk) c.read_tables.ensures.stays c.args.core.now.books
    c.args.to.directory c.args.to.generation c.args.name c.args.to.kind c.requires.rows) c.args.place.now.slot refl
    (enters-as (g.D.Disk.state c.read_tables.new.disk)
    (g.D.Disk.state c.enter-ended.new.core.disk) c.args.core.now.books c.claim_inode-claim.new.self
    c.enter-ended.new.core.books c.args.to.directory c.args.to.generation c.args.name c.args.to.kind c.args.to.it
    c.args.place.now c.args.inode
    c.claim_inode-claim.result.generation c.made_record-made.result c.in-Ok.tables c.args.place.now.slot
    c.enter-ended.result
    c.claim_inode-claim.ensures.claimed gen c.made_record-made.ensures.made c.enter-ended.ensures)))

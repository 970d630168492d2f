use Rattle.std.proofs.Common.{◌≡◌, ℕ, ◌+◌, ◌*◌, arith, refl, sym, ap, ◌∙◌, subst, Ok}
use Rattle.nofs_names.proofs.OnSearches.Entries.{name-some}
use Rattle.nofs_names.proofs.OnSearches.Loops.{Going, going-dead, going-ends, going-found, going-other}
use Rattle.nofs_names.proofs.searches.slots.search_cell.Goals as goal

pub named_inode-requires-clause-entry : goal.named_inode-requires-clause-entry
named_inode-requires-clause-entry g c = name-some c.args.payload.now c.args.name.now c.loop-place.place
    (sym c.if-not-has_name.ensures)

pub loop-place-preserved-then-not-has_name : goal.loop-place-preserved-then-not-has_name
loop-place-preserved-then-not-has_name g c =
    let m = 16 * c.args.slot + c.loop-place.place in
    let next : m + 1 ≡ 16 * c.args.slot + (c.loop-place.place + 1) = omega arith in (
      subst (λ (n : ℕ). Going (g.D.Disk.state c.args.disk.now) (g.D.Disk.state c.loop-place.disk)
          c.args.directory.now.inode c.args.name.now c.args.wants_place (16 * c.args.slot) c.args.slot n c.args.slot
          c.args.unfound.now c.see_other.new.self c.loop-place.records) next
          (going-other (g.D.Disk.state c.args.disk.now) c.args.directory.now.at c.args.directory.now.inode
          c.args.directory.now.record c.args.slot c.args.payload.now c.args.name.now c.args.wants_place
          c.requires.directory c.requires.slot c.requires.cell (g.D.Disk.state c.loop-place.disk)
          (g.D.Disk.state c.loop-place.disk) c.loop-place.place m c.args.unfound.now c.loop-place.unfound
          c.loop-place.records c.loop-place.records c.loop-place.invariant.0 c.loop-place-test.true refl
          c.see_other.new.self (sym c.if-not-has_name.ensures) c.see_other.ensures),
      (let h = c.loop-place-test.true in omega (arith, h)),
    )

pub loop-place-preserved : goal.loop-place-preserved
loop-place-preserved g c =
    let m = 16 * c.args.slot + c.loop-place.place in
    let next : m + 1 ≡ 16 * c.args.slot + (c.loop-place.place + 1) = omega arith in (
      subst (λ (n : ℕ). Going (g.D.Disk.state c.args.disk.now) (g.D.Disk.state c.see_named.new.disk)
          c.args.directory.now.inode c.args.name.now c.args.wants_place (16 * c.args.slot) c.args.slot n c.args.slot
          c.args.unfound.now c.see_dead.new.self c.see_named.new.records) next
          (going-dead (g.D.Disk.state c.args.disk.now) c.args.directory.now.at c.args.directory.now.inode
          c.args.directory.now.record c.args.slot c.args.payload.now c.args.name.now c.args.wants_place
          c.requires.directory c.requires.slot c.requires.cell (g.D.Disk.state c.loop-place.disk)
          (g.D.Disk.state c.see_named.new.disk) c.loop-place.place m c.args.unfound.now c.loop-place.unfound
          c.loop-place.records c.see_named.new.records c.loop-place.invariant.0 c.loop-place-test.true refl
          c.named_inode.result (sym c.if-not-has_name.ensures) c.named_inode.ensures.value c.see_named.result
          c.see_named.ensures c.see_dead.new.self (c.in_ok-see_named.was {u = tt} ∙ ap Ok c.in-None.is)
          c.see_dead.ensures),
      (let h = c.loop-place-test.true in omega (arith, h)),
    )

pub returns-in-Some : goal.returns-in-Some
returns-in-Some g c =
    going-found (g.D.Disk.state c.args.disk.now) c.args.directory.now.at c.args.directory.now.inode
    c.args.directory.now.record c.args.slot c.args.payload.now c.args.name.now c.args.wants_place
    c.requires.directory c.requires.slot c.requires.cell (g.D.Disk.state c.loop-place.disk)
    (g.D.Disk.state c.see_named.new.disk) c.loop-place.place (16 * c.args.slot + c.loop-place.place)
    c.args.unfound.now c.loop-place.unfound c.loop-place.records c.see_named.new.records c.loop-place.invariant.0
    c.loop-place-test.true refl c.named_inode.result (sym c.if-not-has_name.ensures) c.named_inode.ensures.value
    c.see_named.result c.see_named.ensures c.in-Some.found (16 * (c.args.slot + 1)) (c.args.slot + 1)
    c.loop-place.unfound (c.in_ok-see_named.was {u = tt} ∙ ap Ok c.in-Some.is)

pub returns : goal.returns
returns g c = going-ends (g.D.Disk.state c.args.disk.now) c.args.directory.now.at c.args.directory.now.inode
    c.args.directory.now.record c.args.slot c.args.payload.now
    c.args.name.now c.args.wants_place
    c.requires.directory c.requires.slot c.requires.cell
    (g.D.Disk.state c.loop-place.disk) (16 * c.args.slot + c.loop-place.place)
    c.args.unfound.now c.loop-place.unfound c.loop-place.records c.loop-place.invariant.0
    (let h = c.loop-place-test.false in let l =
    c.loop-place.auto.place-end in omega (arith, h, l))

use Rattle.std.proofs.Common.{ℕ, ap, ◌∙◌, arith}
use Rattle.nofs_names.specs.Searches.Slots.{with_holes}
use Rattle.nofs_names.proofs.OnSearches.Loops.{search-found, search-ends}
use Rattle.nofs_names.proofs.searches.slots.search.Goals as goal

pub returns-in-Some : goal.returns-in-Some
returns-in-Some g c = search-found (g.D.Disk.state c.args.disk.now) (g.D.Disk.state c.loop-slot.disk)
    c.args.directory.now.at c.args.directory.now.inode c.args.name.now c.args.wants_place c.loop-slot.slot
    c.loop-slot.unfound c.loop-slot.records c.loop-slot.invariant.0
    (g.D.Disk.state c.search_slot.new.disk) c.search_slot.new.names c.search_slot.new.records c.search_slot.new.unfound
    c.search_slot.result
    c.search_slot.ensures.search c.in_ok-search_slot.field-0 c.in-Some.found
    (c.in_ok-search_slot.was {u = tt}) c.in-Some.is
    c.in_ok-search_slot.ensures.kept

pub returns : goal.returns
returns g c = search-ends (g.D.Disk.state c.args.disk.now) (g.D.Disk.state c.loop-slot.disk)
    c.args.directory.now.at c.args.directory.now.inode c.args.name.now c.args.wants_place c.loop-slot.slot
    c.loop-slot.unfound c.loop-slot.records c.loop-slot.invariant.0 c.args.directory.now.record c.loop-slot.names
    c.see_holes.new.self
    c.requires.directory
    (let h = c.loop-slot-test.false in let l = c.loop-slot.auto.slot-end in let e = c.slot_end-end.ensures in
    omega (arith, h, l, e))
    (c.see_holes.ensures ∙ ap (λ (k : ℕ). with_holes k c.loop-slot.unfound) c.slot_end-end.ensures)
    c.loop-slot.invariant.1

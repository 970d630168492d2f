use Rattle.std.proofs.Common.{◌+◌, ◌/◌, ◌^◌, ◌≤◌, ℕ, Bool, IsTrue, arith, subst, sym}
use Rattle.nofs_model.specs.Geometry.{Image}
use Rattle.nofs_history.specs.declared.machine.steps.Step.TheVariants as step
use Rattle.nofs_state.proofs.OnCores.Unchanged.{goes-after, reads-keep}
use Rattle.nofs_names.proofs.OnSteps.Reads.{directory-on, there-on}
use Rattle.nofs_names.specs.Makes.{made_answer}
use Rattle.nofs_names.specs.Entries.Places.{AreFree, IsEntrySlot, IsSlotCell}
use Rattle.nofs_names.proofs.OnMakes.Reads.{blocks-pass, no-blocks-goes, no-inode-goes}
use Rattle.nofs_names.proofs.OnMakes.Rows.{make-no-slot, place-on, refused-goes}
use Rattle.nofs_names.proofs.OnMakes.Places.{few-blocks}
use Rattle.nofs_names.proofs.makes.steps.make_entry.Goals as goal

pub returns-in-Err : goal.returns-in-Err
returns-in-Err g c = refused-goes (g.D.Disk.state c.args.core.now.disk)
    (g.D.Disk.state c.find_entry_slot.new.disk) c.args.core.now.books c.args.to.directory
    c.args.to.generation c.args.name c.args.to.kind c.refused.result c.in-Err.why c.refused.ensures
    (make-no-slot (g.D.Disk.state c.args.core.now.disk) c.args.core.now.books c.args.to.directory c.args.to.generation
    c.args.name c.args.to.kind
    (g.met.D.Disk.is_disk c.args.core.now.disk) c.requires.safe c.requires.going c.requires.rows c.args.entry
    c.requires.goes_in.there c.requires.goes_in.place
    (g.D.Disk.state c.find_entry_slot.new.disk) c.args.core.now.books.at c.find_entry_slot.new.names
    c.find_entry_slot.result c.in-Err.why
    c.find_entry_slot.ensures c.in-Err.is)

pub returns-in-Err-free_inode : goal.returns-in-Err-free_inode
returns-in-Err-free_inode g c =
    refused-goes _ _ _ _ _ _ _ c.refused-in-Err-free_inode.result _ c.refused-in-Err-free_inode.ensures
    (no-inode-goes _ _ _ c.args.to _ _
    (g.met.D.Disk.is_disk c.find_entry_slot.new.disk) c.find_entry_slot.ensures.stays c.in-Ok.ensures.no_fault
    c.requires.safe c.requires.going
    c.requires.goes_in c.requires.rows _ _ c.free_inode.ensures c.in-Err-free_inode.is)

pub take_blocks-requires-clause-needed : goal.take_blocks-requires-clause-needed
take_blocks-requires-clause-needed g c = let e = c.blocks-2.ensures in let f = few-blocks c.in-Ok.slot in
    omega (arith, e, f)

pub returns-in-Err-take_blocks : goal.returns-in-Err-take_blocks
returns-in-Err-take_blocks g c =
    refused-goes _ _ _ _ _ _ _ c.refused-in-Err-take_blocks.result _ c.refused-in-Err-take_blocks.ensures
    (no-blocks-goes _ _ _ c.args.to _ _
    (g.met.D.Disk.is_disk c.find_entry_slot.new.disk) c.find_entry_slot.ensures.stays c.in-Ok.ensures.no_fault
    c.requires.safe c.requires.going
    c.requires.goes_in c.requires.rows c.find_entry_slot.new.names c.in-Ok.slot c.in-Ok.ensures c.in-Ok-free_inode.inode
    c.in-Ok-free_inode.ensures
    c.blocks-2.result c.blocks-2.ensures _ _ c.take_blocks.ensures c.in-Err-take_blocks.is)

pub make_at-requires-clause-rows : goal.make_at-requires-clause-rows
make_at-requires-clause-rows g c =
    blocks-pass (g.D.Disk.state c.args.core.now.disk) _ c.args.core.now.books c.args.to c.args.name c.args.entry
    (g.met.D.Disk.is_disk c.find_entry_slot.new.disk) c.find_entry_slot.ensures.stays c.in-Ok.ensures.no_fault
    c.requires.safe c.requires.going
    c.requires.goes_in c.requires.rows
    c.find_entry_slot.new.names c.in-Ok.slot c.in-Ok.ensures c.in-Ok-free_inode.inode
    c.in-Ok-free_inode.ensures c.blocks-2.result c.blocks-2.ensures
    c.in-Ok-take_blocks.blocks c.in-Ok-take_blocks.ensures

pub make_at-requires-clause-may : goal.make_at-requires-clause-may
make_at-requires-clause-may g c = record {
  directory = directory-on (g.D.Disk.state c.args.core.now.disk)
      (g.D.Disk.state c.find_entry_slot.new.disk) c.find_entry_slot.ensures.stays
      c.args.core.now.books.at c.args.to.directory c.args.to.it.generation c.args.to.it c.requires.goes_in.directory;
  generation = c.requires.goes_in.generation;
  there = there-on (g.D.Disk.state c.args.core.now.disk)
      (g.D.Disk.state c.find_entry_slot.new.disk) c.find_entry_slot.ensures.stays c.args.core.now.books
      c.args.to.directory c.requires.goes_in.there;
  good = c.requires.goes_in.good;
  range = c.requires.goes_in.entry;
  place = place-on (g.D.Disk.state c.args.core.now.disk)
      (g.D.Disk.state c.find_entry_slot.new.disk) c.find_entry_slot.ensures.stays c.args.core.now.books
      c.args.to.directory c.args.name c.args.entry c.requires.goes_in.place;
  fits = c.in-Ok.ensures.fits;
  slot = λ t. subst (λ (X : Image). IsEntrySlot X c.args.to.directory (c.args.entry / 16) c.in-Ok.slot)
      (sym c.find_entry_slot.ensures.stays.cells.now)
      (c.in-Ok.ensures.found (subst (λ (b : Bool). IsTrue b) c.find_entry_slot.ensures.stays.disk.tells t));
  cell = λ t. subst (λ (X : Image). IsSlotCell X c.in-Ok.slot c.find_entry_slot.new.names.cell)
      (sym c.find_entry_slot.ensures.stays.cells.now)
      (c.in-Ok.ensures.cell (subst (λ (b : Bool). IsTrue b) c.find_entry_slot.ensures.stays.disk.tells t));
  blocks = subst (λ (n : ℕ). AreFree c.args.core.now.books.free_blocks n c.in-Ok-take_blocks.blocks)
      c.blocks-2.ensures c.in-Ok-take_blocks.ensures.free;
  stamps = subst (λ (n : ℕ). c.args.core.now.books.serial + 1 + n ≤ 2 ^ 40)
      c.blocks-2.ensures c.in-Ok-take_blocks.ensures.stamps;
  raised = c.in-Ok-free_inode.ensures.raised;
  above = c.in-Ok-free_inode.ensures.above;
  within = (let w = c.in-Ok-free_inode.ensures.within in let n = c.requires.safe.free_inodes in omega (arith, w, n));
  free = c.in-Ok-free_inode.ensures.free;
}

pub returns-in-Ok-take_blocks : goal.returns-in-Ok-take_blocks
returns-in-Ok-take_blocks g c =
    goes-after (g.D.Disk.state c.args.core.now.disk) (g.D.Disk.state c.find_entry_slot.new.disk)
    (reads-keep (g.D.Disk.state c.args.core.now.disk)
    (g.D.Disk.state c.find_entry_slot.new.disk) c.find_entry_slot.ensures.stays) c.in-Ok.ensures.no_fault
    (g.D.Disk.state c.make_at.new.core.disk) c.args.core.now.books c.make_at.new.core.books
    (step.Make c.args.to.directory c.args.to.generation c.args.name c.args.to.kind) c.make_at.result.claims
    (made_answer c.make_at.result.claims c.make_at.result.result) c.make_at.ensures

use Rattle.std.proofs.Common.{arith, ℕ, sym, ap, ◌∙◌, subst, [], ◌∷◌}
use Rattle.nofs_disk.specs.Disk.{cell_at}
use Rattle.nofs_inode.specs.InodeRecords.{HasRecordSpelling}
use Rattle.nofs_inode.specs.declared.inode.Record.{Record}
use Rattle.nofs_history.specs.Machine.{link_to}
use Rattle.nofs_state.specs.Writes.Cells.{Stores}
use Rattle.nofs_state.specs.Writes.Premises.{RecordIn}
use Rattle.nofs_names.proofs.OnDrops.Records.{relinked-spells}
use Rattle.nofs_names.proofs.OnDrops.NameGoes.{drop-ends}
use Rattle.nofs_names.proofs.OnSteps.Parts.{goes-unread}
use Rattle.nofs_names.proofs.drops.steps.drop_link.Goals as goal

pub with_record-requires-clause-spelling : goal.with_record-requires-clause-spelling
with_record-requires-clause-spelling g c = subst HasRecordSpelling (sym c.without_name-rest.ensures)
    (relinked-spells c.args.it.pair.found.record (link_to c.args.it.pair.at.directory c.args.it.pair.found.entry
    c.args.it.pair.at.generation)
    c.args.it.pair.found.kind c.requires.cleared.finds.known.1 c.requires.cleared.finds.known.0.spelled)

pub returns-in-Ok : goal.returns-in-Ok
returns-in-Ok g c = drop-ends (g.D.Disk.state c.args.core.now.disk) (g.D.Disk.state c.read_block.new.disk)
    (g.D.Disk.state c.write_two.new.core.disk)
    c.args.core.now.books c.write_two.new.core.books c.args.it.pair.at.directory c.args.it.pair.at.generation
    c.args.it.pair.at.name.now c.args.it.pair.it
    c.args.it.pointer
    c.args.it.cell c.read_block.new.last.cell c.with_record.new.table c.args.it.pair.found c.write_two.result
    (g.met.D.Disk.is_disk c.read_block.new.disk) (g.met.D.Disk.is_disk c.write_two.new.core.disk)
    c.read_block.ensures.stays c.in-Ok.ensures.no_fault c.requires.cleared.safe c.requires.cleared.going
    c.requires.cleared.finds.directory
    c.requires.cleared.finds.generation
    c.requires.cleared.finds.there
    c.requires.cleared.finds.known.0 c.requires.cleared.finds.found c.requires.cleared.finds.no_names
    c.requires.keeps (let a =
    c.requires.cleared.clears.area.0 in omega (arith, a))
    c.requires.cleared.clears.held c.requires.cleared.clears.cleared
    (λ t. c.in-Ok.ensures.cell t ∙ ap (cell_at (g.D.Disk.state c.args.core.now.disk).now) c.table_block-block.ensures)
    (subst (λ (q : Record). RecordIn c.read_block.new.last.cell c.args.it.pair.found.inode q c.with_record.new.table)
    c.without_name-rest.ensures
    c.with_record.ensures.here)
    c.with_record.ensures.tag c.requires.cleared.finds.rows
    (subst (λ (n : ℕ). Stores (g.D.Disk.state c.read_block.new.disk) c.args.core.now.books
    (g.D.Disk.state c.write_two.new.core.disk) c.write_two.new.core.books
    ((c.args.it.pointer.block, c.args.it.cell) ∷ (n, c.with_record.new.table) ∷ []) c.write_two.result)
    c.table_block-block.ensures c.write_two.ensures)

pub returns-in-Err : goal.returns-in-Err
returns-in-Err g c = goes-unread _ _ _ _ (g.met.D.Disk.is_disk c.args.core.now.disk) c.requires.cleared.safe
    c.requires.cleared.going c.read_block.ensures.stays c.in-Err.ensures.cause c.requires.cleared.finds.rows

use Rattle.std.proofs.Common.{ap}
use Rattle.nofs_model.specs.Files.{node_in}
use Rattle.nofs_model.specs.declared.image.path.PathAnswer.{PathAnswer}
use Rattle.nofs_files.proofs.OnPuts.LostBlocks.{after-reads, lost-ends, unread-ends, is_ruined}
use Rattle.nofs_files.proofs.OnPuts.LostBlocks.{lead-above, leaf-path, leaf-ruin, reached}
use Rattle.nofs_files.proofs.puts.steps.put_under_leaf.Goals as goal

pub returns-in-Err : goal.returns-in-Err
returns-in-Err g c = unread-ends c.refused.ensures (g.met.D.Disk.is_disk c.args.core.now.disk) c.requires.may
    c.requires.rows c.find_slot.ensures.stays c.in-Err.ensures.cause

pub returns-in-Lost : goal.returns-in-Lost
returns-in-Lost g c = lost-ends c.refused-in-Lost.ensures (g.met.D.Disk.is_disk c.args.core.now.disk)
    c.requires.may c.requires.rows c.find_slot.ensures.stays c.in-Ok.ensures.no_fault
    (leaf-ruin c.requires.may c.requires.from c.requires.slot
    (ap (λ (q : PathAnswer). is_ruined (node_in q)) c.in-Lost.is) c.in-Ok.ensures.found)

pub put_with_leaf-requires-clause-rows : goal.put_with_leaf-requires-clause-rows
put_with_leaf-requires-clause-rows g c =
    lead-above (reached (g.met.D.Disk.is_disk c.args.core.now.disk) c.requires.may c.requires.rows)
    c.find_slot.ensures.stays (leaf-ruin c.requires.may c.requires.from c.requires.slot
    (ap (λ (q : PathAnswer). is_ruined (node_in q)) c.in-Hole.is) c.in-Ok.ensures.found)

pub put_below-requires-clause-rows : goal.put_below-requires-clause-rows
put_below-requires-clause-rows g c =
    lead-above (reached (g.met.D.Disk.is_disk c.args.core.now.disk) c.requires.may c.requires.rows)
    c.find_slot.ensures.stays (leaf-ruin c.requires.may c.requires.from c.requires.slot
    (ap (λ (q : PathAnswer). is_ruined (node_in q)) c.in-Holds.is) c.in-Ok.ensures.found)

pub returns-in-Hole : goal.returns-in-Hole
returns-in-Hole g c = after-reads c.find_slot.ensures.stays c.in-Ok.ensures.no_fault c.put_with_leaf.ensures

pub returns-in-Holds : goal.returns-in-Holds
returns-in-Holds g c = after-reads c.find_slot.ensures.stays c.in-Ok.ensures.no_fault c.put_below.ensures

pub put_with_leaf-requires-clause-path : goal.put_with_leaf-requires-clause-path
put_with_leaf-requires-clause-path g c = leaf-path c.requires.from c.requires.slot

pub put_below-requires-clause-path : goal.put_below-requires-clause-path
put_below-requires-clause-path g c = leaf-path c.requires.from c.requires.slot

use Rattle.std.proofs.Common.{ap}
use Rattle.nofs_model.specs.Files.{node_in}
use Rattle.nofs_model.specs.declared.image.path.PathAnswer.{PathAnswer}
use Rattle.nofs_files.proofs.OnPuts.LostBlocks.{after-reads, child-ruin, lost-ends, unread-ends}
use Rattle.nofs_files.proofs.OnPuts.LostBlocks.{is_ruined, lead-above, reached}
use Rattle.nofs_files.proofs.puts.steps.put_under_child.Goals as goal

pub returns-in-Err : goal.returns-in-Err
returns-in-Err g c = unread-ends c.refused.ensures (g.met.D.Disk.is_disk c.args.core.now.disk) c.requires.may
    c.requires.rows c.find_slot.ensures.stays c.in-Err.ensures.cause

pub returns-in-Lost : goal.returns-in-Lost
returns-in-Lost g c = lost-ends c.refused-in-Lost.ensures (g.met.D.Disk.is_disk c.args.core.now.disk)
    c.requires.may c.requires.rows c.find_slot.ensures.stays c.in-Ok.ensures.no_fault
    (child-ruin c.requires.may c.requires.empty c.requires.path c.requires.top
    (ap (λ (q : PathAnswer). is_ruined (node_in q)) c.in-Lost.is) c.in-Ok.ensures.found)

pub put_with_child-requires-clause-rows : goal.put_with_child-requires-clause-rows
put_with_child-requires-clause-rows g c =
    lead-above (reached (g.met.D.Disk.is_disk c.args.core.now.disk) c.requires.may c.requires.rows)
    c.find_slot.ensures.stays (child-ruin c.requires.may c.requires.empty c.requires.path c.requires.top
    (ap (λ (q : PathAnswer). is_ruined (node_in q)) c.in-Hole.is) c.in-Ok.ensures.found)

pub put_below-requires-clause-rows : goal.put_below-requires-clause-rows
put_below-requires-clause-rows g c =
    lead-above (reached (g.met.D.Disk.is_disk c.args.core.now.disk) c.requires.may c.requires.rows)
    c.find_slot.ensures.stays (child-ruin c.requires.may c.requires.empty c.requires.path c.requires.top
    (ap (λ (q : PathAnswer). is_ruined (node_in q)) c.in-Holds.is) c.in-Ok.ensures.found)

pub returns-in-Hole : goal.returns-in-Hole
returns-in-Hole g c = after-reads c.find_slot.ensures.stays c.in-Ok.ensures.no_fault c.put_with_child.ensures

pub returns-in-Holds : goal.returns-in-Holds
returns-in-Holds g c = after-reads c.find_slot.ensures.stays c.in-Ok.ensures.no_fault c.put_below.ensures

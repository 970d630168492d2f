use Rattle.std.proofs.Common.{◌∙◌, sym}
use Rattle.nofs_files.proofs.OnPuts.LostBlocks.{after-reads, far-path, lost-ends, unread-ends}
use Rattle.nofs_files.proofs.OnPuts.LostBlocks.{lead-above, reach-above, reached, there}
use Rattle.nofs_files.proofs.OnPuts.LostBlocks.{top-ruins, top-spares}
use Rattle.nofs_files.proofs.puts.steps.put_under_top.Goals as goal

pub returns-in-Err : goal.returns-in-Err
returns-in-Err g c = unread-ends c.refused.ensures (g.met.D.Disk.is_disk c.args.core.now.disk) c.requires.may
    c.requires.rows c.find_slot.ensures.stays c.in-Err.ensures.cause

pub returns-in-Lost : goal.returns-in-Lost
returns-in-Lost g c = lost-ends c.refused-in-Lost.ensures (g.met.D.Disk.is_disk c.args.core.now.disk)
    c.requires.may c.requires.rows c.find_slot.ensures.stays c.in-Ok.ensures.no_fault
    (top-ruins (there c.requires.may) c.args.put.now.slot
    (far-path c.requires.from c.requires.empty.slot).path
    (λ t. sym c.in-Lost.is ∙ c.in-Ok.ensures.found t))

pub put_with_top-requires-clause-rows : goal.put_with_top-requires-clause-rows
put_with_top-requires-clause-rows g c =
    lead-above (reached (g.met.D.Disk.is_disk c.args.core.now.disk) c.requires.may c.requires.rows)
    c.find_slot.ensures.stays (let far = far-path c.requires.from c.requires.empty.slot in
    top-spares (there c.requires.may) c.args.put.now.slot far.child far.path
    (λ t. sym c.in-Hole.is ∙ c.in-Ok.ensures.found t))

pub returns-in-Hole : goal.returns-in-Hole
returns-in-Hole g c = after-reads c.find_slot.ensures.stays c.in-Ok.ensures.no_fault c.put_with_top.ensures

pub put_under_child-requires-clause-rows : goal.put_under_child-requires-clause-rows
put_under_child-requires-clause-rows g c =
    reach-above (reached (g.met.D.Disk.is_disk c.args.core.now.disk) c.requires.may c.requires.rows)
    c.find_slot.ensures.stays

pub returns-in-Holds : goal.returns-in-Holds
returns-in-Holds g c = after-reads c.find_slot.ensures.stays c.in-Ok.ensures.no_fault c.put_under_child.ensures

pub put_with_top-requires-clause-path : goal.put_with_top-requires-clause-path
put_with_top-requires-clause-path g c = far-path c.requires.from c.requires.empty.slot

pub put_under_child-requires-clause-path : goal.put_under_child-requires-clause-path
put_under_child-requires-clause-path g c = far-path c.requires.from c.requires.empty.slot

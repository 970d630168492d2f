use Rattle.nofs_files.proofs.OnPuts.LostBlocks.{lead-direct, reached}
use Rattle.nofs_files.proofs.puts.steps.put_new_block.Goals as goal

pub put_in_hole-requires-clause-rows : goal.put_in_hole-requires-clause-rows
put_in_hole-requires-clause-rows g c =
    lead-direct (reached (g.met.D.Disk.is_disk c.args.core.now.disk) c.requires.may c.requires.rows)
    c.if-put-lt8.true

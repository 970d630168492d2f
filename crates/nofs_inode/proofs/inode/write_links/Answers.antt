use Rattle.nofs_inode.specs.OtherRecords.{links-more}
use Rattle.nofs_inode.proofs.inode.write_links.Goals as goal

pub loop-j-preserved : goal.loop-j-preserved
loop-j-preserved c =
    links-more c.args.at c.loop-j.j c.args.links.now _ c.args.bytes.now c.loop-j.bytes c.write_link_at.new.bytes
    c.told-links c.loop-j-test.true
    c.loop-j.invariant c.write_link_at.ensures.value c.write_link_at.ensures.beside

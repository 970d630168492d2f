use Rattle.nofs_agree.specs.Chain.{is_agreed_link}
use Rattle.nofs_model.specs.Files.{files_in}
use Rattle.nofs_reader.specs.Image.{image_of}
use Rattle.nofs_reader.proofs.OnReads.{tally-ends}
use Rattle.nofs_reader.proofs.stats.count_links.Goals as goal

pub returns-clause-links : goal.returns-clause-links
returns-clause-links c =
    tally-ends (is_agreed_link (files_in (image_of c.args.bytes.now)) c.args.it.now.inode) c.args.bytes.now
    c.args.it.now.at c.args.it.now.inode c.args.it.now.«record» c.loop-place.place c.loop-place.links c.requires
    c.loop-place.invariant c.loop-place-test.false

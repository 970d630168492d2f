use Rattle.nofs_agree.specs.Chain.{is_agreed_link}
use Rattle.nofs_model.specs.Files.{files_in}
use Rattle.nofs_reader.specs.Image.{image_of}
use Rattle.nofs_reader.proofs.OnReads.{Tallied}
use Rattle.nofs_reader.proofs.stats.count_links.Given as goal

abbrev pub invariant-loop-place : goal.invariant-loop-place
invariant-loop-place l =
    Tallied (is_agreed_link (files_in (image_of l.bytes)) l.it.inode) l.it.record.links l.place l.links

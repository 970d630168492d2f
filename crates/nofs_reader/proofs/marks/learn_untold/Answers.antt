use Rattle.nofs_reader.specs.Image.{image_of}
use Rattle.nofs_reader.proofs.OnMarks.{links-is, marks-goes}
use Rattle.nofs_reader.proofs.marks.learn_untold.Goals as goal

pub returns-clause-agreed : goal.returns-clause-agreed
returns-clause-agreed c =
    links-is c.args.bytes.now c.args.at.now c.args.inode c.in_ok-it.it c.in_ok-agreed.agreed c.requires.root
    c.requires.label c.in_ok-it.ensures.known c.in_ok-agreed.ensures.agreed

pub returns-clause-marks : goal.returns-clause-marks
returns-clause-marks c =
    let X = image_of c.args.bytes.now in
    marks-goes X c.args.marks.now c.any_agreed_link.new.marks c.mark.new.marks c.any_agreed_link.ensures.marks
    (c.mark.ensures X c.any_agreed_link.ensures.marks.marks
    (links-is c.args.bytes.now c.args.at.now c.args.inode c.in_ok-it.it c.in_ok-agreed.agreed c.requires.root
    c.requires.label c.in_ok-it.ensures.known c.in_ok-agreed.ensures.agreed))

use Rattle.std.proofs.Common.{Option, IfSome, is_some, sym, ap, ◌∙◌, subst}
use Rattle.nofs_inode.specs.declared.inode.Record.{Record}
use Rattle.nofs_agree.specs.Chain.{IsPartner}
use Rattle.nofs_reader.specs.Image.{disk_of}
use Rattle.nofs_reader.proofs.OnMarks.{way-above, way-none}
use Rattle.nofs_reader.proofs.marks.way_up.Goals as goal

pub returns-in-None-clause-way : goal.returns-in-None-clause-way
returns-in-None-clause-way c =
    way-none c.args.bytes.now c.args.at.now c.args.directory c.in_ok-it.it c.first_link-link.result
    c.requires.directory c.if-directory-eq1.false c.if-directory-eq2.false c.in_ok-it.ensures.known
    c.first_link-link.ensures (ap is_some (sym c.in-None.is) ∙ c.in_ok-partner.ensures.pair)

pub returns-in-Some-clause-way : goal.returns-in-Some-clause-way
returns-in-Some-clause-way c =
    way-above c.args.bytes.now c.args.at.now c.args.directory c.in_ok-it.it c.first_link-link.result
    c.requires.directory c.if-directory-eq1.false c.if-directory-eq2.false c.in_ok-it.ensures.known
    c.first_link-link.ensures (ap is_some (sym c.in-Some.is) ∙ c.in_ok-partner.ensures.pair) c.in-Some.field-0
    (subst (λ (o : Option Record). IfSome o (IsPartner (disk_of c.args.bytes.now) c.args.at.now c.in_ok-it.it
    c.first_link-link.result)) c.in-Some.is c.in_ok-partner.ensures.directory)

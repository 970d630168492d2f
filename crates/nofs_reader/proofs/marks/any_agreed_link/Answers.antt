use Rattle.std.proofs.Common.{sym, ◌∙◌}
use Rattle.nofs_reader.proofs.OnMarks.{unlinked-ends, unlinked-goes}
use Rattle.nofs_reader.proofs.marks.any_agreed_link.Goals as goal

pub loop-place-preserved : goal.loop-place-preserved
loop-place-preserved c =
    unlinked-goes c.args.bytes.now c.args.inode c.args.it.now c.args.marks.now c.loop-place.marks
    c.is_marked_link.new.marks c.loop-place.place c.loop-place.invariant c.is_marked_link.ensures.marks
    (sym c.if-branch.false ∙ c.in_ok-is_marked_link.ensures.agreed)

pub returns-clause-agreed : goal.returns-clause-agreed
returns-clause-agreed c =
    unlinked-ends c.args.bytes.now c.args.at.now c.args.inode c.args.it.now c.args.marks.now c.loop-place.marks
    c.loop-place.place c.requires.known c.loop-place.invariant c.loop-place-test.false

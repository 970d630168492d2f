use Rattle.std.proofs.Common.{List, ℕ, length, sym, subst}
use Rattle.nofs_reader.specs.Image.{image_of}
use Rattle.nofs_reader.specs.Marks.{AreMarks}
use Rattle.nofs_reader.proofs.OnMarks.{marks-none}
use Rattle.nofs_reader.proofs.usage.count_at.Goals as goal

pub count_all-requires-clause-marks : goal.count_all-requires-clause-marks
count_all-requires-clause-marks c =
    let X = image_of c.args.bytes.now in
    subst (λ (l : List ℕ). AreMarks X l) (sym c.clear.ensures) (marks-none X (length c.args.marks.now))

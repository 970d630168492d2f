use Rattle.std.proofs.Common.{sym}
use Rattle.nofs_shared.proofs.OnIndex.Lines.{found-good, found-line}
use Rattle.nofs_shared.proofs.index.Index.found.Goals as goal

pub returns-in-Some-clause-finds : goal.returns-in-Some-clause-finds
returns-in-Some-clause-finds c = found-line c.args.self.now c.code_of.result c.in-Some.line.now c.args.directory
    c.args.generation c.args.name.now c.found.result (sym c.in-Some.ensures.value) c.found.ensures.of c.found.ensures.is

pub returns-in-Some-clause-good : goal.returns-in-Some-clause-good
returns-in-Some-clause-good c = found-good c.in-Some.line.now c.args.directory c.args.generation c.args.name.now
    c.found.result c.found.ensures.of

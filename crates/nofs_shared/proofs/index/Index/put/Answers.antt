use Rattle.nofs_shared.proofs.OnIndex.Lines.{put-line}
use Rattle.nofs_shared.proofs.index.Index.put.Goals as goal

pub returns : goal.returns
returns c = put-line c.args.self.now.lines c.insert-done.new.self c.code_of-code.result c.args.line
    c.insert-done.result c.insert-done.ensures.updates c.insert-done.ensures.err

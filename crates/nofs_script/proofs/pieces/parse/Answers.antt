use Rattle.std.proofs.Common.{[]}
use Rattle.nofs_script.proofs.pieces.parse.Goals as goal

pub returns-clause-exact : goal.returns-clause-exact
returns-clause-exact c = (c.end.ensures c.args.text.now (c.with_piece.ensures.read [] c.new.ensures.read)).exact

pub returns-clause-session : goal.returns-clause-session
returns-clause-session c = (c.end.ensures c.args.text.now (c.with_piece.ensures.read [] c.new.ensures.read)).session

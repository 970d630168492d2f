use Rattle.std.proofs.Common.{sym, ◌∙◌}
use Rattle.nofs_model.specs.Files.{files_in}
use Rattle.nofs_model.proofs.OnFiles.Parents.{root-is}
use Rattle.nofs_model.proofs.names.is_agreed_at_once.Goals as goal

pub returns-else-is_known-clause-yes : goal.returns-else-is_known-clause-yes
returns-else-is_known-clause-yes c = λ e. root-is (files_in c.args.cells.now) c.args.inode (sym c.is_root.ensures ∙ e)

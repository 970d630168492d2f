use Rattle.std.proofs.Common.{sym, ◌∙◌}
use Rattle.nofs_inode.specs.InodeRecords.{no_link}
use Rattle.nofs_model.proofs.OnFiles.Parents.{parent-read, no-parent-read}
use Rattle.nofs_model.proofs.names.parent_of.Goals as goal

pub returns-in_err-place-clause-none : goal.returns-in_err-place-clause-none
returns-in_err-place-clause-none c =
    λ none. no-parent-read c.args.cells.now c.args.directory c.read_inode-it.result c.read_inode-it.ensures.same
    c.requires.directory (sym c.first_pair.ensures ∙ c.in_err-place.was)

pub returns-clause-parent : goal.returns-clause-parent
returns-clause-parent c = parent-read c.args.cells.now c.args.directory c.read_inode-it.result
    c.read_inode-it.ensures.same c.requires.directory
    c.in_ok-place.place no_link (sym c.first_pair.ensures ∙ c.in_ok-place.was)

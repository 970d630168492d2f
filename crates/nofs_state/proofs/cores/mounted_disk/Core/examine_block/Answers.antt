use Rattle.std.proofs.Common.{refl}
use Rattle.nofs_state.proofs.OnBooks.Examined.{examined, of-ok, unread}
use Rattle.nofs_state.proofs.cores.mounted_disk.Core.examine_block.Goals as goal

pub check_block-requires-clause-books : goal.check_block-requires-clause-books
check_block-requires-clause-books g c = record { numbers = c.requires.safe.at; known = c.requires.safe.agreement }

pub returns : goal.returns
returns g c =
    examined c.check_block.ensures.used c.requires.unknown c.in_ok-used.was
    (of-ok _ c.in_ok-used.was c.check_block.ensures.data) c.learn_block.ensures

pub returns-in_err-used : goal.returns-in_err-used
returns-in_err-used g c = unread c.check_block.ensures.used _ c.in_err-used.was c.from_residual.ensures.0 refl

use Rattle.std.proofs.Common.{refl}
use Rattle.nofs_state.proofs.OnBooks.Examined.{examined, unread}
use Rattle.nofs_state.proofs.cores.mounted_disk.Core.examine_inode.Goals as goal

pub check_inode-requires : goal.check_inode-requires
check_inode-requires g c = record { numbers = c.requires.safe.at; known = c.requires.safe.agreement }

pub returns : goal.returns
returns g c = examined c.check_inode.ensures c.requires.unknown c.in_ok-used.was tt c.learn_inode.ensures

pub returns-in_err-used : goal.returns-in_err-used
returns-in_err-used g c = unread c.check_inode.ensures _ c.in_err-used.was c.from_residual.ensures.0 refl

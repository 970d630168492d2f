-- Where there is no such inode.
use Rattle.std.proofs.Common.{sym, arith}
use Rattle.nofs_history.proofs.OnAccepted.Bases.{no_inode, not_zero, not_past}
use Rattle.nofs_history.proofs.accepted.list.is_generation.Goals as goal

pub returns-then-inode-eq0 : goal.returns-then-inode-eq0
returns-then-inode-eq0 c = sym (no_inode c.args.base.now c.args.inode c.args.generation
    (not_zero c.args.base.now c.args.inode c.if-inode-eq0.true))

pub returns-then-from-inodes_of : goal.returns-then-from-inodes_of
returns-then-from-inodes_of c = sym (no_inode c.args.base.now c.args.inode c.args.generation
    (not_past c.args.base.now c.args.inode
    (let a = c.inodes_of.ensures in let b = c.from.ensures in let t = c.if-from-inodes_of.true in
    omega (arith, a, b, t))))

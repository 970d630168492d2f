use Rattle.nofs_agree.proofs.OnChain.{whole-links, whole-root, whole-special}
use Rattle.nofs_agree.proofs.chain.check_chain.Goals as goal

pub returns-then-is_root-clause-agreed : goal.returns-then-is_root-clause-agreed
returns-then-is_root-clause-agreed g c =
    λ t a. whole-root _ _ c.args.at.now c.args.inode c.in_ok-it.it c.read_inode.ensures.stays c.in_ok-it.ensures.found
    c.if-is_root.ensures t

pub returns-then-is_special-clause-agreed : goal.returns-then-is_special-clause-agreed
returns-then-is_special-clause-agreed g c =
    λ t a. whole-special _ _ c.args.at.now c.args.inode c.in_ok-it.it c.read_inode.ensures.stays
    c.in_ok-it.ensures.found c.if-is_root.ensures c.if-is_special.ensures t

pub returns-clause-agreed : goal.returns-clause-agreed
returns-clause-agreed g c =
    whole-links _ _ _ c.args.at.now c.args.known.now c.args.inode c.in_ok-it.it _ c.any_agreed_link.result
    c.read_inode.ensures.stays
    c.in_ok-it.ensures.found c.if-is_root.ensures c.if-is_special.ensures c.any_agreed_link.ensures
